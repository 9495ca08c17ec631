-- The owner that an item of the desk holds is the owner by the entries (document 02, No. 8), on each sheet (No. 9).
-- Assumes nothing.
use mathlib.Core.Path.{◌≡◌, refl, sym, subst}
use mathlib.Core.Bool.{Bool, true, false}
use mathlib.Core.List.{List, [], ◌∷◌}
use Prim.Native.Nat.{ℕ, suc, ◌≤◌}
use native.Mathlib.Omega.{arith}
use borrow.Author.Tests.{eqb-true, eqb-false, eq-eqb}
use lib.Dec.{eqb}
use lib.ListN.{length}
use Rattle.desk_soundness.specs.Sound.{sound_item}
use Rattle.desk_entries.specs.Entry.{open_to}
use Rattle.theorem_work.specs.Work.{Entry, times_of, last_of, owner_of, may_write}
use Rattle.theorem_work.specs.Owning.{Owns, AllOf, OneOwner, nobodys, somebodys}
use Rattle.theorem_work.proofs.OwnerLaws.{Rightful, Named, unnamed, owned, named, owner-is, all_of, held-bench, held-empty, owned-named}
use Rattle.theorem_sequences.proofs.ItemLaws.{filled-some}

-- the desk's test of an item is that of the entries; a sound item that an entry filled is not empty
pub open-to : (es : List Entry) (s n k item bench : ℕ) → Rightful es → sound_item s n k (last_of es item) ≡ true → open_to (last_of es item) bench ≡ may_write es item bench
unfolding open_to
open-to [] s n k item bench h g = sym (eq-eqb bench bench refl)
open-to (e ∷ es) s n k item bench h g = go (open-to es s n k item bench h.1) (eqb item e.item) refl g
  where
    go : (sound_item s n k (last_of es item) ≡ true → open_to (last_of es item) bench ≡ may_write es item bench) → (b : Bool) → eqb item e.item ≡ b
        → sound_item s n k (last_of (e ∷ es) item) ≡ true → open_to (last_of (e ∷ es) item) bench ≡ may_write (e ∷ es) item bench
    go ih true b g =
        let some = filled-some s n k e.bench (length es) (suc (times_of es item)) e.value (rw b at g) in
        let own : owner_of es item e.bench ≡ e.bench = rw (sym (eqb-true item e.item b)) at (eqb-true (owner_of es e.item e.bench) e.bench h.0) in
        rw (b, own, some)
    go ih false b g = rw b (ih (rw b at g))

held-some : (es : List Entry) (s n k item : ℕ) → (times_of es item ≡ 0 → ⊥) → sound_item s n k (last_of es item) ≡ true → 1 ≤ (last_of es item).len
held-some [] s n k item f g = absurd (f refl)
held-some (e ∷ es) s n k item f g = go (held-some es s n k item) (eqb item e.item) refl
  where
    go : ((times_of es item ≡ 0 → ⊥) → sound_item s n k (last_of es item) ≡ true → 1 ≤ (last_of es item).len) → (b : Bool) → eqb item e.item ≡ b → 1 ≤ (last_of (e ∷ es) item).len
    go ih true b =
        let some = eqb-false (length e.value) 0 (filled-some s n k e.bench (length es) (suc (times_of es item)) e.value (rw b at g)) in
        rw b (omega (arith, some))
    go ih false b = rw b (ih (λ z. f (rw b z)) (rw b at g))

pub one-owner-of : (es : List Entry) (s n k item : ℕ) → Rightful es → sound_item s n k (last_of es item) ≡ true → OneOwner es item (last_of es item)
one-owner-of es s n k item h g = go (named es item)
  where
    go : Named es item → OneOwner es item (last_of es item)
    go (unnamed z) = nobodys z (held-empty es item z)
    go (owned bench o) =
        let a = subst (AllOf es item) (owner-is o 0) (all_of es h item 0) in
        somebodys bench o a (held-some es s n k item (owned-named o) g) (held-bench es item bench a (owned-named o))
