-- `formula_totals::counts::same_counts` meets its contract: lists of one length are the same where their counters are. Assumes nothing.
use native.Mathlib.Omega.{arith}
use Prim.Native.Nat.{ℕ, ◌<◌}
use mathlib.Core.Path.{◌≡◌, refl, sym, ap, ◌∙◌}
use mathlib.Core.Bool.{Bool, true, false, false≢true}
use mathlib.Core.List.{List}
use borrow.Author.Tests.{eq-eqb, eqb-true}
use lib.Dec.{eqb}
use lib.ListN.{length, get_or}
use Rattle.std.specs.Bool.{Decides}
use Rattle.std.proofs.lemmas.List.{get_or_default, same_lists}
use Rattle.std.proofs.lemmas.Bool.Decides.{Decides-eqb}
use Rattle.std.proofs.lemmas.Slice.Eq.{slice_eq-Decides}
use Rattle.formula_elements.specs.Elements.{element_count}
use Rattle.formula_moiety.specs.Compare.{every_below}
use Rattle.formula_moiety.proofs.Every.{every-each, every-all}
use Rattle.formula_totals.proofs.counts.same_counts.Goals as goal

alike : List ℕ → List ℕ → ℕ → Bool
alike a b k = eqb (get_or a k 0) (get_or b k 0)

-- counters that are alike are the same lists
lists : (a b : List ℕ) → length a ≡ element_count → length b ≡ element_count → every_below element_count (alike a b) ≡ true → a ≡ b
unfolding alike
lists a b l m h =
    same_lists a b (l ∙ sym m) (λ k d q.
    let u : k < element_count = omega arith in
    let v : k < length b = omega arith in
    get_or_default a k d 0 q ∙ eqb-true _ _ (every-each element_count k (alike a b) h u) ∙ get_or_default b k 0 d v)

decided : (a b : List ℕ) (r : Bool) → length a ≡ element_count → length b ≡ element_count → Decides r (a ≡ b) → r ≡ every_below element_count (alike a b)
unfolding alike
decided a b true l m d =
    sym (every-all element_count (alike a b) (λ k q. eq-eqb _ _ (ap (λ (x : List ℕ). get_or x k 0) (d.0 refl))))
decided a b false l m d = go (every_below element_count (alike a b)) refl
  where
    go : (x : Bool) → every_below element_count (alike a b) ≡ x → false ≡ x
    go true e = absurd (false≢true (d.1 (lists a b l m e)))
    go false e = refl

pub returns : goal.returns
unfolding alike
returns c = decided _ _ _ c.requires.0 c.requires.1 (slice_eq-Decides Decides-eqb _ _ _ c.eq.ensures)
