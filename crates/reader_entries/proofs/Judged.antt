-- Laws of the judgement of a record: the item that it names, as the memory holds it, and the answer by each test.
-- Assumes nothing.
use mathlib.Core.Path.{◌≡◌, refl, sym, subst, ◌∙◌}
use mathlib.Core.Bool.{Bool, true, false, false≢true}
use mathlib.Core.List.{List}
use mathlib.Core.Logic.{◌⊎◌, inl, inr}
use Prim.Native.Nat.{ℕ, ◌+◌, ◌-◌, ◌≤◌}
use native.Mathlib.Omega.{arith}
use lib.ListN.{length}
use Rattle.text.proofs.Bools.{cond-first}
use Rattle.desk_state.specs.Desks.{sheet_of_bench}
use Rattle.desk_state.specs.declared.desk.Desk.{Desk}
use Rattle.desk_memory.specs.Memory.{item_numbers, is_desk, slot, item_from, numbers_of, desk_of, used_of}
use Rattle.desk_entries.specs.Entry.{open_to, own_item}
use Rattle.desk_entries.specs.Lent.{EntryLent}
use Rattle.desk_entries.proofs.Camps.{open_lent}
use Rattle.reader_records.proofs.Shapes.{shaped-parts, shaped-item}
use Rattle.desk_log.specs.Record.{bench_told, item_told, value_told}
use Rattle.reader_records.specs.Shape.{shaped}
use Rattle.reader_entries.specs.Judged.{refusal_of, store_of}
use Rattle.reader_entries.specs.Lent.{RecordLent}

-- the answer by the tests
module _ (start : ℕ) (r : List ℕ) (d : Desk) where
  pub judged-shapeless : shaped start r ≡ false → 18 ≡ refusal_of start r d
  unfolding refusal_of
  judged-shapeless e = rw e

  pub judged-foreign : shaped start r ≡ true → open_to (own_item d (bench_told r) (item_told r)) (bench_told r) ≡ false → 19 ≡ refusal_of start r d
  unfolding refusal_of
  judged-foreign e f = rw (e, f)

  pub judged-taken : shaped start r ≡ true → open_to (own_item d (bench_told r) (item_told r)) (bench_told r) ≡ true → 0 ≡ refusal_of start r d
  unfolding refusal_of
  judged-taken e f = rw (e, f)

-- ---- what the code leaves, by each return

module _ (t n r : List ℕ) where
  pub taken_none : is_desk t n ≡ false → RecordLent t n r 2 t n
  taken_none e = record {
    answer = λ d. absurd (false≢true (sym e ∙ d));
    stored = λ z. absurd (omega (arith, z));
    full = λ f. (refl, refl);
    refused = λ z. (refl, refl);
    no_desk = λ f z. omega (arith, z);
    same_length = (refl, refl);
  }

  module _ (desk : is_desk t n ≡ true) where
    refused-so : (a : ℕ) → a ≡ refusal_of (used_of n) r (desk_of t n) → (a ≡ 0 → ⊥) → RecordLent t n r a t n
    refused-so a e ne = record {
      answer = λ d. e;
      stored = λ z. absurd (ne z);
      full = λ f. (refl, refl);
      refused = λ z. (refl, refl);
      no_desk = λ f. absurd (false≢true (sym f ∙ desk));
      same_length = (refl, refl);
    }

    pub taken-shapeless : shaped (used_of n) r ≡ false → RecordLent t n r 18 t n
    taken-shapeless e = refused-so 18 (judged-shapeless (used_of n) r (desk_of t n) e) (λ z. omega (arith, z))

    module _ (shape : shaped (used_of n) r ≡ true) where
      -- what is asked of the numbers of the bench's own sheet is so of its item
      pub open-asked : (b : Bool) → ((v : List ℕ) → b ≡ open_to (item_from v (slot item_numbers (numbers_of n (sheet_of_bench (bench_told r))) (item_told r - 1))) (bench_told r))
          → open_to (own_item (desk_of t n) (bench_told r) (item_told r)) (bench_told r) ≡ b
      open-asked b h =
          let k = shaped-item (used_of n) r shape in
          open_lent t n (bench_told r) (shaped-parts (used_of n) r shape).bench_in (item_told r) (omega (arith, k.0, k.1)) ∙ sym (h _)

      pub taken-foreign : open_to (own_item (desk_of t n) (bench_told r) (item_told r)) (bench_told r) ≡ false → RecordLent t n r 19 t n
      taken-foreign e = refused-so 19 (judged-foreign (used_of n) r (desk_of t n) shape e) (λ z. omega (arith, z))

      pub taken-stored : (t' n' : List ℕ) → open_to (own_item (desk_of t n) (bench_told r) (item_told r)) (bench_told r) ≡ true
          → EntryLent t n (bench_told r) (item_told r) (value_told r) (used_of n + length r) t' n' → RecordLent t n r 0 t' n'
      unfolding store_of
      taken-stored t' n' e p = record {
        answer = λ d. judged-taken (used_of n) r (desk_of t n) shape e;
        stored = λ z f. p.taken f;
        full = p.not_taken;
        refused = λ z. absurd (z refl);
        no_desk = λ f. absurd (false≢true (sym f ∙ desk));
        same_length = p.same_length;
      }

-- an entry by what the record tells
pub entry-told : (t n r : List ℕ) (bench item : ℕ) (v : List ℕ) (used : ℕ) (t' n' : List ℕ) → bench ≡ bench_told r → item ≡ item_told r → v ≡ value_told r
    → EntryLent t n bench item v used t' n' → EntryLent t n (bench_told r) (item_told r) (value_told r) used t' n'
entry-told t n r bench item v used t' n' a b e h =
    subst (λ (x : List ℕ). EntryLent t n (bench_told r) (item_told r) x used t' n') e
    (subst (λ (k : ℕ). EntryLent t n (bench_told r) k v used t' n') b (subst (λ (k : ℕ). EntryLent t n k item v used t' n') a h))

-- a record that is taken has a record's shape, and its item is open to its bench
pub taken-shaped : (start : ℕ) (r : List ℕ) (d : Desk) → refusal_of start r d ≡ 0 → shaped start r ≡ true
unfolding refusal_of
taken-shaped start r d e = (cond-first (shaped start r) _ 18 0 (λ z. omega (arith, z)) e).0

pub taken-open : (start : ℕ) (r : List ℕ) (d : Desk) → refusal_of start r d ≡ 0 → open_to (own_item d (bench_told r) (item_told r)) (bench_told r) ≡ true
unfolding refusal_of
taken-open start r d e =
    (cond-first (open_to (own_item d (bench_told r) (item_told r)) (bench_told r)) 0 19 0 (λ z. omega (arith, z)) (cond-first (shaped start r) _ 18 0 (λ z. omega (arith, z)) e).1).0

-- a record gets 0, 18 or 19
pub refusal-known : (start : ℕ) (r : List ℕ) (d : Desk) → (refusal_of start r d ≡ 0) ⊎ ((18 ≤ refusal_of start r d) × (refusal_of start r d ≤ 20))
unfolding refusal_of
refusal-known start r d = go (shaped start r) (open_to (own_item d (bench_told r) (item_told r)) (bench_told r)) refl refl
  where
    go : (a b : Bool) → shaped start r ≡ a → open_to (own_item d (bench_told r) (item_told r)) (bench_told r) ≡ b
        → (refusal_of start r d ≡ 0) ⊎ ((18 ≤ refusal_of start r d) × (refusal_of start r d ≤ 20))
    go true true p q = inl (rw (p, q))
    go true false p q = inr (rw (p, q) (omega arith, omega arith))
    go false b p q = inr (rw p (omega arith, omega arith))
