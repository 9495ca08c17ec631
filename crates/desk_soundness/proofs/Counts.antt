-- A turn of the loop that takes the sheets' counts from how many records the used bytes have room for.
-- Assumes nothing.
use mathlib.Core.Path.{◌≡◌, refl, sym, ap, ◌∙◌}
use mathlib.Core.Bool.{Bool, true, false}
use mathlib.Core.List.{List}
use Prim.Native.Nat.{ℕ, suc, ◌+◌, ◌*◌, ◌-◌, ◌/◌, ◌≤◌, ◌<◌}
use native.Mathlib.Numerals.{add-one}
use native.Mathlib.Omega.{arith}
use borrow.Author.Tests.{le-leb, leb-true, leb-false}
use lib.Dec.{leb}
use lib.ListN.{get_or, drop, drop_of_length-le}
use lib.Seq.{drop-cons, get_or-drop}
use Rattle.text.proofs.Bools.{not-holds}
use Rattle.desk_state.specs.Desks.{bench_count, sheet_count, no_sheet}
use Rattle.desk_state.specs.declared.sheet.Sheet.{Sheet}
use Rattle.desk_memory.specs.Memory.{count_at, sheet_numbers, texts_of, numbers_of, desk_of}
use Rattle.desk_memory.proofs.Slots.{slot-get}
use Rattle.desk_memory.proofs.Desks.{sheets-long, sheet-at, count-of}
use Rattle.desk_soundness.specs.SoundLog.{counts_of}

-- the counts of the sheets from s on
abbrev pub counts_from : List ℕ → List ℕ → ℕ → ℕ
counts_from t n s = counts_of (drop s (desk_of t n).sheets)

-- a test that holds where another does, and only there
same_test : (a b c d : ℕ) → (a ≤ b → c ≤ d) → (c ≤ d → a ≤ b) → leb a b ≡ leb c d
same_test a b c d f g = go (leb c d) refl
  where
    go : (x : Bool) → leb c d ≡ x → leb a b ≡ x
    go true e = le-leb a b (g (leb-true c d e))
    go false e = let h = leb-false c d e in not-holds (leb a b) (λ q. let k = f (leb-true a b q) in omega arith)

-- how many records the used bytes have room for
pub six-each : (count used : ℕ) → leb (6 * count) used ≡ leb count (used / 6)
six-each count used = same_test (6 * count) used count (used / 6) (λ h. omega arith) (λ h. omega arith)

-- one count taken
pub count-taken : (count rest left : ℕ) → count ≤ left → leb (count + rest) left ≡ leb rest (left - count)
count-taken count rest left h = same_test (count + rest) left rest (left - count) (λ k. omega arith) (λ k. omega arith)

module _ (t n : List ℕ) (s : ℕ) where
  pub counts_end : sheet_count ≤ s → counts_from t n s ≡ 0
  unfolding counts_of
  counts_end h = ap counts_of (drop_of_length-le (desk_of t n).sheets {i = s} (omega (arith, sheets-long t n)))

  -- the count of sheet s, where it stands in the memory
  pub count-in : s < sheet_count → (get_or (desk_of t n).sheets s no_sheet).count ≡ get_or n (bench_count + s * sheet_numbers + count_at) 0
  count-in h =
      let e : bench_count + (s * sheet_numbers + count_at) ≡ bench_count + s * sheet_numbers + count_at = omega arith in
      ap (λ (x : Sheet). x.count) (sheet-at t n s h) ∙ count-of (texts_of t s) (numbers_of n s) ∙ slot-get sheet_numbers (drop bench_count n) s count_at (omega arith)
      ∙ get_or-drop bench_count n (s * sheet_numbers + count_at) 0 ∙ ap (λ (i : ℕ). get_or n i 0) e

  pub counts-turn : s < sheet_count → counts_from t n s ≡ get_or n (bench_count + s * sheet_numbers + count_at) 0 + counts_from t n (s + 1)
  unfolding counts_of
  counts-turn h =
      ap counts_of (drop-cons (desk_of t n).sheets s no_sheet (omega (arith, sheets-long t n)))
      ∙ ap (λ (c : ℕ). c + counts_of (drop (suc s) (desk_of t n).sheets)) (count-in h)
      ∙ ap (λ (i : ℕ). get_or n (bench_count + s * sheet_numbers + count_at) 0 + counts_from t n i) (sym (add-one s))
