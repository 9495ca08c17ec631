-- What the questions say of lent memory, by the test of its soundness; the item that is asked for, and what soundness says of its bench.
-- Assumes nothing.
use mathlib.Core.Path.{◌≡◌, sym, ap, ◌∙◌}
use mathlib.Core.Bool.{Bool, true, false, cond}
use mathlib.Core.List.{List}
use Prim.Native.Nat.{ℕ, ◌+◌, ◌<◌}
use native.Mathlib.Nat.{zero-add}
use native.Mathlib.Omega.{arith}
use borrow.Author.Tests.{ne_eqb, ltb-true}
use lib.Dec.{ltb}
use lib.ListN.{get_or}
use Rattle.text.proofs.Bools.{and_both, cond_same}
use Rattle.line_items.specs.Items.{item_count, is_item}
use Rattle.desk_state.specs.Sheets.{no_item, item_at}
use Rattle.desk_state.specs.Desks.{bench_count, sheet_count, is_sheet, sheet_at}
use Rattle.desk_state.specs.declared.sheet.Sheet.{Sheet}
use Rattle.desk_memory.specs.Memory.{is_desk, item_numbers, slot, item_in, sheet_from, texts_of, numbers_of, desk_of}
use Rattle.desk_memory.proofs.Desks.{sheet-at, items-long, item-at}
use Rattle.desk_soundness.specs.Sound.{sound_desk, sound_filled, sound_item, sound_sheet}
use Rattle.desk_soundness.specs.SoundMemory.{sound_memory}
use Rattle.desk_soundness.proofs.Everys.{every-each}
use Rattle.desk_soundness.proofs.Memories.{by-sheet, sound-sheet-at}
use Rattle.rows.specs.Rows.{is_profile, no_rows}
use Rattle.rows_sheet.specs.Sheet.{rows_of}
use Rattle.desk_questions.specs.Who.{nobody, told_of, who_of, who_lent}
use Rattle.desk_questions.specs.Report.{reported_as, reported_of, report_lent}

-- a filled item of a sound sheet has one of the benches
filled-bench : (sheet : ℕ) (t n : List ℕ) (k : ℕ) → k < item_count → sound_sheet sheet (sheet_from t n) ≡ true
    → (get_or (slot item_numbers n k) 0 0 ≡ 0 → ⊥) → get_or (slot item_numbers n k) 2 0 < bench_count
unfolding sound_sheet sound_item sound_filled
filled-bench sheet t n k h s f =
    let c = (sheet_from t n).count in
    let one = every-each (sound_item sheet c) (sheet_from t n).items 0 k no_item s (omega (arith, items-long t n)) in
    let i : sound_item sheet c k (item_in t n k) ≡ true =
    sym (ap (sound_item sheet c k) (item-at t n k h)) ∙ sym (ap (λ (m : ℕ). sound_item sheet c m (get_or (sheet_from t n).items k no_item)) (zero-add k)) ∙ one in
    let g : sound_filled sheet c (k + 1) (item_in t n k) ≡ true = simp (ne_eqb (get_or (slot item_numbers n k) 0 0) 0 f) at i in
    let bench = get_or (slot item_numbers n k) 2 0 in
    ltb-true bench bench_count (and_both (ltb bench bench_count) _ g).0

-- what is asked before soundness: the sheet, then the profile
by-profile : {A : Type 0} (t n : List ℕ) (sheet profile : Bool) (x y z w : A)
    → cond (is_desk t n) (cond sheet (cond profile (cond (sound_desk (desk_of t n)) x y) z) w) (cond sheet (cond profile y z) w)
    ≡ cond sheet (cond profile (cond (sound_memory t n) x y) z) w
by-profile t n true profile x y z w = by-sheet t n profile x y z
by-profile t n false profile x y z w = cond_same (is_desk t n) w

module _ (t n : List ℕ) (sheet : ℕ) where
  pub report-by : (profile : ℕ) → report_lent t n sheet profile
      ≡ cond (is_sheet sheet)
      (cond (is_profile profile) (cond (sound_memory t n) (reported_as 0 (rows_of profile (sheet_at (desk_of t n) sheet))) (reported_as 2 no_rows)) (reported_as 21 no_rows))
      (reported_as 12 no_rows)
  unfolding report_lent reported_of
  report-by profile = by-profile t n (is_sheet sheet) (is_profile profile) _ _ _ _

  pub who-by : (item : ℕ) → who_lent t n sheet item
      ≡ cond (is_sheet sheet) (cond (sound_memory t n) (cond (is_item item) (told_of (item_at (sheet_at (desk_of t n) sheet) item)) (nobody 6)) (nobody 2)) (nobody 12)
  unfolding who_lent who_of
  who-by item = by-sheet t n (is_sheet sheet) _ _ _

  module _ (here : sheet < sheet_count) where
    pub item-lent : (k : ℕ) → k < item_count → get_or (sheet_at (desk_of t n) sheet).items k no_item ≡ item_in (texts_of t sheet) (numbers_of n sheet) k
    item-lent k h = ap (λ (s : Sheet). get_or s.items k no_item) (sheet-at t n sheet here) ∙ item-at (texts_of t sheet) (numbers_of n sheet) k h

    pub sound-bench : sound_memory t n ≡ true → (k : ℕ) → k < item_count → (get_or (slot item_numbers (numbers_of n sheet) k) 0 0 ≡ 0 → ⊥)
        → get_or (slot item_numbers (numbers_of n sheet) k) 2 0 < bench_count
    sound-bench s k h = filled-bench sheet (texts_of t sheet) (numbers_of n sheet) k h (sound-sheet-at t n s sheet here)
