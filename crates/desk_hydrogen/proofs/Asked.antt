-- What helper and check say of lent memory, by the tests of sheet and soundness.
-- Assumes nothing.
use Rattle.std.specs.Prelude.{Result}
use mathlib.Core.Path.{◌≡◌, sym, ap, ap₂, ◌∙◌}
use mathlib.Core.Bool.{true, false, cond}
use mathlib.Core.List.{List}
use Prim.Native.Nat.{ℕ, ◌≤◌, ◌<◌}
use native.Mathlib.Omega.{arith}
use borrow.Author.Tests.{lt-ltb, le-ltb}
use lib.ListN.{get_or}
use Rattle.line_items.specs.Items.{item_count}
use Rattle.desk_state.specs.Sheets.{value_in, no_item}
use Rattle.desk_state.specs.Desks.{sheet_count, is_sheet, sheet_at}
use Rattle.desk_state.specs.declared.sheet.Sheet.{Sheet}
use Rattle.desk_memory.specs.Memory.{item_in, texts_of, numbers_of, desk_of}
use Rattle.desk_memory.proofs.Desks.{item-at}
use Rattle.desk_soundness.specs.SoundMemory.{sound_memory}
use Rattle.desk_soundness.proofs.Memories.{by-sheet, sheet-lent}
use Rattle.hydrogen_answers.specs.declared.Refusal.{Refusal}
use Rattle.hydrogen_check.specs.Check.{check_of}
use Rattle.hydrogen_helper.specs.Helper.{helper_of}
use Rattle.desk_hydrogen.specs.Hydrogens.{Proposal, proposal_in, no_count, formula_on, weight_on, helper_on, check_on, helper_lent, check_lent}

module _ (t n : List ℕ) (sheet : ℕ) where
  abbrev asked : Proposal → Proposal
  asked p = cond (is_sheet sheet) (cond (sound_memory t n) p (no_count 2)) (no_count 12)

  pub helper-by : helper_lent t n sheet ≡ asked (proposal_in (helper_of (formula_on (desk_of t n) sheet) (weight_on (desk_of t n) sheet)))
  unfolding helper_lent helper_on
  helper-by = by-sheet t n (is_sheet sheet) _ _ _

  pub check-by : (count : ℕ) → check_lent t n sheet count ≡ asked (proposal_in (check_of (formula_on (desk_of t n) sheet) (weight_on (desk_of t n) sheet) count))
  unfolding check_lent check_on
  check-by count = by-sheet t n (is_sheet sheet) _ _ _

  -- there is no such sheet, or its desk is not sound
  pub no-sheet : (p : Proposal) → sheet_count ≤ sheet → no_count 12 ≡ asked p
  no-sheet p h = sym (simp (le-ltb sheet sheet_count h))

  pub unsound : (p : Proposal) → sheet < sheet_count → sound_memory t n ≡ false → no_count 2 ≡ asked p
  unsound p h e = sym (simp (lt-ltb sheet sheet_count h, e))

  -- else what q answers of formula and weight, as they are lent in the sheet's block
  module _ (h : sheet < sheet_count) {a b : List ℕ} (x : a ≡ texts_of t sheet) (y : b ≡ numbers_of n sheet) where
    value_lent : (k : ℕ) → k < item_count → {v : List ℕ} → v ≡ value_in (item_in a b k) → v ≡ value_in (get_or (sheet_at (desk_of t n) sheet).items k no_item)
    value_lent k l {v} e =
        e ∙ ap value_in (sym (item-at a b k l)) ∙ ap (λ (s : Sheet). value_in (get_or s.items k no_item)) (sheet-lent t n sheet h x y)

    pub answered : (q : List ℕ → List ℕ → Result ℕ Refusal) → sound_memory t n ≡ true → {v w : List ℕ} → v ≡ value_in (item_in a b 0) → w ≡ value_in (item_in a b 1)
        → {r : Result ℕ Refusal} → r ≡ q v w → proposal_in r ≡ asked (proposal_in (q (formula_on (desk_of t n) sheet) (weight_on (desk_of t n) sheet)))
    answered q e f g r =
        ap proposal_in (r ∙ ap₂ q (value_lent 0 (omega arith) f) (value_lent 1 (omega arith) g)) ∙ sym (simp (lt-ltb sheet sheet_count h, e))
