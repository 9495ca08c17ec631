-- The hydrogen helper and the check of a count, asked of a sheet in lent memory, answer by their tables, and with what count.
-- Assumes nothing.
use mathlib.Core.Path.{◌≡◌, refl, sym, ap, ◌∙◌, subst⁻¹}
use mathlib.Core.Bool.{Bool, true, false, cond}
use mathlib.Core.List.{List}
use Prim.Native.Nat.{ℕ, ◌≤◌}
use native.Mathlib.Omega.{arith}
use borrow.Author.Tests.{ltb-true, lt-ltb}
use Rattle.text.proofs.Bools.{fails, cond-ap}
use Rattle.desk_state.specs.Desks.{sheet_count, is_sheet}
use Rattle.desk_state.specs.declared.desk.Desk.{Desk}
use Rattle.desk_memory.specs.Memory.{desk_of}
use Rattle.desk_soundness.specs.SoundMemory.{sound_memory}
use Rattle.hydrogen_answers.specs.Number.{proposed_number}
use Rattle.hydrogen_check.specs.Check.{check_of}
use Rattle.hydrogen_helper.specs.Helper.{helper_of}
use Rattle.desk_hydrogen.specs.Hydrogens.{Proposal, proposal_in, no_count, formula_on, weight_on, helper_lent, check_lent}
use Rattle.desk_hydrogen.proofs.Asked.{helper-by, check-by}
use Rattle.theorem_refusals.specs.Table.{Refusal, Answers}
use Rattle.theorem_refusals.specs.Key.{SoundLent}
use Rattle.theorem_refusals.proofs.Firsts.{First, this, next, answers}
use Rattle.theorem_refusals.proofs.Sounds.{lent-so}
use Rattle.theorem_hydrogen.specs.Table.{helper_table, check_table, asked_table}
use Rattle.theorem_hydrogen.specs.Smallest.{CheckPromise}
use Rattle.theorem_hydrogen.specs.Lent.{RefusedZero, RightLent, LentSmallest, LentChecked}
use Rattle.theorem_hydrogen.proofs.Helper.{helper-right, helper-smallest, check-promise}
use Rattle.theorem_hydrogen.proofs.Answers.{helper-first, check-first, refused-zero}

-- 12 and 2 have no count
asked-refused : (p : Proposal) → RefusedZero p → (a b : Bool) → RefusedZero (cond a (cond b p (no_count 2)) (no_count 12))
asked-refused p z true true = z
asked-refused p z true false = λ h. refl
asked-refused p z false b = λ h. refl

-- and are not 0
asked-zero : (p : Proposal) (a b : Bool) → (cond a (cond b p (no_count 2)) (no_count 12)).answer ≡ 0 → cond a (cond b p (no_count 2)) (no_count 12) ≡ p
asked-zero p true true e = refl
asked-zero p true false e = absurd (omega arith)
asked-zero p false b e = absurd (omega arith)

module _ (t n : List ℕ) (sheet : ℕ) where
  -- the number, by tests
  asked_is : (p : Proposal) → (cond (is_sheet sheet) (cond (sound_memory t n) p (no_count 2)) (no_count 12)).answer ≡ cond (is_sheet sheet) (cond (sound_memory t n) p.answer 2) 12
  asked_is p = simp (cond-ap (λ (p : Proposal). p.answer))

  -- 12 and 2 stand before the rows of a table
  asked_by : (rs : List Refusal) (k : ℕ) → First rs k → (a b : Bool) → is_sheet sheet ≡ a → sound_memory t n ≡ b
      → First (asked_table (SoundLent t n) sheet rs) (cond a (cond b k 2) 12)
  unfolding sound_memory
  asked_by rs k f true true s e = next (λ h. h (ltb-true sheet sheet_count s)) (next (λ h. h ((lent-so t n).0 e)) f)
  asked_by rs k f true false s e = next (λ h. h (ltb-true sheet sheet_count s)) (this (λ h. fails e ((lent-so t n).1 h)) refl)
  asked_by rs k f false b s e = this (λ h. fails s (lt-ltb sheet sheet_count h)) refl

  abbrev formula : List ℕ
  formula = formula_on (desk_of t n) sheet

  abbrev weight : List ℕ
  weight = weight_on (desk_of t n) sheet

  -- "Refusals, after 12 and 2 as for questions: 22, start not as said; 23, the helper's, no right count"
  pub lent-helper-table : Answers (asked_table (SoundLent t n) sheet (helper_table formula weight)) (helper_lent t n sheet).answer
  lent-helper-table =
      let rs = helper_table formula weight in
      subst⁻¹ (Answers (asked_table (SoundLent t n) sheet rs)) (ap (λ (p : Proposal). p.answer) (helper-by t n sheet) ∙ asked_is _)
      (answers (asked_table (SoundLent t n) sheet rs) _ refl (asked_by rs (proposed_number (helper_of formula weight)) (helper-first formula weight) (is_sheet sheet) (sound_memory t n) refl refl))

  -- "24, the check's, a proposed count that isn't right"
  pub lent-check-table : (count : ℕ) → Answers (asked_table (SoundLent t n) sheet (check_table formula weight count)) (check_lent t n sheet count).answer
  lent-check-table count =
      let rs = check_table formula weight count in
      subst⁻¹ (Answers (asked_table (SoundLent t n) sheet rs)) (ap (λ (p : Proposal). p.answer) (check-by t n sheet count) ∙ asked_is _)
      (answers (asked_table (SoundLent t n) sheet rs) _ refl (asked_by rs (proposed_number (check_of formula weight count)) (check-first formula weight count) (is_sheet sheet) (sound_memory t n) refl refl))

  -- "a refusal's count is 0", of both
  pub lent-refused-zero : RefusedZero (helper_lent t n sheet) × ((count : ℕ) → RefusedZero (check_lent t n sheet count))
  lent-refused-zero = (
    subst⁻¹ RefusedZero (helper-by t n sheet) (asked-refused _ (refused-zero (helper_of formula weight)) (is_sheet sheet) (sound_memory t n)),
    λ count. subst⁻¹ RefusedZero (check-by t n sheet count) (asked-refused _ (refused-zero (check_of formula weight count)) (is_sheet sheet) (sound_memory t n)),
  )

  -- with 0 it is what was found for the sheet's formula and weight
  found : {p q : Proposal} → p ≡ cond (is_sheet sheet) (cond (sound_memory t n) q (no_count 2)) (no_count 12) → p.answer ≡ 0 → p ≡ q
  found {p} {q} by e = by ∙ asked-zero q (is_sheet sheet) (sound_memory t n) (sym (ap (λ (r : Proposal). r.answer) by) ∙ e)

  -- "and otherwise gives the smallest right one"
  pub lent-smallest : LentSmallest t n sheet
  lent-smallest = record { right = right; smallest = smallest }
    where
      is : (helper_lent t n sheet).answer ≡ 0 → helper_lent t n sheet ≡ proposal_in (helper_of formula weight)
      is e = found (helper-by t n sheet) e

      zero : (helper_lent t n sheet).answer ≡ 0 → proposed_number (helper_of formula weight) ≡ 0
      zero e = sym (ap (λ (p : Proposal). p.answer) (is e)) ∙ e

      right : (helper_lent t n sheet).answer ≡ 0 → RightLent t n sheet (helper_lent t n sheet).count
      right e = subst⁻¹ (λ (p : Proposal). RightLent t n sheet p.count) (is e) (helper-right formula weight (zero e))

      smallest : (helper_lent t n sheet).answer ≡ 0 → (m : ℕ) → RightLent t n sheet m → (helper_lent t n sheet).count ≤ m
      smallest e m r = subst⁻¹ (λ (p : Proposal). p.count ≤ m) (is e) (helper-smallest formula weight (zero e) m r)

  -- "accepts only what is right, whoever proposes"
  pub lent-checked : (count : ℕ) → LentChecked t n sheet count
  lent-checked count = record { right = λ e. (promise.accepts.0 (zero e)).1; same = λ e. ap (λ (p : Proposal). p.count) (is e) ∙ promise.count (zero e) }
    where
      promise : CheckPromise formula weight count
      promise = check-promise formula weight count

      is : (check_lent t n sheet count).answer ≡ 0 → check_lent t n sheet count ≡ proposal_in (check_of formula weight count)
      is e = found (check-by t n sheet count) e

      zero : (check_lent t n sheet count).answer ≡ 0 → proposed_number (check_of formula weight count) ≡ 0
      zero e = sym (ap (λ (p : Proposal). p.answer) (is e)) ∙ e
