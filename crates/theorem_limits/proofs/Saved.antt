-- "A desk saved by the old build is not taken over" (document 02, No. 6): its memory has another length.
-- Assumes nothing.
use mathlib.Core.Path.{◌≡◌, ap, ◌∙◌, sym}
use mathlib.Core.Bool.{false, cond, ◌&&◌}
use mathlib.Core.List.{List}
use Prim.Native.Nat.{ℕ}
use lib.Dec.{eqb}
use lib.ListN.{length}
use Rattle.text.proofs.Bools.{cond-ap}
use Rattle.desk_state.specs.Desks.{is_sheet}
use Rattle.rows.specs.Rows.{is_profile, no_rows}
use Rattle.desk_memory.specs.Memory.{texts_length, numbers_length, is_desk, desk_of}
use Rattle.desk_questions.specs.Report.{Report, reported_as, reported_of, report_lent}
use Rattle.desk_questions.specs.Who.{nobody, who_of, who_lent}
use Rattle.desk_hydrogen.specs.Hydrogens.{no_count, helper_lent, check_lent}
use Rattle.file_cif.specs.Answers.{no_file, file_step, file_lent}
use Rattle.theorem_limits.specs.Before.{SavedBefore, NotTaken}

no_desk : (t n : List ℕ) → SavedBefore t n → is_desk t n ≡ false
unfolding is_desk
no_desk t n s = ap (λ (m : ℕ). eqb m texts_length && eqb (length n) numbers_length) s.texts

module _ (t n : List ℕ) (e : is_desk t n ≡ false) (sheet : ℕ) where
  no_report : (profile : ℕ) → report_lent t n sheet profile ≡ reported_as (cond (is_sheet sheet) (cond (is_profile profile) 2 21) 12) no_rows
  unfolding report_lent
  no_report profile =
      let f : ℕ → Report = λ a. reported_as a no_rows in
      simp e (ap (λ (r : Report). cond (is_sheet sheet) r (f 12)) (sym (cond-ap f (is_profile profile) 2 21)) ∙ sym (cond-ap f (is_sheet sheet) (cond (is_profile profile) 2 21) 12))

  no-who : (item : ℕ) → who_lent t n sheet item ≡ nobody (cond (is_sheet sheet) 2 12)
  unfolding who_lent
  no-who item = simp e (sym (cond-ap nobody (is_sheet sheet) 2 12))

  no-file : (name out : List ℕ) → file_lent t n sheet name out ≡ no_file (cond (is_sheet sheet) 2 12) out
  unfolding file_lent
  no-file name out = simp e (sym (cond-ap (λ (a : ℕ). no_file a out) (is_sheet sheet) 2 12))

  no-hydrogens : helper_lent t n sheet ≡ no_count (cond (is_sheet sheet) 2 12)
  unfolding helper_lent
  no-hydrogens = simp e (sym (cond-ap no_count (is_sheet sheet) 2 12))

  no-right : (count : ℕ) → check_lent t n sheet count ≡ no_count (cond (is_sheet sheet) 2 12)
  unfolding check_lent
  no-right count = simp e (sym (cond-ap no_count (is_sheet sheet) 2 12))

-- every call answers 2, or 12 where there is no such sheet and 21 where there is no such profile, and changes nothing
pub saved-not-taken : (t n : List ℕ) → SavedBefore t n → NotTaken t n
saved-not-taken t n s =
    let e = no_desk t n s in
    record {
      key = λ k. k.no_desk e;
      report = no_report t n e;
      who = no-who t n e;
      file = no-file t n e;
      hydrogens = no-hydrogens t n e;
      right = no-right t n e;
      feed = λ f. f.no_desk e;
    }
