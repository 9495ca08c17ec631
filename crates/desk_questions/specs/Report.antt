-- The report of a sheet (document 01, "Keys and their refusals", "Two questions"; document 02, No. 9: "the questions .. name a sheet"; No. 11: profiles).
-- Assumes nothing.
use Rattle.std.specs.Prelude.{ℕ, cond, Result, Ok, Err, List}
use Rattle.desk_soundness.specs.Sound.{sound_desk}
use Rattle.desk_state.specs.Desks.{is_sheet, sheet_at}
use Rattle.desk_state.specs.declared.desk.Desk.{Desk}
use Rattle.desk_memory.specs.Memory.{is_desk, desk_of}
use Rattle.rows.specs.Rows.{is_profile, no_rows}
use Rattle.rows_sheet.specs.Sheet.{rows_of}
use Rattle.rows.specs.declared.Rows.{Rows}
use Rattle.desk_answers.specs.Number.{asked_number}
use Rattle.desk_answers.specs.declared.QuestionRefusal.{QuestionRefusal}

-- a report: the number of its answer, and rows
pub record Report : Type 0 where
  pub answer : ℕ
  pub rows : Rows

abbrev pub reported_as : ℕ → Rows → Report
reported_as a rows = record { answer = a; rows = rows }

-- the function's result; with a refusal the rows are all level 0, reason 0
abbrev pub report_in : Result Rows QuestionRefusal → Report
report_in (Ok rows) = reported_as 0 rows
report_in (Err refusal) = reported_as (asked_number refusal) no_rows

-- "Report gives twelve rows; on an unsound desk it gives 2 and rows all level 0, reason 0"; document 02, No. 9: "12, no such sheet, before 2, with the report
-- as with 2"; No. 11: "21, no such profile, after 12 and before 2; with 21 too the report is as with 2"
unfoldable pub reported_of : Desk → ℕ → ℕ → Report
reported_of d sheet profile =
    cond (is_sheet sheet)
    (cond (is_profile profile) (cond (sound_desk d) (reported_as 0 (rows_of profile (sheet_at d sheet))) (reported_as 2 no_rows)) (reported_as 21 no_rows))
    (reported_as 12 no_rows)

-- of lent memory; memory that is no desk gets 2
unfoldable pub report_lent : List ℕ → List ℕ → ℕ → ℕ → Report
report_lent t n sheet profile =
    cond (is_desk t n) (reported_of (desk_of t n) sheet profile)
    (cond (is_sheet sheet) (cond (is_profile profile) (reported_as 2 no_rows) (reported_as 21 no_rows)) (reported_as 12 no_rows))
