-- Demand 3 of the desk itself: its report has the rows of the documents, and the calls are the functions' own definitions.
-- Assumes nothing.
use mathlib.Core.Path.{◌≡◌, refl}
use mathlib.Core.Bool.{Bool, true, false, cond}
use mathlib.Core.List.{List}
use Prim.Native.Nat.{ℕ, ◌≤◌, ◌<◌}
use Rattle.line_items.specs.Items.{item_count}
use Rattle.desk_state.specs.Sheets.{item_at}
use Rattle.desk_state.specs.Desks.{sheet_count, is_sheet, sheet_at}
use Rattle.desk_soundness.specs.Sound.{sound_desk}
use Rattle.desk_state.specs.declared.desk.Desk.{Desk}
use Rattle.rows.specs.Rows.{is_profile, no_rows}
use Rattle.rows_sheet.specs.Sheet.{rows_of}
use Rattle.rows.specs.declared.Rows.{Rows}
use Rattle.desk_questions.specs.Report.{Report, reported_as, reported_of}
use Rattle.theorem_work.specs.Calls.{Call, key, Reply, keyed, reported}
use Rattle.theorem_work.specs.Work.{entries_of}
use Rattle.theorem_work.specs.Owning.{OneOwner}
use Rattle.theorem_sequences.specs.Calls.{report_of}
use Rattle.theorem_sequences.specs.Sequences.{state_after, answer_after, work_after, Sequences}
use Rattle.theorem_sequences.specs.Owner.{Owned}
use Rattle.theorem_sequences.specs.Camps.{TwoRuns}
use Rattle.theorem_sequences.proofs.Demand3.{demand-3}
use Rattle.theorem_sequences.proofs.Owners.{entry-owned, one_owner}
use Rattle.theorem_sequences.proofs.CampRuns.{two_runs}

-- for every log and every sequence of calls
pub desk-sequences : (log : List ℕ) (cs : List Call) → Sequences rows_of no_rows log cs
desk-sequences = demand-3 rows_of no_rows

-- and an accepted entry is its bench's: its line, its record, and what Who tells of it
pub desk-entry-owned : (log : List ℕ) (before : List Call) (bench : ℕ) → answer_after rows_of no_rows log before (key bench 10) ≡ keyed 0 → Owned rows_of no_rows log before bench
desk-entry-owned = entry-owned rows_of no_rows

-- and an item of a sheet has one owner, the bench that first filled it, whom it holds
pub desk-one-owner : (log : List ℕ) (cs : List Call) (sheet item : ℕ) → sheet < sheet_count → 1 ≤ item → item ≤ item_count
    → OneOwner (entries_of sheet (work_after rows_of no_rows log cs).entries) item (item_at (sheet_at (state_after rows_of no_rows log cs).desk sheet) item)
desk-one-owner = one_owner rows_of no_rows

-- and the camps do not see each other
pub desk-two-runs : (log : List ℕ) → TwoRuns rows_of no_rows log
desk-two-runs = two_runs rows_of no_rows

-- the report of the sequence is what the function `desk_questions::report::report` gives
abbrev reply_of : Report → Reply Rows
reply_of r = reported r.answer r.rows

report-by : (s p t : Bool) (rows : Rows)
    → cond s (cond p (cond t (reported 0 rows) (reported 2 no_rows)) (reported 21 no_rows)) (reported 12 no_rows)
    ≡ reply_of (cond s (cond p (cond t (reported_as 0 rows) (reported_as 2 no_rows)) (reported_as 21 no_rows)) (reported_as 12 no_rows))
report-by true true true rows = refl
report-by true true false rows = refl
report-by true false t rows = refl
report-by false p t rows = refl

pub report-is : (d : Desk) (sheet profile : ℕ) → report_of rows_of no_rows d sheet profile ≡ reply_of (reported_of d sheet profile)
unfolding report_of reported_of
report-is d sheet profile = report-by (is_sheet sheet) (is_profile profile) (sound_desk d) (rows_of profile (sheet_at d sheet))
