-- Questions asked of what was read from a used log (document 02, No. 10: it "gives back its sheets exactly"; document 01, "Two questions"): Who and Report are answered as
-- by the desk that wrote the log. That it is so is `asked-same`, and however the log was cut `asked-same-in-parts` (proofs/Asked.antt).
-- Assumes nothing.
use Rattle.std.specs.Prelude.{ℕ, ◌≡◌, List, ◌++◌}
use Rattle.desk_state.specs.declared.sheet.Sheet.{Sheet}
use Rattle.desk_state.specs.declared.desk.Desk.{Desk}
use Rattle.desk_questions.specs.Who.{who_of}
use Rattle.desk_questions.specs.Report.{reported_of}
use Rattle.reader_cuts.specs.Called.{all_bytes, calls_of}
use Rattle.theorem_reader.specs.Parts.{LogPart, fresh, after_parts, whole}
use Rattle.theorem_work.specs.Calls.{Call}
use Rattle.theorem_sequences.specs.Sequences.{state_after}
use Rattle.theorem_logs.specs.GivesBack.{used_log_after}

-- two desks that answer both questions alike, of every sheet, item and profile, those that are none too: the number of the answer, bench, entry and times, and all rows
pub record AskedAlike (d e : Desk) : Type 0 where
  pub who : (sheet item : ℕ) → who_of d sheet item ≡ who_of e sheet item
  pub report : (sheet profile : ℕ) → reported_of d sheet profile ≡ reported_of e sheet profile

module _ {Rows : Type 0} (rows_of : ℕ → Sheet → Rows) (no_rows : Rows) where
  -- the used log after a sequence of calls, read whole into a fresh desk
  abbrev pub AskedSame : List ℕ → List Call → Type 0
  AskedSame log cs = AskedAlike (whole (used_log_after rows_of no_rows log cs)).sheets (state_after rows_of no_rows log cs).desk

  -- the same fed in parts, p the last of them, with any calls after it
  abbrev pub AskedSameInParts : List ℕ → List Call → List (List ℕ) → List ℕ → List LogPart → Type 0
  AskedSameInParts log cs ps p more =
      all_bytes ps ++ p ≡ used_log_after rows_of no_rows log cs → AskedAlike (after_parts fresh (calls_of ps p more)).desk (state_after rows_of no_rows log cs).desk
