-- "The used log of any desk grown by these rules gives back its sheets exactly" (document 02, No. 10). That it holds after every sequence of calls is `gives_back`
-- (proofs/Back.antt), and that it is so however the log is cut `gives-back-in-parts` (proofs/Cut.antt).
-- Assumes nothing.
use Rattle.std.specs.Prelude.{ℕ, ◌≡◌, true, List, ◌++◌, length, replicate}
use Rattle.desk_state.specs.Desks.{fresh_desk}
use Rattle.desk_state.specs.declared.sheet.Sheet.{Sheet}
use Rattle.desk_state.specs.declared.desk.Desk.{Desk}
use Rattle.reader_cuts.specs.Reading.{ended}
use Rattle.reader_entries.specs.Judged.{read_on}
use Rattle.reader_cuts.specs.Called.{all_bytes, calls_of}
use Rattle.theorem_reader.specs.Parts.{LogPart, fresh, after_parts, part_answers}
use Rattle.theorem_work.specs.Calls.{Call}
use Rattle.theorem_sequences.specs.Calls.{used_log}
use Rattle.theorem_sequences.specs.Sequences.{state_after}

-- a fresh desk but for its sheets: lines are not in the log
abbrev pub only_sheets : List Sheet → Desk
only_sheets ss = record { lines = fresh_desk.lines; sheets = ss }

module _ {Rows : Type 0} (rows_of : ℕ → Sheet → Rows) (no_rows : Rows) where
  -- the used log after a sequence of calls from a fresh desk, over any log
  abbrev pub used_log_after : List ℕ → List Call → List ℕ
  used_log_after log cs = used_log (state_after rows_of no_rows log cs)

  -- read whole into a fresh desk it is answered with 0, all of it is read, and both sheets are the desk's: every field of every item, and both counts
  abbrev pub GivesBack : List ℕ → List Call → Type 0
  GivesBack log cs =
      read_on true fresh_desk 0 (used_log_after log cs) ≡ ended 0 (only_sheets (state_after rows_of no_rows log cs).desk.sheets) (state_after rows_of no_rows log cs).used

  -- the same fed in parts, p the last of them, with any calls after it: each of them gets 0, with place 0
  pub record BackInParts (log : List ℕ) (cs : List Call) (ps : List (List ℕ)) (p : List ℕ) (more : List LogPart) : Type 0 where
    pub desk : (after_parts fresh (calls_of ps p more)).desk ≡ only_sheets (state_after rows_of no_rows log cs).desk.sheets
    pub answers : part_answers fresh (calls_of ps p more) ≡ replicate (length (calls_of ps p more)) (0, 0)

  abbrev pub GivesBackInParts : List ℕ → List Call → List (List ℕ) → List ℕ → List LogPart → Type 0
  GivesBackInParts log cs ps p more = all_bytes ps ++ p ≡ used_log_after log cs → BackInParts log cs ps p more
