-- One log, one history (document 02, No. 14), of calls and logs: the claim about any two sequences of calls, each from a fresh desk and a log of any length and content.
-- That it holds is `one-history` (proofs/Histories.antt).
--
-- What it shuts out, and by which part:
-- - two histories that one log tells alike, as two that differ in a bench, an item, a value or the order of two entries: `same`;
-- - an entry hidden inside another's value, or at the end of a log, so that a longer history has the same first bytes: `beginning`;
-- - a log that tells its history only to who knows it already: `told`, by which the reader of No. 10, with its own judgement and its own sheets, finds the entries one after
--   the other in the log, and `beside`, by which it reads as it does without noting them.
-- How far it goes: the log tells entries, not keys, not refused Enters, and not how a name was typed. What `camp history` prints is tested, not proved: it feeds the log byte
-- by byte and tells, of a sheet whose count grew, the item that has the new count as its entry number.
-- Assumes nothing.
use Rattle.std.specs.Prelude.{ℕ, ◌≡◌, List, [], ◌∷◌, ◌++◌}
use Rattle.desk_state.specs.Desks.{fresh_desk}
use Rattle.desk_state.specs.declared.sheet.Sheet.{Sheet}
use Rattle.reader_entries.specs.Judged.{refusal_of, store_of}
use Rattle.theorem_history.specs.Histories.{Noted, Begins, history_in, NotesBeside}
use Rattle.theorem_work.specs.Calls.{Call}
use Rattle.theorem_work.specs.Work.{Entry}
use Rattle.theorem_sequences.specs.Sequences.{work_after}
use Rattle.theorem_logs.specs.GivesBack.{used_log_after}

-- "accepted entries (bench, item, value as typed)"
abbrev pub note : Entry → Noted
note e = record { bench = e.bench; item = e.item; value = e.value }

-- entries in order, the oldest first; the work has the newest first
abbrev pub oldest_first : List Entry → List Noted
oldest_first [] = []
oldest_first (e ∷ es) = oldest_first es ++ (note e ∷ [])

module _ {Rows : Type 0} (rows_of : ℕ → Sheet → Rows) (no_rows : Rows) where
  -- the accepted entries of a sequence of calls
  abbrev pub history_after : List ℕ → List Call → List Noted
  history_after log cs = oldest_first (work_after rows_of no_rows log cs).entries

  pub record OneHistory (log : List ℕ) (cs : List Call) (log' : List ℕ) (cs' : List Call) : Type 0 where
    -- "two sequences of accepted entries .. that leave the same used log from fresh desks are the same sequence"
    pub same : used_log_after rows_of no_rows log cs ≡ used_log_after rows_of no_rows log' cs' → history_after log cs ≡ history_after log' cs'
    -- "no used log of one is the beginning of another's unless that history is a beginning too"
    pub beginning : (rest : List ℕ) → used_log_after rows_of no_rows log cs ++ rest ≡ used_log_after rows_of no_rows log' cs' → Begins (history_after log cs) (history_after log' cs')
    -- the reader gives the entries in order
    pub told : history_in refusal_of store_of fresh_desk (used_log_after rows_of no_rows log cs) ≡ history_after log cs
    pub beside : NotesBeside refusal_of store_of fresh_desk (used_log_after rows_of no_rows log cs)
