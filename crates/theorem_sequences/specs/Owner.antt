-- Whose entry it is, in one sentence about desk and log: an accepted entry is the work of one bench, and its log record names that bench, as Who does.
-- It follows from the claim `Sequences`: `entry-owned`, in proofs/Owners.antt.
-- Assumes nothing.
use Rattle.std.specs.Prelude.{ℕ, ◌≡◌, List, [], ◌∷◌, ◌++◌}
use Rattle.line_items.specs.Items.{IsName}
use Rattle.line_reader.specs.Wording.{IsLine}
use Rattle.desk_log.specs.Record.{record_of}
use Rattle.desk_state.specs.Desks.{sheet_of_bench, sheet_at}
use Rattle.desk_state.specs.declared.sheet.Sheet.{Sheet}
use Rattle.theorem_work.specs.Calls.{Call, key, ask, who, told}
use Rattle.theorem_work.specs.Gather.{own}
use Rattle.theorem_work.specs.Logged.{records_naming}
use Rattle.theorem_work.specs.Entered.{text_after_calls}
use Rattle.theorem_sequences.specs.Calls.{used_log}
use Rattle.theorem_sequences.specs.Sequences.{desk_answers, state_after, answer_after}

-- the calls before, and the bench's Enter
abbrev pub entering : List Call → ℕ → List Call
entering before bench = before ++ (key bench 10 ∷ [])

pub record Owned {Rows : Type 0} (rows_of : ℕ → Sheet → Rows) (no_rows : Rows) (log : List ℕ) (before : List Call) (bench : ℕ) : Type 0 where
  pub name : List ℕ
  pub value : List ℕ
  pub item : ℕ
  -- its line is what the bench's own keys, by their answers, have left
  pub line : IsLine (text_after_calls [] (own (λ p. p.0) bench (desk_answers rows_of no_rows log before))) name value
  pub named : IsName name item
  -- its record is the next of the used log and names the bench
  pub logged : used_log (state_after rows_of no_rows log (entering before bench)) ≡ used_log (state_after rows_of no_rows log before) ++ record_of bench item value
  -- Who, asked next of the bench's sheet, names the bench, that sheet's count as the entry's number, and how many of its records in the used log name the item
  pub tells : answer_after rows_of no_rows log (entering before bench) (ask (who (sheet_of_bench bench) item))
      ≡ told (record {
        answer = 0;
        entry = (sheet_at (state_after rows_of no_rows log (entering before bench)).desk (sheet_of_bench bench)).count;
        bench = bench;
        times = records_naming (sheet_of_bench bench) item (used_log (state_after rows_of no_rows log (entering before bench)));
      })
