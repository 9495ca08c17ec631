-- The table of a key call in a sequence (document 01, "Sequences of calls"): "A key's answer is taken from the table above, with typed for the line, the entries so
-- far for sheet and count, and their records for the used log"; document 02, No. 8 and 9: the owners too are those of the entries so far, of the bench's own sheet.
-- Assumes nothing.
use Rattle.std.specs.Prelude.{ℕ, ◌-◌, ◌≤◌, ◌≡◌, List, length}
use Rattle.desk_soundness.specs.SoundLog.{log_most}
use Rattle.desk_state.specs.Desks.{sheet_of_bench}
use Rattle.theorem_refusals.specs.Table.{Refusal, Answers}
use Rattle.theorem_refusals.specs.Key.{key_table}
use Rattle.theorem_work.specs.Calls.{Reply, keyed}
use Rattle.theorem_work.specs.Work.{Work, typed_by, records_of, entries_of}
use Rattle.theorem_work.specs.Owning.{OwnedByAnother}

-- in a log of len bytes; of what makes a desk sound only the log's length is in question
abbrev pub work_table : ℕ → Work → ℕ → ℕ → List Refusal
work_table len w bench byte = key_table (len ≤ log_most) (typed_by w bench) (length (typed_by w bench)) (OwnedByAnother (entries_of (sheet_of_bench bench) w.entries) bench)
    (len - length (records_of w.entries)) bench byte

-- a key's answer is the number that the table gives
pub record FromTable {Rows : Type 0} (rs : List Refusal) (r : Reply Rows) : Type 0 where
  pub number : ℕ
  pub is_number : r ≡ keyed number
  pub given : Answers rs number
