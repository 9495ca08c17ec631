-- The camps do not see each other (document 02, No. 9): "For two runs with the same calls by one camp in the same order, in which no Enter gets 8, that camp's
-- answers, sheet and lines are equal whatever keys the other camp presses. Both runs start from fresh desks with equal logs, and a camp asks only about its own
-- sheet." That it holds of the desk is `desk-two-runs` (proofs/Desk.antt); for any rows it is `two_runs` (proofs/CampRuns.antt).
--
-- How it is said. A camp's calls are the keys of its two benches and the questions about its own sheet (`camp_of`, theorem_work/specs/Camps.antt). All other calls
-- are free: keys of the other camp, of no bench, questions about the other sheet or about none. `own_calls camp cs` are the camp's calls of the sequence cs, in the
-- order they had, `answers_of camp` keeps of all calls with their answers the camp's. The runs have one log, of any length and content.
--
-- What it shuts out:
-- - a shared count: after one entry of the other camp an entry of this one would get number 2, and `sheet` and Who's answer would differ;
-- - entry numbers that jump: the same, with `sheet`, since an item holds its entry's number, and with `answers`, since Who tells it;
-- - a shared owner: an item that the other camp has filled would be refused with 9 where it is not in the run without it: `answers`;
-- - a shared line: keys of the other camp between this camp's would be in its line: `lines`, and `answers` of its Enter;
-- - a report, or Who, that looks at the other sheet: `answers`;
-- - a refusal because of what the other camp did, but for the full log, which is shared: 8 is why "no Enter gets 8" is asked.
-- Assumes nothing.
use Rattle.std.specs.Prelude.{ℕ, ◌≡◌, true, List}
use Rattle.desk_state.specs.Desks.{sheet_of_bench, line_at, sheet_at}
use Rattle.desk_state.specs.declared.sheet.Sheet.{Sheet}
use Rattle.theorem_work.specs.Calls.{Call}
use Rattle.theorem_work.specs.Camps.{own_calls, answers_of, none_full}
use Rattle.theorem_sequences.specs.Sequences.{desk_answers, state_after}

-- "Both runs start from fresh desks with equal logs": the runs of cs and ds on one log
module _ {Rows : Type 0} (rows_of : ℕ → Sheet → Rows) (no_rows : Rows) (log : List ℕ) where
  -- "that camp's answers, sheet and lines are equal"
  pub record SameForCamp (camp : ℕ) (cs ds : List Call) : Type 0 where
    pub answers : answers_of camp (desk_answers rows_of no_rows log cs) ≡ answers_of camp (desk_answers rows_of no_rows log ds)
    pub sheet : sheet_at (state_after rows_of no_rows log cs).desk camp ≡ sheet_at (state_after rows_of no_rows log ds).desk camp
    pub lines : (bench : ℕ) → sheet_of_bench bench ≡ camp → line_at (state_after rows_of no_rows log cs).desk bench ≡ line_at (state_after rows_of no_rows log ds).desk bench

  -- "the same calls by one camp in the same order", "no Enter gets 8"; the other calls of cs and ds are any
  abbrev pub TwoRuns : Type 0
  TwoRuns = (camp : ℕ) (cs ds : List Call) → own_calls camp cs ≡ own_calls camp ds
      → none_full (desk_answers rows_of no_rows log cs) ≡ true → none_full (desk_answers rows_of no_rows log ds) ≡ true
      → SameForCamp camp cs ds

  -- Why it is so: a camp's part of a run is the whole run of its own calls on the same log, as if no other camp were there, if no Enter of this camp gets 8
  pub record AsIfAlone (camp : ℕ) (cs : List Call) : Type 0 where
    pub answers : answers_of camp (desk_answers rows_of no_rows log cs) ≡ desk_answers rows_of no_rows log (own_calls camp cs)
    pub sheet : sheet_at (state_after rows_of no_rows log cs).desk camp ≡ sheet_at (state_after rows_of no_rows log (own_calls camp cs)).desk camp
    pub lines : (bench : ℕ) → sheet_of_bench bench ≡ camp
        → line_at (state_after rows_of no_rows log cs).desk bench ≡ line_at (state_after rows_of no_rows log (own_calls camp cs)).desk bench
