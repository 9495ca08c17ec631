-- What a run of the program leaves. No contract can say what is read: so it is some input.
-- Assumes nothing.
use Rattle.std.specs.Prelude.{ℕ, ◌≡◌, Bool, true, List, length}
use Rattle.desk_state.specs.declared.desk.Desk.{Desk}
use Rattle.theorem_sequences.specs.Calls.{fresh_state}
use Rattle.desk_session.specs.Play.{played}
use Rattle.desk_session.specs.Lent.{PlayLent}

-- the bytes of a part that is full
abbrev pub part_length : ℕ
part_length = 4096

-- one part is played on texts t, numbers n and a log, which leaves t', n' and log', and says whether more may come
pub record PlaysPart (t n log : List ℕ) (more : Bool) (t' n' log' : List ℕ) : Type 0 where
  pub part : List ℕ
  pub plays : PlayLent t n log part t' n' log'
  pub full : more ≡ true → length part ≡ part_length

-- the desk d is what an input leaves on a fresh desk with that log
pub record PlaysAll (log : List ℕ) (d : Desk) : Type 0 where
  pub input : List ℕ
  pub plays : d ≡ (played (fresh_state log) input).desk
