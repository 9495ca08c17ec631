-- A session on a desk in lent memory: what the pairs leave of the state that the memory holds.
-- Assumes nothing.
use Rattle.std.specs.Prelude.{◌≡◌, ℕ, true, false, List, length}
use Rattle.desk_memory.specs.Memory.{is_desk, desk_of, used_of}
use Rattle.theorem_sequences.specs.Calls.{State, state_of}
use Rattle.desk_session.specs.Play.{played}

-- the state that texts t, numbers n and a log hold
abbrev pub held : List ℕ → List ℕ → List ℕ → State
held t n log = state_of (desk_of t n) (used_of n) log

-- an input played on t, n and a log, which leaves t', n' and log'; memory that is no desk stays as it is
pub record PlayLent (t n log input t' n' log' : List ℕ) : Type 0 where
  pub desk : is_desk t n ≡ true → held t' n' log' ≡ played (held t n log) input
  pub no_desk : is_desk t n ≡ false → (t' ≡ t) × (n' ≡ n) × (log' ≡ log)
  pub same_length : (length t' ≡ length t) × (length n' ≡ length n)
