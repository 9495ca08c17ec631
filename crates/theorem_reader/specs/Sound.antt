-- A sound reader in the request's words (document 02, No. 10). That it is what the test says is `reader-so` (proofs/Sounds.antt).
-- Assumes nothing.
use Rattle.std.specs.Prelude.{ℕ, ◌≤◌, ◌<◌, ◌≡◌, List, length}
use Rattle.desk_log.specs.Record.{head_length, length_told}
use Rattle.desk_state.specs.declared.desk.Desk.{Desk}
use Rattle.desk_soundness.specs.SoundLog.{log_most}
use Rattle.desk_soundness.specs.Wording.{Sound, SoundWith}
use Rattle.reader_cuts.specs.Reading.{length_least, length_most}
use Rattle.reader_memory.specs.Memory.{reader_kept, reader_state, kept_in, stands_at}

-- bytes that do not "already decide a record": fewer than six, or fewer than the good length that they tell
pub data Undecided (cs : List ℕ) : Type 0 where
  few : length cs < head_length → Undecided cs
  part : length_least ≤ length_told cs → length_told cs ≤ length_most → length cs < length_told cs → Undecided cs

-- how a reading can stand: it goes on, it ended with 0, or it was refused with 18, 19 or 20
pub data Stands (e : ℕ) : Type 0 where
  goes_on : e ≡ 0 → Stands e
  ended : e ≡ 1 → Stands e
  refused : 18 ≤ e → e ≤ 20 → Stands e

-- "2 first (not sound with the record's start as used in a log of 65,536, or kept bytes that already decide a record)", and memory that is no reader's
pub record SoundReader (d : Desk) (used : ℕ) (k z : List ℕ) : Type 0 where
  pub desk : Sound d
  pub log : SoundWith d log_most used
  pub kept : length k ≡ reader_kept
  pub state : length z ≡ reader_state
  pub stands : Stands (stands_at z)
  pub waits : Undecided (kept_in k z)
