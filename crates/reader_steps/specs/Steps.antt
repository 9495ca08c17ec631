-- The records of some bytes taken one after the other, on a desk in lent memory: the first of them, and all that the bytes decide.
-- Assumes nothing.
use Rattle.std.specs.Prelude.{◌≡◌, ℕ, ◌≤◌, Bool, true, cond, List, eqb, length, drop, Option, Some, None, Result, Ok, Err}
use Rattle.desk_state.specs.declared.desk.Desk.{Desk}
use Rattle.desk_memory.specs.Memory.{desk_of, used_of}
use Rattle.desk_soundness.specs.SoundLog.{log_most}
use Rattle.desk_soundness.specs.SoundMemory.{sound_for_keys}
use Rattle.reader_answers.specs.declared.FeedRefusal.{FeedRefusal}
use Rattle.reader_cuts.specs.Reading.{Reading, undecided, short, ended}
use Rattle.reader_cuts.specs.First.{First, first_of}
use Rattle.reader_entries.specs.Judged.{refusal_of, store_of, read_on}

-- texts t and numbers n hold a desk that is "sound with the record's start as used in a log of 65,536"
abbrev pub sound_here : List ℕ → List ℕ → Bool
sound_here t n = sound_for_keys t n log_most

-- what the first record leaves in texts t and numbers n
abbrev pub first_left : ℕ → ℕ → List ℕ → List ℕ → First Desk
first_left bytes a t n = record { bytes = bytes; answer = a; sheets = desk_of t n; at = used_of n }

-- how many bytes of a record were taken: 0 where the bytes decide none, and where it is refused
abbrev pub bytes_taken : Result (Option ℕ) FeedRefusal → ℕ
bytes_taken (Ok (Some n)) = n
bytes_taken (Ok None) = 0
bytes_taken (Err e) = 0

-- the first record of the bytes bs, which starts at the used number of t and n: so many of its bytes are taken, 0 where no record is, with the answer a
pub record FirstLent (t n bs : List ℕ) (bytes a : ℕ) (t' n' : List ℕ) : Type 0 where
  pub first : sound_here t n ≡ true → first_left bytes a t' n' ≡ first_of refusal_of store_of (desk_of t n) (used_of n) bs
  -- where none is taken, all lent memory is as it was
  pub unchanged : bytes ≡ 0 → (t' ≡ t) × (n' ≡ n)
  pub within : bytes ≤ length bs
  pub same_length : (length t' ≡ length t) × (length n' ≡ length n)

-- a reading that stopped at a place of a part: with the answer 0 its bytes from there on decide no record, with any other the record there is refused
abbrev pub stopped_as : Bool → ℕ → ℕ → Desk → ℕ → List ℕ → Reading Desk
stopped_as last from a d at part = cond (eqb a 0) (short last d at (drop from part)) (ended a d at)

-- the place of a part behind the records that were taken of it: a refusal needs none, since the used number is where the refused record starts
abbrev pub place_stopped : Result ℕ FeedRefusal → ℕ
place_stopped (Ok from) = from
place_stopped (Err e) = 0

-- all records that a part decides, the first of which starts at the used number; it stopped at a place of the part, with the answer a
pub record PartLent (t n part : List ℕ) (from a : ℕ) (t' n' : List ℕ) : Type 0 where
  pub read : sound_here t n ≡ true → (last : Bool) → read_on last (desk_of t n) (used_of n) part ≡ stopped_as last from a (desk_of t' n') (used_of n') part
  pub waits : sound_here t n ≡ true → a ≡ 0 → undecided (drop from part) ≡ true
  pub within : from ≤ length part
  pub same_length : (length t' ≡ length t) × (length n' ≡ length n)
