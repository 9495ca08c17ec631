-- Feeding one part of a log, for every desk, used number and reader's memory (document 02, No. 10). What reading is, whole and in parts, is in specs/Reading.antt
-- of reader_cuts; which records are taken, in specs/Judged.antt of reader_entries and specs/Shape.antt of reader_records.
-- Assumes nothing.
use Rattle.std.specs.Prelude.{ℕ, ◌≡◌, Bool, true, false, cond, ◌&&◌, List, ◌++◌, eqb, length, get_or, Option, Some, None}
use Rattle.desk_state.specs.declared.desk.Desk.{Desk}
use Rattle.desk_memory.specs.Memory.{is_desk, desk_of, used_of}
use Rattle.reader_cuts.specs.Reading.{undecided, place_for}
use Rattle.reader_memory.specs.Memory.{kept_in, stands_at, is_reader, answer_at}
use Rattle.reader_memory.specs.declared.Standing.{Standing}
use Rattle.reader_memory.specs.Standings.{StandsSo}
use Rattle.reader_entries.specs.Judged.{sound_at, read_on}
use Rattle.reader_steps.specs.Steps.{sound_here}
use Rattle.reader_left.specs.Left.{Left, left, left_as}

-- "2 first (not sound with the record's start as used in a log of 65,536, or kept bytes that already decide a record)"; memory that is no reader's is not sound either
unfoldable pub sound_reader : Desk → ℕ → List ℕ → List ℕ → Bool
sound_reader d used k z = sound_at d used && (is_reader k z && undecided (kept_in k z))

-- "with 2 the whole part changes nothing"
abbrev pub unsound : Desk → ℕ → List ℕ → List ℕ → Left
unsound d used k z = left 2 0 d used k z

-- "parts after it, or after the last part, change nothing and repeat its answer"
abbrev pub again : Desk → ℕ → List ℕ → List ℕ → Left
again d used k z = left (answer_at (stands_at z)) (place_for (answer_at (stands_at z)) used) d used k z

-- one part: the bytes that are kept and then the part's are read
unfoldable pub feed_of : Desk → ℕ → List ℕ → List ℕ → List ℕ → Bool → Left
feed_of d used k z part last =
    cond (sound_reader d used k z)
    (cond (eqb (stands_at z) 0) (left_as (read_on last d used (kept_in k z ++ part))) (again d used k z))
    (unsound d used k z)

-- a part fed to texts t, numbers n and the reader's memory k and z, which answers a with its place and leaves t', n', k' and z'; memory that is no desk is unsound, and
-- stays as it is
pub record FeedLent (t n k z part : List ℕ) (last : Bool) (a place : ℕ) (t' n' k' z' : List ℕ) : Type 0 where
  pub desk : is_desk t n ≡ true → left a place (desk_of t' n') (used_of n') k' z' ≡ feed_of (desk_of t n) (used_of n) k z part last
  pub no_desk : is_desk t n ≡ false → (a ≡ 2) × (place ≡ 0) × (t' ≡ t) × (n' ≡ n) × (k' ≡ k) × (z' ≡ z)
  pub same_length : (length t' ≡ length t) × (length n' ≡ length n)

-- a desk and a reader's memory that can be read on, with so many bytes kept of an undecided record, by a reading that stands so
pub record ReadsFrom (t n k z : List ℕ) (len : ℕ) (s : Standing) : Type 0 where
  pub sound : sound_here t n ≡ true
  pub reader : is_reader k z ≡ true
  pub waits : undecided (kept_in k z) ≡ true
  pub kept : len ≡ get_or z 0 0
  pub stands : StandsSo (stands_at z) s

-- where a part can be read: nothing, where the desk or the reader's memory is not sound
abbrev pub Readable : List ℕ → List ℕ → List ℕ → List ℕ → Option (ℕ × Standing) → Type 0
Readable t n k z None = (sound_here t n && (is_reader k z && undecided (kept_in k z))) ≡ false
Readable t n k z (Some p) = ReadsFrom t n k z p.0 p.1
