-- What a part of a log leaves: the answer and its place, the desk and its used number, and the reader's own memory.
-- Assumes nothing.
use Rattle.std.specs.Prelude.{ℕ, cond, List, length}
use Rattle.desk_state.specs.declared.desk.Desk.{Desk}
use Rattle.reader_cuts.specs.Reading.{Reading, place_for}
use Rattle.reader_memory.specs.Memory.{over_with, kept_of, state_numbers, holding, standing}

pub record Left : Type 0 where
  pub answer : ℕ
  pub place : ℕ
  pub desk : Desk
  pub used : ℕ
  pub kept : List ℕ
  pub state : List ℕ

abbrev pub left : ℕ → ℕ → Desk → ℕ → List ℕ → List ℕ → Left
left a place d used k z = record { answer = a; place = place; desk = d; used = used; kept = k; state = z }

-- a reading: the used number is where the record starts that is refused or not yet decided, and the end of all records where all was read
abbrev pub left_as : Reading Desk → Left
left_as r = left r.answer (place_for r.answer r.at) r.sheets r.at (kept_of r) (state_numbers r)

-- the same in memory that holds k and z, of any lengths
abbrev pub left_in : List ℕ → List ℕ → Reading Desk → Left
left_in k z r = left r.answer (place_for r.answer r.at) r.sheets r.at (holding k r.rest)
    (standing z (length r.rest) (cond r.over (over_with r.answer) 0))
