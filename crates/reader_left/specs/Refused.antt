-- What a part of a log gets, by its number and its place.
-- Assumes nothing.
use Rattle.std.specs.Prelude.{ℕ, Result, Ok, Err}
use Rattle.reader_answers.specs.Number.{refusal_number}
use Rattle.reader_left.specs.declared.Refused.{Refused}

-- the number of what a part gets
abbrev pub fed_number : {A : Type 0} → Result A Refused → ℕ
fed_number (Ok x) = 0
fed_number (Err e) = refusal_number e.refusal

-- its place: 0 where it is not refused
abbrev pub fed_place : {A : Type 0} → Result A Refused → ℕ
fed_place (Ok x) = 0
fed_place (Err e) = e.place
