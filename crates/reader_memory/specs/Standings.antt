-- How a reading stands, and the number of it that the reader's memory holds.
-- Assumes nothing.
use Rattle.std.specs.Prelude.{ℕ, ◌≡◌, Result, MatchResult, is_ok}
use Rattle.reader_answers.specs.Number.{refusal_number}
use Rattle.reader_memory.specs.declared.Standing.{Standing}
use Rattle.reader_memory.specs.declared.Standing.TheVariants.{GoesOn, Ended, Refused}
use Rattle.reader_memory.specs.declared.NoStanding.{NoStanding}
use Rattle.reader_memory.specs.Memory.{is_standing, answer_at}

-- the number of how a reading stands
abbrev pub standing_number : Standing → ℕ
standing_number GoesOn = 0
standing_number Ended = 1
standing_number (Refused r) = refusal_number r

-- the answer of a reading that stands so
abbrev pub standing_answer : Standing → ℕ
standing_answer GoesOn = 0
standing_answer Ended = 0
standing_answer (Refused r) = refusal_number r

-- a reading that stands at a number, by that number and its answer
abbrev pub StandsSo : ℕ → Standing → Type 0
StandsSo e s = (standing_number s ≡ e) × (standing_answer s ≡ answer_at e)

-- what a number tells of a reading: nothing, where none stands at it, and its answer is then 0
abbrev pub StandsAt : ℕ → Result Standing NoStanding → Type 0
StandsAt e r = (is_ok r ≡ is_standing e) × MatchResult r (StandsSo e) (λ x. (x.0 ≡ e) × (answer_at e ≡ 0))
