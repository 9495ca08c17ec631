-- The numbers of the answers of the hydrogen helper and of the check of a count, and the count that goes with each (document 02, No. 13).
-- Assumes nothing.
use Rattle.std.specs.Prelude.{ℕ, Result, Ok, Err}
use Rattle.hydrogen_answers.specs.declared.Refusal.{Refusal}
use Rattle.hydrogen_answers.specs.declared.Refusal.TheVariants.{NoSheet, Unsound, NoStart, NoneRight, NotRight}

-- "Refusals, after 12 and 2 as for questions: 22, start not as said; 23, the helper's, no right count; 24, the check's, a proposed count that isn't right"
abbrev pub proposed_number : Result ℕ Refusal → ℕ
proposed_number (Ok n) = 0
proposed_number (Err NoSheet) = 12
proposed_number (Err Unsound) = 2
proposed_number (Err NoStart) = 22
proposed_number (Err NoneRight) = 23
proposed_number (Err NotRight) = 24

-- "a refusal's count is 0"
abbrev pub proposed_count : Result ℕ Refusal → ℕ
proposed_count (Ok n) = n
proposed_count (Err r) = 0
