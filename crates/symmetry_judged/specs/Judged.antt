-- What is judged of a list of rows: 13 where they are more than 192, else the check of the operators' codes.
-- Assumes nothing.
use Rattle.std.specs.Prelude.{◌*◌, ◌/◌, cond, List, leb, ℤ, length}
use Rattle.symmetry_operators.specs.Check.{row_most, Outcome, outcome}
use Rattle.symmetry_operators.specs.Residues.{judged_n}

unfoldable pub judged_few : List ℤ → Outcome
judged_few l = cond (leb (length l) (12 * row_most)) (judged_n (length l / 12) l) (outcome 13 0)
