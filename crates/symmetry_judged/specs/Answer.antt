-- What the check of a list says, by its numbers.
-- Assumes nothing.
use Rattle.std.specs.Prelude.{ℕ, Result, Ok, Err}
use Rattle.symmetry_answers.specs.declared.ListRefusal.{ListRefusal}
use Rattle.symmetry_answers.specs.declared.ListRefusal.TheVariants.{NoList, BadDeterminant, NoIdentity, EqualRows, ProductMissing}
use Rattle.symmetry_answers.specs.Number.{list_number}
use Rattle.symmetry_operators.specs.Check.{Outcome, outcome}

-- how many pairs were looked at; "the pair count is 0 for 13 to 16"
abbrev pub pairs_looked : Result ℕ ListRefusal → ℕ
pairs_looked (Ok pairs) = pairs
pairs_looked (Err NoList) = 0
pairs_looked (Err BadDeterminant) = 0
pairs_looked (Err NoIdentity) = 0
pairs_looked (Err EqualRows) = 0
pairs_looked (Err (ProductMissing pairs)) = pairs

-- the answer's number, and the number of pairs
abbrev pub outcome_of : Result ℕ ListRefusal → Outcome
outcome_of c = outcome (list_number c) (pairs_looked c)
