-- What a C program is told of symmetry operators, by numbers.
-- Assumes nothing.
use Rattle.symmetry_operators.specs.Check.{Outcome, outcome}
use Rattle.export_symmetry.specs.declared.SymmetryChecked.{SymmetryChecked}

-- what the check of a list told
abbrev pub checked_told : SymmetryChecked → Outcome
checked_told r = outcome r.answer r.pairs
