-- The residues of a row, as a row, are the operator's.
-- Assumes nothing.
use Rattle.std.proofs.Common.{◌≡◌, refl, List}
use Rattle.std.specs.Prelude.{ℤ}
use Rattle.symmetry_operators.specs.Check.{row_from}
use Rattle.symmetry_operators.specs.Residues.{residues, row_from_n}
use Rattle.symmetry_rows.specs.Residues.{cells}

-- as a row
pub cells-row : (l : List ℤ) → row_from_n (cells l) ≡ residues (row_from l)
unfolding cells row_from_n row_from
cells-row l = refl
