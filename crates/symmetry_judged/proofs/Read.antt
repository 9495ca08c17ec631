-- What is read of the row at a place, in the terms of the list.
-- Assumes nothing.
use mathlib.Core.Path.{◌≡◌, ap, ◌∙◌}
use mathlib.Core.List.{List}
use Prim.Native.Nat.{ℕ, ◌%◌}
use native.Mathlib.Omega.{arith}
use lib.IntN.{ℤ}
use Rattle.symmetry_operators.specs.Operator.{Part, Row}
use Rattle.symmetry_operators.specs.Check.{row_from}
use Rattle.symmetry_operators.specs.Residues.{residues, part_word, packed, word_after, product_code, code_row, row_from_n, identity_code}
use Rattle.symmetry_rows.specs.Residues.{cells}
use Rattle.symmetry_rows.proofs.Cells.{cells-row}

-- the product with the identity is the row itself
word-itself : (p : Part ℕ) → word_after p 1 8 64 ≡ part_word p
word-itself p = ap (λ (n : ℕ). n % 12288) (omega arith)

pub identity_last : (r : Row ℕ) → product_code r identity_code ≡ code_row r
unfolding product_code code_row
identity_last r = λ i. packed (word-itself r.first i) (word-itself r.second i) (word-itself r.third i)

-- the residues of a row, as a row
pub residues_read : (l : List ℤ) {r : List ℕ} → r ≡ cells l → row_from_n r ≡ residues (row_from l)
residues_read l e = ap row_from_n e ∙ cells-row l
