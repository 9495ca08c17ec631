-- The table of a list of symmetry operators (document 02, No. 5). That it is what the check answers is `list-table` (proofs/ListAnswers.antt).
-- Assumes nothing.
use Rattle.std.specs.Prelude.{List, [], ◌∷◌, ℤ}
use Rattle.symmetry_operators.specs.Check.{operator_rows}
use Rattle.symmetry_operators.specs.Wording.{NoList, NoUnit, NoIdentity, EqualRows, ProductMissing}
use Rattle.theorem_refusals.specs.Table.{Refusal, ◌when◌}

-- "Refusals: 13 text, 14 determinant, 15 no identity, 16 equal rows, 17 a product missing, in that order"; "An empty list gets 15; more than 192 rows, a part
-- row or a number out of range, 13."
abbrev pub list_table : List ℤ → List Refusal
list_table n =
    13 when NoList n ∷
    14 when NoUnit (operator_rows n) ∷
    15 when NoIdentity (operator_rows n) ∷
    16 when EqualRows (operator_rows n) ∷
    17 when ProductMissing (operator_rows n) ∷ []
