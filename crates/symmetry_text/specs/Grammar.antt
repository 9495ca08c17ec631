-- An operator's text in the words of document 02, No. 5: "An operator is three parts with commas, no spaces". A part is in `Grammar` of
-- symmetry_parts, and has no space. Assumes nothing.
use Rattle.std.specs.Prelude.{ℕ, ◌≡◌, Option, Some, None, List, ◌∷◌, ◌++◌, ℤ}
use Rattle.symmetry_operators.specs.Operator as operator
use Rattle.symmetry_operators.specs.Check.{row_from}
use Rattle.symmetry_parts.specs.Grammar.{IsPart}
use Rattle.symmetry_readings.specs.Answers.{numbers}
use Rattle.symmetry_readings.specs.declared.OperatorRow.{OperatorRow}

-- "three parts with commas": the text of an operator, and its row
pub record IsOperator (t : List ℕ) (r : operator.Row ℤ) : Type 0 where
  pub first : List ℕ
  pub second : List ℕ
  pub third : List ℕ
  pub text : t ≡ first ++ (44 ∷ (second ++ (44 ∷ third)))
  pub is_first : IsPart first r.first
  pub is_second : IsPart second r.second
  pub is_third : IsPart third r.third

-- "Reading a text gives its row, or 13": none is said exactly of a text that is no operator
abbrev pub ReadAs : List ℕ → Option OperatorRow → Type 0
ReadAs t (Some r) = IsOperator t (row_from (numbers (Some r)))
ReadAs t None = (r : operator.Row ℤ) → IsOperator t r → ⊥
