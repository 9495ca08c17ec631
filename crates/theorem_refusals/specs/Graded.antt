-- The table of one graded value, the wall screen's second question (document 01, "Keys and their refusals"). That it is the number of `graded_of` is
-- `graded-table` (proofs/GradedAnswers.antt).
-- Assumes nothing.
use Rattle.std.specs.Prelude.{ℕ, ◌≡◌, List, [], ◌∷◌, ℤ}
use Rattle.number_decimal.specs.Grammar.{IsNumber}
use Rattle.theorem_refusals.specs.Table.{Refusal, ◌when◌}

-- "for row 6, 8 or 10"
pub data HasGrade (row : ℕ) : Type 0 where
  six : row ≡ 6 → HasGrade row
  eight : row ≡ 8 → HasGrade row
  ten : row ≡ 10 → HasGrade row

-- "the answer 0 with the level it earns, or 6 for another row, then 7 for a value that is not a number (the unassigned marks too)"
abbrev pub graded_table : ℕ → List ℕ → List Refusal
graded_table row value =
    6 when (HasGrade row → ⊥) ∷
    7 when ((z : ℤ) → IsNumber value z → ⊥) ∷ []
