-- A graded value has the number of its table.
-- Assumes nothing.
use Rattle.std.specs.Prelude.{ℤ, Option, Some, None, Err}
use mathlib.Core.Path.{◌≡◌, refl}
use mathlib.Core.Bool.{Bool, true, false, cond, ◌||◌}
use mathlib.Core.List.{List}
use Prim.Native.Nat.{ℕ}
use borrow.Author.Tests.{eqb-true, eqb-false}
use lib.Dec.{eqb}
use Rattle.number_decimal.specs.Reading.{reading_of}
use Rattle.number_decimal.proofs.Agree.{agree}
use Rattle.rows_levels.specs.Bounds.{read_grade, graded_of, graded_number}
use Rattle.rows_levels.specs.declared.Ungraded.TheVariants.{NoRow}
use Rattle.theorem_refusals.specs.Table.{Answers}
use Rattle.theorem_refusals.specs.Graded.{HasGrade, six, eight, ten, graded_table}
use Rattle.theorem_refusals.proofs.Firsts.{First, this, next, answers}

module _ (row : ℕ) (value : List ℕ) where
  graded : HasGrade row → (r : Option ℤ) → r ≡ reading_of value → First (graded_table row value) (graded_number (read_grade row r))
  graded h (Some z) e = next (λ n. n h) (next (λ none. none z (agree value (Some z) e)) refl)
  graded h None e = next (λ n. n h) (this (agree value None e) refl)

  other_row : (row ≡ 6 → ⊥) → (row ≡ 8 → ⊥) → (row ≡ 10 → ⊥) → HasGrade row → ⊥
  other_row a b c (six e) = a e
  other_row a b c (eight e) = b e
  other_row a b c (ten e) = c e

  by_row : (p q r : Bool) → eqb row 6 ≡ p → eqb row 8 ≡ q → eqb row 10 ≡ r
      → First (graded_table row value) (graded_number (cond (p || (q || r)) (read_grade row (reading_of value)) (Err NoRow)))
  by_row true q r e6 e8 e10 = graded (six (eqb-true row 6 e6)) (reading_of value) refl
  by_row false true r e6 e8 e10 = graded (eight (eqb-true row 8 e8)) (reading_of value) refl
  by_row false false true e6 e8 e10 = graded (ten (eqb-true row 10 e10)) (reading_of value) refl
  by_row false false false e6 e8 e10 = this (other_row (eqb-false row 6 e6) (eqb-false row 8 e8) (eqb-false row 10 e10)) refl

  -- "the answer 0 with the level it earns, or 6 for another row, then 7 for a value that is not a number"
  pub graded-table : Answers (graded_table row value) (graded_number (graded_of row value))
  unfolding graded_of
  graded-table = answers (graded_table row value) (graded_number (graded_of row value)) refl (by_row (eqb row 6) (eqb row 8) (eqb row 10) refl refl refl)
