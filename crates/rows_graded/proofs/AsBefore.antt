-- Document 02, No. 4, "all other levels of lines accepted before stay": rows 6, 8 and 10 of a value that was a number before.
-- Assumes nothing.
use Rattle.std.specs.Prelude.{Ok}
use mathlib.Core.Path.{◌≡◌}
use mathlib.Core.Bool.{true, false, ◌&&◌}
use mathlib.Core.List.{List}
use Prim.Native.Nat.{ℕ}
use lib.IntN.{ℤ}
use Rattle.number_decimal.specs.Before.{NumberBefore}
use Rattle.number_decimal.proofs.AsBefore.{reads-as-before}
use Rattle.rows_levels.specs.Bounds.{is_graded, grade_of, graded_of}
use Rattle.rows.specs.Rows.{row_of, missing}
use Rattle.rows_graded.specs.GradedRows.{judged_value, graded_row}

-- the value has the level of the number that it was
pub grade-as-before : (row : ℕ) (v : List ℕ) (z : ℤ) → is_graded row ≡ true → NumberBefore v z → graded_of row v ≡ Ok (grade_of row z)
unfolding graded_of
grade-as-before row v z graded h = simp (graded, reads-as-before v z h)

-- and so has the row
pub graded-row-as-before : (row : ℕ) (new old : List ℕ) (z : ℤ) → is_graded row ≡ true → (missing new && missing old) ≡ false → NumberBefore (judged_value new old) z
    → graded_row row new old ≡ row_of (grade_of row z) 0
unfolding graded_row
graded-row-as-before row new old z graded some h = simp (some, grade-as-before row (judged_value new old) z graded h)
