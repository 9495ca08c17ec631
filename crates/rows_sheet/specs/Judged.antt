-- The rows that have bounds, where they apply and can be judged (document 01, rows 4, 5, 6, 8, 10 and 12).
-- `Judged a b c r`: the tests a, b and c are those of the bounds of A, B and C, and r is the row; a test that a row does not have fails.
-- Assumes nothing.
use Rattle.std.specs.Prelude.{ℕ, ◌≡◌, Bool, true, false, ◌&&◌, List, leb, ℤ, Some}
use Rattle.number_decimal.specs.Reading.{reading_of}
use Rattle.line_quotes.specs.Quoted.{text_of}
use Rattle.formula_sum.specs.Recognised.{all_recognised}
use Rattle.formula_sum.specs.Sum.{sum_of}
use Rattle.rows_levels.specs.Bounds.{bounds_of, is_graded, judged_of, above}
use Rattle.rows.specs.Rows.{missing}
use Rattle.rows_weight.specs.WeightRows.{millionths, ratio_outside, row4, far_apart, is_weighed_category, row5}
use Rattle.rows_graded.specs.GradedRows.{judged_value, graded_row}
use Rattle.rows_threshold.specs.Threshold.{row12}
use Rattle.rows_threshold.specs.Wording.{IsThreshold}
use Rattle.rows.specs.declared.Row.{Row}

pub data Judged : Bool → Bool → Bool → Row → Type 0 where
  -- row 4: formula and weight are there, every term is recognised, and every symbol has a weight
  ratio : (f w : List ℕ) (given : ℤ) (s : ℕ) → missing f ≡ false → missing w ≡ false → all_recognised (text_of f) ≡ true
      → reading_of w ≡ Some given → sum_of (text_of f) ≡ Some s
      → Judged (ratio_outside 90 110 given (millionths s)) (ratio_outside 95 105 given (millionths s)) (ratio_outside 99 101 given (millionths s)) (row4 f w)
  -- row 5: the category is there too; `far_apart` is "|given − sum| above 1.0" by `far-is` and `far-taken` of rows_weight
  difference : (f w c : List ℕ) (given : ℤ) (s : ℕ) → missing f ≡ false → missing w ≡ false → missing c ≡ false → reading_of w ≡ Some given → sum_of (text_of f) ≡ Some s
      → Judged false false (far_apart given (millionths s) && is_weighed_category (text_of c)) (row5 f w c)
  -- rows 6, 8 and 10: the new name or the old one is assigned
  graded : (row : ℕ) (new old : List ℕ) (z : ℤ) → is_graded row ≡ true → (missing new && missing old) ≡ false → reading_of (judged_value new old) ≡ Some z
      → Judged (above (bounds_of row false).a (judged_of row z)) (above (bounds_of row false).b (judged_of row z)) (above (bounds_of row false).c (judged_of row z)) (graded_row row new old)
  -- row 12: the text is one of the expressions, x in millionths
  threshold : (t : List ℕ) (alone : Bool) (x : ℕ) → missing t ≡ false → IsThreshold (text_of t) alone x
      → Judged (leb (bounds_of 12 alone).a x) (leb (bounds_of 12 alone).b x) (leb (bounds_of 12 alone).c x) (row12 t)
