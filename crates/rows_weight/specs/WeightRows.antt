-- Rows 4 and 5, of formula, weight and category (document 01, "The twelve rows").
-- Assumes nothing.
use Rattle.std.specs.Prelude.{ℕ, suc, ◌+◌, ◌*◌, ◌^◌, ◌<◌, Bool, true, false, cond, ◌&&◌, ◌||◌, List, ltb, ℤ, pos, negsuc, Option, Some, None}
use Rattle.std.specs.Int.Signed.{mag}
use Rattle.number_decimal.specs.Reading.{reading_of}
use Rattle.line_quotes.specs.Quoted.{text_of}
use Rattle.formula_sum.specs.Recognised.{all_recognised}
use Rattle.formula_sum.specs.Sum.{sum_of}
use Rattle.line_categories.specs.declared.Class.TheVariants.{MetalOrganic, Organic}
use Rattle.rows_levels.specs.Level.{level_of}
use Rattle.rows_levels.specs.Bounds.{bounds_of}
use Rattle.rows.specs.Rows.{row_of, no_alert, missing}
use Rattle.rows.specs.declared.Row.{Row}
use Rattle.line_categories.specs.Categories.{in_class}
use Rattle.rows_weight.specs.declared.Weighed.{Weighed}

-- a sum in thousandths, in millionths
abbrev pub millionths : ℕ → ℕ
millionths s = s * 1000

-- the given weight, as it is read, and the sum; a weight that is no number, which no sound sheet holds, cannot be judged
abbrev pub weighed_by : Option ℤ → Option ℕ → Option Weighed
weighed_by (Some given) (Some s) = Some (record { given = given; sum = millionths s })
weighed_by (Some given) None = None
weighed_by None sum = None

-- what is judged of a formula's text and a weight: nothing where "row 1 at A or a symbol without a weight"
unfoldable pub weighed_of : List ℕ → List ℕ → Option Weighed
weighed_of t weight = cond (all_recognised t) (weighed_by (reading_of weight) (sum_of t)) None

-- what the code's arithmetic rests on
abbrev pub SmallWeighed : Option Weighed → Type 0
SmallWeighed (Some w) = (mag w.given < 10 ^ 15) × (w.sum < 10 ^ 16)
SmallWeighed None = Unit {0}

-- RW = given / sum is below p hundredths, by cross-multiplication; a weight below zero is below them all. Both weights are in millionths.
abbrev pub ratio_below : ℕ → ℤ → ℕ → Bool
ratio_below p (pos given) sum = ltb (given * 100) (p * sum)
ratio_below p (negsuc given) sum = true

-- RW is above p hundredths
abbrev pub ratio_above : ℕ → ℤ → ℕ → Bool
ratio_above p (pos given) sum = ltb (p * sum) (given * 100)
ratio_above p (negsuc given) sum = false

abbrev pub ratio_outside : ℕ → ℕ → ℤ → ℕ → Bool
ratio_outside lo hi given sum = ratio_below lo given sum || ratio_above hi given sum

-- RW is outside the bounds of row 4: "Below 0.90 or above 1.10: A; below 0.95 or above 1.05: B; below 0.99 or above 1.01: C."
unfoldable pub ratio_level : ℤ → ℕ → ℕ
ratio_level given sum =
    level_of (ratio_outside (bounds_of 4 false).a (bounds_of 4 true).a given sum) (ratio_outside (bounds_of 4 false).b (bounds_of 4 true).b given sum) (ratio_outside (bounds_of 4 false).c (bounds_of 4 true).c given sum)

-- row 4 where formula and weight are there
abbrev pub ratio_row : Option Weighed → Row
ratio_row (Some w) = row_of (ratio_level w.given w.sum) 0
ratio_row None = row_of 2 2

-- "4. CHEMW_01r (002): RW = given / sum. .. Formula or weight missing: C, reason 1; else row 1 at A or a symbol without a weight: C, reason 2 (house)."
unfoldable pub row4 : List ℕ → List ℕ → Row
row4 formula weight =
    cond (missing formula || missing weight) (row_of 2 1) (ratio_row (weighed_of (text_of formula) weight))

-- "|given − sum| above 1.0", both in millionths
unfoldable pub far_apart : ℤ → ℕ → Bool
far_apart (pos given) sum = ltb (sum + 1000000) given || ltb (given + 1000000) sum
far_apart (negsuc given) sum = ltb 1000000 (suc given + sum)

-- "category FO, FM, CO or CM"
unfoldable pub is_weighed_category : List ℕ → Bool
is_weighed_category t = in_class Organic t || in_class MetalOrganic t

-- row 5 where formula, weight and category are there
abbrev pub difference_row : Option Weighed → List ℕ → Row
difference_row (Some w) category = cond (far_apart w.given w.sum && is_weighed_category category) (row_of 2 0) no_alert
difference_row None category = row_of 0 2

-- "5. CHEMW_01d (002): |given − sum| above 1.0 and category FO, FM, CO or CM: C. Formula, weight or category missing: level 0, reason 1; then as row 4: level 0, reason 2."
unfoldable pub row5 : List ℕ → List ℕ → List ℕ → Row
row5 formula weight category =
    cond (missing formula || (missing weight || missing category)) (row_of 0 1) (difference_row (weighed_of (text_of formula) weight) (text_of category))
