-- Rows 1 to 3, of formula and category (document 01, "The twelve rows").
-- Assumes nothing.
use Rattle.std.specs.Prelude.{ℕ, cond, ◌||◌, List}
use Rattle.line_categories.specs.Categories.{in_class}
use Rattle.line_quotes.specs.Quoted.{text_of}
use Rattle.formula_sum.specs.Recognised.{all_recognised}
use Rattle.formula_order.specs.Order.{in_order}
use Rattle.formula_class.specs.Class.{formula_class}
use Rattle.rows.specs.Rows.{row_of, no_alert, missing}
use Rattle.rows.specs.declared.Row.{Row}

-- "1. CHEMS_01s (000): A if any term is ill formed or not recognised. Missing: C, reason 1 (house)."
unfoldable pub row1 : List ℕ → Row
row1 formula = cond (missing formula) (row_of 2 1) (cond (all_recognised (text_of formula)) no_alert (row_of 4 0))

-- "2. CHEMS_01o (000): over the symbols of well-formed terms, C first, then H, then the others in rising ASCII order, none twice; otherwise B. Missing: C, reason 1 (house)."
-- Document 02, No. 2: "with C present as now, without C plain rising ASCII order, none twice there either".
unfoldable pub row2 : List ℕ → Row
row2 formula = cond (missing formula) (row_of 2 1) (cond (in_order (text_of formula)) no_alert (row_of 3 0))

-- "3. CHEMS_02 (000): .. Mismatch: General. Formula or category missing: General, reason 1; else row 1 at A: General, reason 2."
unfoldable pub row3 : List ℕ → List ℕ → Row
row3 formula category =
    cond (missing formula || missing category) (row_of 1 1)
    (cond (all_recognised (text_of formula)) (cond (in_class (formula_class (text_of formula)) (text_of category)) no_alert (row_of 1 0)) (row_of 1 2))
