-- Nothing else moved with document 02, No. 2: for a formula with C among its symbols row 2 is what it was before, stated here once more.
-- Assumes nothing.
use Prim.Native.Nat.{ℕ}
use mathlib.Core.Path.{◌≡◌, refl}
use mathlib.Core.Bool.{true, cond}
use mathlib.Core.List.{List}
use Rattle.line_quotes.specs.Quoted.{text_of}
use Rattle.rows.specs.Rows.{row_of, no_alert, missing}
use Rattle.rows.specs.declared.Row.{Row}
use Rattle.formula_symbols.specs.Symbols.{has_carbon}
use Rattle.formula_order.proofs.AsBefore.{in_order_before, order-as-before}
use Rattle.rows_formula.specs.FormulaRows.{row2}

-- row 2 before the request
abbrev pub row2_before : List ℕ → Row
row2_before formula = cond (missing formula) (row_of 2 1) (cond (in_order_before (text_of formula)) no_alert (row_of 3 0))

pub row-2-as-before : (formula : List ℕ) → has_carbon (text_of formula) ≡ true → row2 formula ≡ row2_before formula
unfolding row2
row-2-as-before formula c = rw (order-as-before (text_of formula) c) refl
