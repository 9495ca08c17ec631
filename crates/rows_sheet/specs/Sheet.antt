-- All rows of a sheet (document 01, "The twelve rows"; document 02, No. 11 and 12).
-- Assumes nothing.
use Rattle.std.specs.Prelude.{ℕ, ◌-◌, List, [], ◌∷◌, ◌++◌, get_or}
use Rattle.desk_state.specs.Sheets.{value_at}
use Rattle.desk_state.specs.declared.sheet.Sheet.{Sheet}
use Rattle.rows_formula.specs.FormulaRows.{row1, row2, row3}
use Rattle.rows_weight.specs.WeightRows.{row4, row5}
use Rattle.rows_graded.specs.GradedRows.{graded_row, old_name_row}
use Rattle.rows_threshold.specs.Threshold.{row12}
use Rattle.rows_counts.specs.Counts.{count_rows}
use Rattle.rows_moiety.specs.MoietyRow.{row25}
use Rattle.rows.specs.Rows.{no_alert}
use Rattle.rows.specs.declared.Row.{Row}
use Rattle.rows.specs.declared.Rows.{Rows}

-- the twelve rows of document 01, in order
abbrev pub first_rows : Sheet → List Row
first_rows s =
    row1 (value_at s 1) ∷
    row2 (value_at s 1) ∷
    row3 (value_at s 1) (value_at s 3) ∷
    row4 (value_at s 1) (value_at s 2) ∷
    row5 (value_at s 1) (value_at s 2) (value_at s 3) ∷
    graded_row 6 (value_at s 4) (value_at s 5) ∷
    old_name_row (value_at s 5) ∷
    graded_row 8 (value_at s 6) (value_at s 7) ∷
    old_name_row (value_at s 7) ∷
    graded_row 10 (value_at s 8) (value_at s 9) ∷
    old_name_row (value_at s 9) ∷
    row12 (value_at s 10) ∷ []

-- document 02, No. 12: "A new last row, printed R25", of items 1 and 19
abbrev pub last_row : Sheet → Row
last_row s = row25 (value_at s 1) (value_at s 19)

-- all rows in a profile: "profiles 0, single-crystal, and 1, powder, one chosen with each report"; rows 1 to 12 and row 25 are the same in each
abbrev pub rows_of : ℕ → Sheet → Rows
rows_of profile s = record { rows = first_rows s ++ (count_rows profile (value_at s) ++ (last_row s ∷ [])) }

-- a row by its number
abbrev pub row_at : Rows → ℕ → Row
row_at r k = get_or r.rows (k - 1) no_alert
