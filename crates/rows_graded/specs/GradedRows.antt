-- Rows 6 to 11, of the values with a new and an old name (document 01, "The twelve rows").
-- Assumes nothing.
use Rattle.std.specs.Prelude.{ℕ, cond, ◌&&◌, List, Result, Ok, Err}
use Rattle.rows_levels.specs.Bounds.{graded_of}
use Rattle.rows_levels.specs.declared.Ungraded.{Ungraded}
use Rattle.rows.specs.Rows.{row_of, no_alert, missing}
use Rattle.rows.specs.declared.Row.{Row}

-- "In rows 6, 8, 10 the new name is judged if assigned, otherwise the old one (house)."
abbrev pub judged_value : List ℕ → List ℕ → List ℕ
judged_value new old = cond (missing new) old new

-- a value that is no number, which no sound sheet holds, cannot be judged
abbrev pub grade_row : Result ℕ Ungraded → Row
grade_row (Ok l) = row_of l 0
grade_row (Err e) = row_of 2 2

-- "6. RFACG_01 (000): above 0.20 A, 0.15 B, 0.10 C. Both names missing: C, reason 1", and rows 8 and 10 alike, by the row's own bounds
unfoldable pub graded_row : ℕ → List ℕ → List ℕ → Row
graded_row row new old = cond (missing new && missing old) (row_of 2 1) (grade_row (graded_of row (judged_value new old)))

-- "7. RFACG_01g: General if item 5 is assigned." and rows 9 and 11 alike, of an old name's value
unfoldable pub old_name_row : List ℕ → Row
old_name_row old = cond (missing old) no_alert (row_of 1 0)
