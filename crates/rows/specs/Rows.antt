-- A row of the report, and when an item is missing (document 01, "The twelve rows"; document 02, No. 11: rows 13 to 24, No. 12: "A new last row").
-- A value stands here as typed; that of an empty item is the empty text.
-- Assumes nothing.
use Rattle.std.specs.Prelude.{ℕ, Bool, ◌||◌, List, ltb, eqb, length, replicate, Option, Some, None}
use Rattle.line_values.specs.Value.{is_unassigned}
use Rattle.rows.specs.declared.Row.{Row}
use Rattle.rows.specs.declared.Rows.{Rows}

abbrev pub row_count : ℕ
row_count = 25

-- "profiles 0, single-crystal, and 1, powder, one chosen with each report"
abbrev pub profile_count : ℕ
profile_count = 2

abbrev pub is_profile : ℕ → Bool
is_profile profile = ltb profile profile_count

abbrev pub powder : ℕ
powder = 1

-- a level and a reason: "Level 0 none, 1 General, 2 C, 3 B, 4 A. Reason 0 judged, 1 an item missing, 2 not judgeable."
abbrev pub row_of : ℕ → ℕ → Row
row_of level reason = record { level = level; reason = reason }

-- the row of a value by its level, or of one that is "not judgeable"
abbrev pub judged_row : Option ℕ → Row
judged_row (Some level) = row_of level 0
judged_row None = row_of 2 2

-- "judged", and no alert
abbrev pub no_alert : Row
no_alert = row_of 0 0

-- "rows all level 0, reason 0"
abbrev pub no_rows : Rows
no_rows = record { rows = replicate row_count no_alert }

-- ""Missing" is empty or unassigned"
unfoldable pub missing : List ℕ → Bool
missing v = eqb (length v) 0 || is_unassigned v
