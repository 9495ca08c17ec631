-- The desk: "Four benches, 0 to 3, each with one unfinished line" (document 01, "What the desk holds"), and two sheets (document 02, No. 9).
-- Assumes nothing.
use Rattle.std.specs.Prelude.{ℕ, ◌/◌, Bool, [], ltb, get_or, set, replicate}
use Rattle.desk_state.specs.Lines.{empty_line}
use Rattle.desk_state.specs.Sheets.{empty_sheet}
use Rattle.desk_state.specs.declared.line.Line.{Line}
use Rattle.desk_state.specs.declared.sheet.Sheet.{Sheet}
use Rattle.desk_state.specs.declared.desk.Desk.{Desk}

abbrev pub bench_count : ℕ
bench_count = 4

-- document 02, No. 9: "Benches 0 and 1 fill sheet 0, benches 2 and 3 sheet 1"; that many benches fill each sheet, and a bench's number tells its sheet
abbrev pub benches_each : ℕ
benches_each = 2

abbrev pub sheet_count : ℕ
sheet_count = 2

-- there is a sheet of that number
abbrev pub is_sheet : ℕ → Bool
is_sheet sheet = ltb sheet sheet_count

unfoldable pub sheet_of_bench : ℕ → ℕ
sheet_of_bench bench = bench / benches_each

-- the bench number that stands for none: "bench is 255", "goes in as bench 255"
abbrev pub no_bench : ℕ
no_bench = 255

-- what the logic reads past the end of an array of lines
abbrev pub no_line : Line
no_line = record { bytes = []; len = 0 }

-- the line of a bench
abbrev pub line_at : Desk → ℕ → Line
line_at d bench = get_or d.lines bench no_line

-- the desk with another line for a bench
abbrev pub with_line : Desk → ℕ → Line → Desk
with_line d bench l = record { lines = set d.lines bench l; sheets = d.sheets }

-- what the logic reads past the end of an array of sheets
abbrev pub no_sheet : Sheet
no_sheet = record { items = []; count = 0 }

-- the sheet of that number, counted from 0
abbrev pub sheet_at : Desk → ℕ → Sheet
sheet_at d s = get_or d.sheets s no_sheet

-- the desk with another sheet in the place of sheet s
abbrev pub with_sheet : Desk → ℕ → Sheet → Desk
with_sheet d s sheet = record { lines = d.lines; sheets = set d.sheets s sheet }

-- "A fresh desk has all of this empty"
abbrev pub fresh_desk : Desk
fresh_desk = record { lines = replicate bench_count empty_line; sheets = replicate sheet_count empty_sheet }
