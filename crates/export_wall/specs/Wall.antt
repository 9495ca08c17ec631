-- What the wall screen is told (document 01, "Keys and their refusals", last paragraph).
-- Assumes nothing.
use Rattle.std.specs.Prelude.{ℕ, List, Result}
use Rattle.rows_levels.specs.Bounds.{graded_of, graded_number, graded_level}
use Rattle.rows_levels.specs.declared.Ungraded.{Ungraded}
use Rattle.line_reader.specs.Line.{class_of, class_number}
use Rattle.export_wall.specs.declared.WallGraded.{WallGraded}

-- "the number 0, 5, 6 or 7 for one line"
abbrev pub line_number : List ℕ → ℕ
line_number t = class_number (class_of t)

-- the number and the level of a graded value
abbrev pub wall_answer : Result ℕ Ungraded → WallGraded
wall_answer g = record { answer = graded_number g; level = graded_level g }

-- "for row 6, 8 or 10 and one typed value, the answer 0 with the level it earns, or 6 .., then 7 .., both with level 0"
abbrev pub wall_grade : ℕ → List ℕ → WallGraded
wall_grade row t = wall_answer (graded_of row t)
