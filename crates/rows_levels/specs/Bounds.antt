-- The table of three-bound grades (document 01, "The twelve rows", rows 4, 6, 8, 10 and 12), and the wall screen's question.
-- Assumes nothing.
use Rattle.std.specs.Prelude.{ℕ, ◌+◌, ◌*◌, Bool, false, cond, ◌||◌, List, [], ◌∷◌, eqb, get_or, ℤ, pos, nat_abs, Option, Some, None, Result, Ok, Err}
use Rattle.std.specs.Int.Signed.{lt_z}
use Rattle.number_decimal.specs.Reading.{reading_of}
use Rattle.rows_levels.specs.Level.{level_of}
use Rattle.rows_levels.specs.declared.Bounds.{Bounds}
use Rattle.rows_levels.specs.declared.Ungraded.{Ungraded}
use Rattle.rows_levels.specs.declared.Ungraded.TheVariants.{NoRow, NoNumber}

-- the bounds of A, B and C, three to a line
unfoldable pub bounds : List ℕ
bounds =
    -- 4. CHEMW_01r: "Below 0.90 or above 1.10: A; below 0.95 or above 1.05: B; below 0.99 or above 1.01: C", in hundredths
    90 ∷ 95 ∷ 99 ∷
    110 ∷ 105 ∷ 101 ∷
    -- 6. RFACG_01: "above 0.20 A, 0.15 B, 0.10 C", in millionths, as are all below
    200000 ∷ 150000 ∷ 100000 ∷
    -- 8. RFACR_01: "above 0.45 A, 0.35 B, 0.25 C"
    450000 ∷ 350000 ∷ 250000 ∷
    -- 10. SHFSU_01: "absolute value above 0.20 A, 0.10 B, 0.05 C"
    200000 ∷ 100000 ∷ 50000 ∷
    -- 12. REFLE_01: "For I and F^2^: x at least 6 A, 5 B, 4 C. For F: 12, 10, 8."
    6000000 ∷ 5000000 ∷ 4000000 ∷
    12000000 ∷ 10000000 ∷ 8000000 ∷
    -- the rows that have none
    0 ∷ 0 ∷ 0 ∷ []

-- the line of a row's bounds, counted from 0
abbrev pub first_line : ℕ → ℕ
first_line row = cond (eqb row 4) 0 (cond (eqb row 6) 2 (cond (eqb row 8) 3 (cond (eqb row 10) 4 (cond (eqb row 12) 5 7))))

-- the line of a row's second bounds: row 4's above, row 12's for F
abbrev pub second_line : ℕ → ℕ
second_line row = cond (eqb row 4) 1 (cond (eqb row 12) 6 7)

abbrev pub bounds_at : ℕ → Bounds
bounds_at line = record { a = get_or bounds (3 * line) 0; b = get_or bounds (3 * line + 1) 0; c = get_or bounds (3 * line + 2) 0 }

-- the bounds of a row, or its second ones
abbrev pub bounds_of : ℕ → Bool → Bounds
bounds_of row second = cond second (bounds_at (second_line row)) (bounds_at (first_line row))

-- "row 6, 8 or 10": one number is graded by the row's bounds
abbrev pub is_graded : ℕ → Bool
is_graded row = eqb row 6 || (eqb row 8 || eqb row 10)

-- what is judged of a number: in row 10 its absolute value, "negated where below zero"
unfoldable pub judged_of : ℕ → ℤ → ℤ
judged_of row z = cond (eqb row 10) (pos (nat_abs z)) z

-- z is above a bound
abbrev pub above : ℕ → ℤ → Bool
above n z = lt_z (pos n) z

-- the level of a number by the three bounds of a row
unfoldable pub grade_of : ℕ → ℤ → ℕ
grade_of row z =
    level_of (above (bounds_of row false).a (judged_of row z)) (above (bounds_of row false).b (judged_of row z)) (above (bounds_of row false).c (judged_of row z))

-- a typed value in a graded row, by what was read
abbrev pub read_grade : ℕ → Option ℤ → Result ℕ Ungraded
read_grade row (Some z) = Ok (grade_of row z)
read_grade row None = Err NoNumber

-- the wall screen's question, "for row 6, 8 or 10 and one typed value"
unfoldable pub graded_of : ℕ → List ℕ → Result ℕ Ungraded
graded_of row t = cond (is_graded row) (read_grade row (reading_of t)) (Err NoRow)

-- document 01's number: "the answer 0 with the level it earns, or 6 for another row, then 7 for a value that is not a number"
abbrev pub graded_number : Result ℕ Ungraded → ℕ
graded_number (Ok l) = 0
graded_number (Err NoRow) = 6
graded_number (Err NoNumber) = 7

-- the level that goes with it, "both with level 0"
abbrev pub graded_level : Result ℕ Ungraded → ℕ
graded_level (Ok l) = l
graded_level (Err e) = 0
