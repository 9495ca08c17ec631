-- Row 12, the threshold expression (document 01, "The twelve rows").
-- Assumes nothing.
use Rattle.std.specs.Prelude.{ℕ, ◌+◌, ◌-◌, Bool, true, false, cond, ◌&&◌, ◌||◌, List, leb, length, take, drop, pos, negsuc, ℤ, Option, Some, None}
use Rattle.text.specs.Quote.{bytes}
use Rattle.text.specs.Run.{has_at}
use Rattle.text_equality.specs.Same.{exact, same_by}
use Rattle.number_decimal.specs.Reading.{reading_of}
use Rattle.line_quotes.specs.Quoted.{text_of}
use Rattle.rows_levels.specs.Level.{level_of}
use Rattle.rows_levels.specs.Bounds.{bounds_of}
use Rattle.rows.specs.Rows.{row_of, missing}
use Rattle.rows.specs.declared.Row.{Row}

-- a text begins with p and ends with q, one after the other
unfoldable pub has_shape : List ℕ → List ℕ → List ℕ → Bool
has_shape p q t =
    leb (length p + length q) (length t) && (same_by exact (take (length p) t) p && same_by exact (drop (length t - length q) t) q)

-- what stands between p and q
abbrev pub inside_of : List ℕ → List ℕ → List ℕ → List ℕ
inside_of p q t = take (length t - length p - length q) (drop (length p) t)

-- a number not below zero
abbrev pub unsigned_reading : Option ℤ → Option ℕ
unsigned_reading (Some (pos n)) = Some n
unsigned_reading (Some (negsuc n)) = None
unsigned_reading None = None

-- "x a number without sign or uncertainty": it begins with no sign and ends with no bracket
unfoldable pub multiplier_of : List ℕ → Option ℕ
multiplier_of x = cond (has_at x 0 43 || (has_at x 0 45 || has_at x (length x - 1) 41)) None (unsigned_reading (reading_of x))

-- "For I and F^2^: x at least 6 A, 5 B, 4 C. For F: 12, 10, 8.": row 12's bounds, or the second ones for F alone. x is in millionths.
unfoldable pub threshold_level : Bool → ℕ → ℕ
threshold_level alone x = level_of (leb (bounds_of 12 alone).a x) (leb (bounds_of 12 alone).b x) (leb (bounds_of 12 alone).c x)

-- "Otherwise shaped: C, reason 2."
abbrev pub multiplier_row : Bool → Option ℕ → Row
multiplier_row alone (Some x) = row_of (threshold_level alone x) 0
multiplier_row alone None = row_of 2 2

-- "the text without quotes is I > x\s(I), F^2^ > x\s(F^2^) or F > x\s(F)"
unfoldable pub threshold_row : List ℕ → Row
threshold_row t =
    cond (has_shape (bytes "I > ") (bytes "\\s(I)") t) (multiplier_row false (multiplier_of (inside_of (bytes "I > ") (bytes "\\s(I)") t)))
    (cond (has_shape (bytes "F^2^ > ") (bytes "\\s(F^2^)") t) (multiplier_row false (multiplier_of (inside_of (bytes "F^2^ > ") (bytes "\\s(F^2^)") t)))
    (cond (has_shape (bytes "F > ") (bytes "\\s(F)") t) (multiplier_row true (multiplier_of (inside_of (bytes "F > ") (bytes "\\s(F)") t)))
    (row_of 2 2)))

-- "12. REFLE_01 (000): .. For I and F^2^: x at least 6 A, 5 B, 4 C. For F: 12, 10, 8. Missing: C, reason 1. Otherwise shaped: C, reason 2."
unfoldable pub row12 : List ℕ → Row
row12 threshold = cond (missing threshold) (row_of 2 1) (threshold_row (text_of threshold))
