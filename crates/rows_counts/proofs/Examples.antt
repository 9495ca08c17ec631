-- Worked rows, by texts: zero is zero however it is written, an uncertainty does not count, and equal numbers are not above each other.
-- Assumes nothing.
use mathlib.Core.Path.{◌≡◌, refl}
use mathlib.Core.List.{[], ◌∷◌, map}
use Prim.Native.String.{String}
use Rattle.text.specs.Quote.{bytes}
use Rattle.text.specs.Run.{run_of, has_at, kind_at, between}
use Rattle.number_decimal.specs.Reading.{reading_of, unsigned_of, size_of, is_tail, closes_bracket}
use Rattle.number_decimal.specs.Digits.{value_from}
use Rattle.line_values.specs.Value.{is_unassigned}
use Rattle.rows.specs.Rows.{row_of, no_alert, missing}
use Rattle.rows_counts.specs.Counts.{order_of, differ_row, agree_row, above_row}

-- row 21, total and gt the same: 0.0000, -0.0, 0., .0 and 0(5) are zero, 0.0001 is not, and without item 14 there is no alert
zeros : map (λ (v : String). agree_row (bytes v) (bytes "1200") (bytes "1200.0(3)")) ("0.0000" ∷ "-0.0" ∷ "0." ∷ ".0" ∷ "0(5)" ∷ "0.0001" ∷ "?" ∷ [])
    ≡ no_alert ∷ no_alert ∷ no_alert ∷ no_alert ∷ no_alert ∷ row_of 2 0 ∷ row_of 0 1 ∷ []
unfolding order_of reading_of unsigned_of size_of run_of has_at kind_at between is_tail closes_bracket value_from
zeros = refl

-- row 20: item 14 is missing where total and gt differ, where they are the same, and where gt is missing
differing : map (λ (b : String). differ_row [] (bytes "1200") (bytes b)) ("1199" ∷ "1200.000" ∷ "." ∷ []) ≡ row_of 2 0 ∷ no_alert ∷ row_of 0 1 ∷ []
unfolding missing is_unassigned order_of reading_of unsigned_of size_of run_of has_at kind_at between is_tail closes_bracket value_from
differing = refl

-- row 22: 1200 against more, as much, less and nothing
against : map (λ (b : String). above_row (bytes "1200") (bytes b)) ("1201" ∷ "1200" ∷ "1199.99999" ∷ "" ∷ []) ≡ no_alert ∷ no_alert ∷ row_of 2 0 ∷ row_of 0 1 ∷ []
unfolding order_of reading_of unsigned_of size_of run_of has_at kind_at between is_tail closes_bracket value_from
against = refl
