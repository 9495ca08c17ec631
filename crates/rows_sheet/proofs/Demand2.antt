-- Demand 2 for every row with bounds: the level is the highest whose bound is broken, and none when none is. One law, of three tests, serves them all.
-- Assumes nothing.
use Rattle.std.specs.Prelude.{Some, Ok, Option}
use Prim.Native.Nat.{ℕ}
use mathlib.Core.Path.{◌≡◌, refl, sym, ap, subst, ◌∙◌}
use mathlib.Core.Bool.{Bool, true, false, cond, ◌&&◌}
use mathlib.Core.List.{List}
use lib.IntN.{ℤ}
use Rattle.number_decimal.specs.Reading.{reading_of}
use Rattle.line_quotes.specs.Quoted.{text_of}
use Rattle.rows_levels.specs.Level.{level_of, Highest}
use Rattle.rows_levels.specs.Bounds.{bounds, is_graded, grade_of, read_grade, graded_of}
use Rattle.rows_levels.proofs.Levels.{level-highest, grade-highest}
use Rattle.rows.specs.Rows.{row_of, no_alert, missing}
use Rattle.rows_weight.specs.WeightRows.{millionths, ratio_level, ratio_row, far_apart, is_weighed_category, difference_row}
use Rattle.rows_weight.specs.declared.Weighed.{Weighed}
use Rattle.rows_graded.specs.GradedRows.{judged_value, grade_row, graded_row}
use Rattle.rows_threshold.specs.Threshold.{threshold_level, threshold_row, row12}
use Rattle.rows_sheet.specs.Judged as judged
use Rattle.rows_sheet.specs.Judged.{Judged}
use Rattle.rows.specs.declared.Row.{Row}
use Rattle.rows_threshold.proofs.Wording.{threshold-taken}
use Rattle.rows_weight.proofs.WeightCases.{ratio-judged, weighed-both, difference-judged}

-- a row is judged at a level
JudgedAt : Bool → Bool → Bool → Row → Type 0
JudgedAt a b c r = Highest a b c r.level × (r.reason ≡ 0)

at_level : {a b c : Bool} {r : Row} (l : ℕ) → r ≡ row_of l 0 → Highest a b c l → JudgedAt a b c r
unfolding JudgedAt
at_level {a} {b} {c} l e h = subst (λ (x : Row). Highest a b c x.level × (x.reason ≡ 0)) (sym e) (h, refl)

-- row 5 has the bound of C alone
difference-is : (t : Bool) → cond t (row_of 2 0) no_alert ≡ row_of (level_of false false t) 0
difference-is true = refl
difference-is false = refl

graded-is : (row : ℕ) (new old : List ℕ) → (missing new && missing old) ≡ false → graded_row row new old ≡ grade_row (graded_of row (judged_value new old))
unfolding graded_row
graded-is row new old m = simp m

grade-is : (row : ℕ) (t : List ℕ) (z : ℤ) → is_graded row ≡ true → reading_of t ≡ Some z → graded_of row t ≡ Ok (grade_of row z)
unfolding graded_of
grade-is row t z p e = simp p (ap (read_grade row) e)

threshold-is : (t : List ℕ) → missing t ≡ false → row12 t ≡ threshold_row (text_of t)
unfolding row12
threshold-is t m = simp m

pub highest-broken : {a b c : Bool} {r : Row} → Judged a b c r → Highest a b c r.level × (r.reason ≡ 0)
unfolding JudgedAt bounds ratio_level threshold_level
highest-broken (judged.ratio f w given s p q k e g) =
    at_level (ratio_level given (millionths s))
    (ratio-judged f w p q ∙ ap ratio_row (weighed-both (text_of f) w given s e g))
    (level-highest _ _ _)
highest-broken (judged.difference f w c given s p q r e g) =
    let t = far_apart given (millionths s) && is_weighed_category (text_of c) in
    at_level (level_of false false t)
    (difference-judged f w c p q r ∙ ap (λ (x : Option Weighed). difference_row x (text_of c)) (weighed-both (text_of f) w given s e g) ∙ difference-is t)
    (level-highest false false t)
highest-broken (judged.graded row new old z p m e) =
    at_level (grade_of row z) (graded-is row new old m ∙ ap grade_row (grade-is row (judged_value new old) z p e)) (grade-highest row z)
highest-broken (judged.threshold t alone x m e) = at_level (threshold_level alone x) (threshold-is t m ∙ threshold-taken (text_of t) alone x e) (level-highest _ _ _)
