-- The cases of the definitions of rows 4 and 5, each with the tests that lead to it.
-- Assumes nothing.
use Rattle.std.specs.Prelude.{Option, Some, None}
use mathlib.Core.Path.{◌≡◌, refl, ap, ◌∙◌}
use mathlib.Core.Bool.{true, false, cond}
use mathlib.Core.List.{List}
use Prim.Native.Nat.{ℕ}
use lib.IntN.{ℤ}
use Rattle.text.proofs.Bools.{cond_same}
use Rattle.number_decimal.specs.Reading.{reading_of}
use Rattle.line_quotes.specs.Quoted.{text_of}
use Rattle.formula_sum.specs.Recognised.{all_recognised}
use Rattle.formula_sum.specs.Sum.{sum_of}
use Rattle.formula_sum.proofs.Sums.{summed-recognised}
use Rattle.rows.specs.Rows.{row_of, missing}
use Rattle.rows_weight.specs.WeightRows.{millionths, weighed_by, weighed_of, ratio_row, row4, difference_row, row5}
use Rattle.rows_weight.specs.declared.Weighed.{Weighed}

-- what is judged of a formula's text and a weight
not-both : (r : Option ℤ) (w : Option ℕ) → w ≡ None → weighed_by r w ≡ None
not-both (Some z) w e = ap (weighed_by (Some z)) e
not-both None w e = refl

module _ (t w : List ℕ) where
  pub weighed-unread : reading_of w ≡ None → weighed_of t w ≡ None
  unfolding weighed_of
  weighed-unread e = ap (λ (r : Option ℤ). cond (all_recognised t) (weighed_by r (sum_of t)) None) e ∙ cond_same (all_recognised t) None

  pub weighed-none : sum_of t ≡ None → weighed_of t w ≡ None
  unfolding weighed_of
  weighed-none e = ap (λ (x : Option Weighed). cond (all_recognised t) x None) (not-both (reading_of w) (sum_of t) e) ∙ cond_same (all_recognised t) None

  pub weighed-both : (z : ℤ) (s : ℕ) → reading_of w ≡ Some z → sum_of t ≡ Some s → weighed_of t w ≡ Some (record { given = z; sum = millionths s })
  unfolding weighed_of
  weighed-both z s e f = simp (summed-recognised t s f, e, f)

-- rows 4 and 5
module _ (f w : List ℕ) (p : missing f ≡ false) where
  pub ratio-weight : missing w ≡ true → row4 f w ≡ row_of 2 1
  unfolding row4
  ratio-weight q = simp (p, q)

  pub ratio-judged : missing w ≡ false → row4 f w ≡ ratio_row (weighed_of (text_of f) w)
  unfolding row4
  ratio-judged q = simp (p, q)

pub difference-judged : (f w c : List ℕ) → missing f ≡ false → missing w ≡ false → missing c ≡ false → row5 f w c ≡ difference_row (weighed_of (text_of f) w) (text_of c)
unfolding row5
difference-judged f w c p q r = simp (p, q, r)
