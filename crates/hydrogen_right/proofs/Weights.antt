-- What row 4 says of a text as it is typed, in quotes: at level 0 the weight is from 0.99 to 1.01 of the sum.
-- Assumes nothing.
use Rattle.std.specs.Prelude.{ℤ, Option, Some, None}
use Prim.Native.Nat.{ℕ, ◌*◌, ◌≤◌}
use mathlib.Core.Path.{◌≡◌, refl, sym, ap, ◌∙◌}
use mathlib.Core.Bool.{Bool, true, false}
use mathlib.Core.List.{List}
use native.Mathlib.Omega.{arith}
use borrow.Author.Tests.{ltb-false, le-ltb}
use lib.Dec.{ltb}
use lib.IntN.{pos, negsuc}
use Rattle.text.proofs.Bools.{or-neither}
use Rattle.number_decimal.specs.Reading.{reading_of}
use Rattle.formula_sum.specs.Sum.{sum_of}
use Rattle.rows_levels.specs.Level.{level_of}
use Rattle.rows_levels.specs.Bounds.{bounds}
use Rattle.rows.specs.Rows.{missing}
use Rattle.rows_weight.specs.WeightRows.{ratio_outside, ratio_level, ratio_row, weighed_of, row4}
use Rattle.rows_weight.proofs.WeightCases.{weighed-unread, weighed-none, weighed-both, ratio-weight, ratio-judged}
use Rattle.hydrogen_text.specs.Hydrogens.{in_quotes}
use Rattle.hydrogen_right.proofs.Typed.{Plain, typed-there, typed-text}

-- the given weight in millionths and the sum in thousandths, each at most a hundredth of the sum from the other
pub record Weighs (t w : List ℕ) : Type 0 where
  pub there : missing w ≡ false
  pub given : ℕ
  pub read : reading_of w ≡ Some (pos given)
  pub sum : ℕ
  pub summed : sum_of t ≡ Some sum
  pub low : 99000 * sum ≤ 100 * given
  pub high : 100 * given ≤ 101000 * sum

two-not : ◌≡◌ {A = ℕ} 2 0 → ⊥
two-not e = omega arith

third : (a b c : Bool) → level_of a b c ≡ 0 → c ≡ false
third true b c e = absurd (four e)
  where
    four : ◌≡◌ {A = ℕ} 4 0 → ⊥
    four e = omega arith
third false true c e = absurd (three e)
  where
    three : ◌≡◌ {A = ℕ} 3 0 → ⊥
    three e = omega arith
third false false true e = absurd (two-not e)
third false false false e = refl

-- the bounds of row 4 at level 0
ratio-is : (g s : ℕ) → ratio_level (pos g) s ≡ 0 → (99 * s ≤ g * 100) × (g * 100 ≤ 101 * s)
unfolding ratio_level bounds
ratio-is g s e =
    let k = or-neither (ltb (g * 100) (99 * s)) (ltb (101 * s) (g * 100)) (third (ratio_outside 90 110 (pos g) s) (ratio_outside 95 105 (pos g) s) (ratio_outside 99 101 (pos g) s) e) in
    (ltb-false (g * 100) (99 * s) k.0, ltb-false (101 * s) (g * 100) k.1)

ratio-of : (g s : ℕ) → 99 * s ≤ g * 100 → g * 100 ≤ 101 * s → ratio_level (pos g) s ≡ 0
unfolding ratio_level bounds
ratio-of g s l h =
    rw (
      le-ltb (g * 100) (90 * s) (omega arith),
      le-ltb (110 * s) (g * 100) (omega arith),
      le-ltb (g * 100) (95 * s) (omega arith),
      le-ltb (105 * s) (g * 100) (omega arith),
      le-ltb (g * 100) (99 * s) l,
      le-ltb (101 * s) (g * 100) h,
    )

ratio-negative : (g s : ℕ) → ratio_level (negsuc g) s ≡ 0 → ⊥
unfolding ratio_level bounds
ratio-negative g s e = let z : ◌≡◌ {A = ℕ} 4 0 = e in omega arith

module _ (t w : List ℕ) (plain : Plain t) where
  pub row-4-is : (row4 (in_quotes t) w).level ≡ 0 → Weighs t w
  row-4-is e = go (missing w) refl
    where
      read : missing w ≡ false → (r : Option ℤ) → reading_of w ≡ r → (s : Option ℕ) → sum_of t ≡ s → (ratio_row (weighed_of t w)).level ≡ 0 → Weighs t w
      read m None p s q z = absurd (two-not (sym (ap (λ x. (ratio_row x).level) (weighed-unread t w p)) ∙ z))
      read m (Some g) p None q z = absurd (two-not (sym (ap (λ x. (ratio_row x).level) (weighed-none t w q)) ∙ z))
      read m (Some (negsuc g)) p (Some s) q z = absurd (ratio-negative g (s * 1000) (sym (ap (λ x. (ratio_row x).level) (weighed-both t w (negsuc g) s p q)) ∙ z))
      read m (Some (pos g)) p (Some s) q z =
          let k = ratio-is g (s * 1000) (sym (ap (λ x. (ratio_row x).level) (weighed-both t w (pos g) s p q)) ∙ z) in
          record { there = m; given = g; read = p; sum = s; summed = q; low = omega (arith, k.0); high = omega (arith, k.1) }

      go : (b : Bool) → missing w ≡ b → Weighs t w
      go true m = absurd (two-not (sym (ap (λ x. x.level) (ratio-weight (in_quotes t) w (typed-there t) m)) ∙ e))
      go false m =
          read m (reading_of w) refl (sum_of t) refl
          (ap (λ (x : List ℕ). (ratio_row (weighed_of x w)).level) (sym (typed-text t plain)) ∙ sym (ap (λ x. x.level) (ratio-judged (in_quotes t) w (typed-there t) m)) ∙ e)

  pub row-4-of : Weighs t w → (row4 (in_quotes t) w).level ≡ 0
  row-4-of h =
      ap (λ x. x.level) (ratio-judged (in_quotes t) w (typed-there t) h.there)
      ∙ ap (λ (x : List ℕ). (ratio_row (weighed_of x w)).level) (typed-text t plain)
      ∙ ap (λ x. (ratio_row x).level) (weighed-both t w (pos h.given) h.sum h.read h.summed)
      ∙ ratio-of h.given (h.sum * 1000) (omega (arith, h.low)) (omega (arith, h.high))
