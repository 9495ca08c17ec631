-- Document 02, No. 4 leaves row 12 of every other text: an x that was a number before, without sign and uncertainty, is judged as before; a text with no such
-- x is not judgeable, as before, unless its x begins or ends with a point.
-- Assumes nothing.
use Rattle.std.specs.Prelude.{Some}
use mathlib.Core.Path.{◌≡◌, refl, sym, ap, ◌∙◌}
use mathlib.Core.Bool.{Bool, false, cond, false≢true}
use mathlib.Core.List.{List, [], ◌∷◌, ◌++◌}
use Prim.Native.Nat.{ℕ, ◌-◌}
use native.Mathlib.Omega.{arith}
use lib.ListN.{length}
use lib.IntN.{pos, neg_ℤ}
use Rattle.text.specs.Run.{has_at}
use Rattle.text.proofs.Runs.{has_here}
use Rattle.number_decimal.specs.Grammar.{SignText, PointText, SizeBy}
use Rattle.number_decimal.specs.Before.{PointBefore, NumberBefore}
use Rattle.number_decimal.proofs.AsBefore.{resize, point-stays}
use Rattle.rows.specs.Rows.{row_of}
use Rattle.rows_threshold.specs.Threshold.{multiplier_row, threshold_row}
use Rattle.rows_threshold.specs.Wording.{Expression, IsMultiplier, IsThreshold}
use Rattle.rows_threshold.proofs.Wording.{ends_with, threshold-taken, threshold-other}

-- without a sign the number is its size
size-alone : {negative : Bool} {sign : List ℕ} (m n : ℕ) → SignText negative sign → sign ≡ [] → pos m ≡ cond negative (neg_ℤ (pos n)) (pos n) → n ≡ m
size-alone m n SignText.unsigned e w = cc
size-alone m n SignText.plus e w = let long : length {A = ℕ} (43 ∷ []) ≡ 0 = ap length e in absurd (omega arith)
size-alone m n SignText.minus e w = let long : length {A = ℕ} (45 ∷ []) ≡ 0 = ap length e in absurd (omega arith)

pub row-12-as-before : (t x : List ℕ) (alone : Bool) (m : ℕ) → Expression t alone x → (h : NumberBefore x (pos m)) → h.sign ≡ [] → h.is_size.tail ≡ []
    → threshold_row t ≡ multiplier_row alone (Some m)
row-12-as-before t x alone m e h unsigned certain =
    let text : x ≡ h.rest = h.text ∙ ap (λ (l : List ℕ). l ++ h.rest) unsigned in
    let worth : h.size ≡ m = size-alone m h.size h.is_sign unsigned h.worth in
    let multiplier : IsMultiplier h.rest h.size = record { is_size = resize h.is_size (point-stays h.is_size.is_point); certain = certain } in
    threshold-taken t alone m (record { x = x; expression = e; multiplier = rw (text, sym worth) multiplier })

-- x was "a number without sign or uncertainty", worth m millionths, with the point of document 01 alone
pub record MultiplierBefore (x : List ℕ) (m : ℕ) : Type 0 where
  pub is_size : SizeBy PointBefore x m
  pub certain : is_size.tail ≡ []

-- x was none, and has no "point with digits on one side only": it neither begins nor ends with a point
pub record NoneBefore (x : List ℕ) : Type 0 where
  pub no-multiplier : (m : ℕ) → MultiplierBefore x m → ⊥
  pub no-first-point : has_at x 0 46 ≡ false
  pub no-last-point : has_at x (length x - 1) 46 ≡ false

-- a point at neither end is one of before
inner-point : {x before fraction pointed : List ℕ} → x ≡ before ++ (pointed ++ []) → PointText before fraction pointed → has_at x 0 46 ≡ false
    → has_at x (length x - 1) 46 ≡ false → PointBefore before fraction pointed
inner-point e (PointText.whole before some) f l = PointBefore.whole before some
inner-point e (PointText.each_side before fraction some one) f l = PointBefore.each_side before fraction some one
inner-point e (PointText.before_only before some) f l =
    absurd (false≢true (sym l ∙ ap (λ (y : List ℕ). has_at y (length y - 1) 46) e ∙ ends_with before 46))
inner-point e (PointText.after_only fraction one) f l =
    absurd (false≢true (sym f ∙ ap (λ (y : List ℕ). has_at y 0 46) e ∙ has_here (46 ∷ (fraction ++ [])) 0 46 (omega arith) refl))

pub row-12-else-as-before : (t : List ℕ) → ((alone : Bool) (x : List ℕ) → Expression t alone x → NoneBefore x) → threshold_row t ≡ row_of 2 2
row-12-else-as-before t none = threshold-other t never
  where
    never : (alone : Bool) (m : ℕ) → IsThreshold t alone m → ⊥
    never alone m h =
        let s = h.multiplier.is_size in
        let n = none alone h.x h.expression in
        let text = s.text ∙ ap (λ (l : List ℕ). s.before ++ (s.pointed ++ l)) h.multiplier.certain in
        let point = inner-point text s.is_point n.no-first-point n.no-last-point in
        n.no-multiplier m (record { is_size = resize s point; certain = h.multiplier.certain })
