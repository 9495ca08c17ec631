-- Every text that the grammar takes for a number is read as that number.
-- Assumes nothing.
use Rattle.std.specs.Prelude.{Some}
use mathlib.Core.Path.{◌≡◌, refl, ◌∙◌}
use mathlib.Core.Bool.{Bool, true, false, cond}
use mathlib.Core.List.{List, [], ◌∷◌, ◌++◌}
use Prim.Native.Nat.{ℕ, ◌+◌, ◌≤◌, ◌<◌}
use native.Mathlib.Nat.{not-suc-le-zero}
use native.Mathlib.Omega.{arith}
use borrow.Author.Tests.{le-leb, eq-eqb}
use lib.Dec.{eqb-suc-zero}
use lib.ListN.{length, drop, length-append}
use lib.Seq.{take-append_seam, drop-append_seam, drop-append-add, get_or-append_seam}
use lib.IntN.{ℤ, pos, neg_ℤ}
use Rattle.text.specs.Run.{between, run_of, all, has_at, is_digit}
use Rattle.text.proofs.Bools.{not-holds}
use Rattle.text.proofs.Runs.{run-append, run_none, has_here, has_within, has-byte}
use Rattle.number_decimal.specs.Digits.{most_uncertain}
use Rattle.number_decimal.specs.Reading.{closes_bracket, is_tail, size_of, parts_size, point_length, unsigned_of, reading_of}
use Rattle.number_decimal.specs.Grammar.{SignText, PointText, UncertaintyText, IsSize, IsNumber}
use Rattle.number_decimal.proofs.Digits.{first-digit}
use Rattle.number_decimal.proofs.Values.{joined}

bracket-closes : (u : List ℕ) → all is_digit u ≡ true → 1 ≤ length u → length u ≤ most_uncertain → closes_bracket (u ++ (41 ∷ [])) ≡ true
unfolding closes_bracket between
bracket-closes u a some few =
    let n = run-append is_digit u (41 ∷ []) a (run_none is_digit 41 [] refl) in
    simp (n, le-leb _ _ some, le-leb _ _ few, eq-eqb (length (u ++ (41 ∷ []))) (length u + 1) (length-append u (41 ∷ [])), get_or-append_seam)

uncertainty-taken : {t : List ℕ} → UncertaintyText t → is_tail t ≡ true
unfolding is_tail
uncertainty-taken UncertaintyText.none = refl
uncertainty-taken (UncertaintyText.bracket u a some few) = simp (eqb-suc-zero, bracket-closes u a some few)

-- neither a digit nor a point begins an uncertainty
digits-end : {t : List ℕ} → UncertaintyText t → run_of is_digit t ≡ 0
unfolding run_of between
digits-end UncertaintyText.none = refl
digits-end (UncertaintyText.bracket u a some few) = refl

no-point : (ds : List ℕ) {t : List ℕ} → UncertaintyText t → has_at (ds ++ t) (length ds) 46 ≡ true → ⊥
no-point ds UncertaintyText.none h = omega (arith, has_within (ds ++ []) (length ds) 46 h, length-append ds [])
no-point ds (UncertaintyText.bracket u a some few) h =
    let r : List ℕ = 40 ∷ (u ++ (41 ∷ [])) in
    omega (arith, has-byte (ds ++ r) (length ds) 46 h, get_or-append_seam ds 40 (u ++ (41 ∷ [])) 0)

-- a point ends the digits before it, and what follows it are those after it
point-ends : {before fraction pointed t : List ℕ} → PointText before fraction pointed → UncertaintyText t → run_of is_digit (pointed ++ t) ≡ 0
unfolding run_of between
point-ends (PointText.whole before some) u = digits-end u
point-ends (PointText.each_side before fraction some one) u = refl
point-ends (PointText.before_only before some) u = refl
point-ends (PointText.after_only fraction one) u = refl

dot-passed : (before r : List ℕ) → let s : List ℕ = before ++ (46 ∷ r) in drop (length before + point_length s (length before)) s ≡ r
dot-passed before r =
    let s : List ℕ = before ++ (46 ∷ r) in
    let here = has_here s (length before) 46 (omega (arith, length-append before (46 ∷ r))) (get_or-append_seam before 46 r 0) in
    rw here (drop-append-add before (46 ∷ r) 1)

point-passed : {before fraction pointed t : List ℕ} → PointText before fraction pointed → UncertaintyText t
    → let s = before ++ (pointed ++ t) in drop (length before + point_length s (length before)) s ≡ fraction ++ t
point-passed {t = t} (PointText.whole before some) u = rw (not-holds (has_at (before ++ t) (length before) 46) (no-point before u)) (drop-append-add before t 0)
point-passed {t = t} (PointText.each_side before fraction some one) u = dot-passed before (fraction ++ t)
point-passed {t = t} (PointText.before_only before some) u = dot-passed before t
point-passed {t = t} (PointText.after_only fraction one) u = dot-passed [] (fraction ++ t)

-- with a point or without, there is a digit
pub some-digit : {before fraction pointed : List ℕ} → PointText before fraction pointed → 1 ≤ length before + length fraction
some-digit (PointText.whole before some) = omega arith
some-digit (PointText.each_side before fraction some one) = omega arith
some-digit (PointText.before_only before some) = omega arith
some-digit (PointText.after_only fraction one) = omega arith

-- the reading by stages finds the grammar's parts
parts-found : (before : List ℕ) {fraction pointed tail : List ℕ} → all is_digit before ≡ true → all is_digit fraction ≡ true → PointText before fraction pointed
    → UncertaintyText tail → unsigned_of (before ++ (pointed ++ tail)) ≡ parts_size before fraction tail
unfolding unsigned_of
parts-found before {fraction} {pointed} {tail} b a p u =
    let n = run-append is_digit before (pointed ++ tail) b (point-ends p u) in
    let k = run-append is_digit fraction tail a (digits-end u) in
    simp (n, take-append_seam, point-passed p u, k, drop-append_seam)

-- a byte below the digits and the point, as a sign is, does not begin a size
first_by : {before fraction pointed : List ℕ} (r : List ℕ) (b : ℕ) → PointText before fraction pointed → all is_digit before ≡ true → b < 46
    → has_at (before ++ (pointed ++ r)) 0 b ≡ true → ⊥
first_by r b (PointText.after_only fraction one) a l e = omega (arith, has-byte (46 ∷ (fraction ++ r)) 0 b e)
first_by r b (PointText.whole (d ∷ ds) some) a l e = omega (arith, (first-digit d ds a).0, has-byte (d ∷ (ds ++ r)) 0 b e)
first_by r b (PointText.each_side (d ∷ ds) fraction some one) a l e = omega (arith, (first-digit d ds a).0, has-byte (d ∷ (ds ++ (46 ∷ (fraction ++ r)))) 0 b e)
first_by r b (PointText.before_only (d ∷ ds) some) a l e = omega (arith, (first-digit d ds a).0, has-byte (d ∷ (ds ++ (46 ∷ r))) 0 b e)
first_by r b (PointText.whole [] some) a l e = not-suc-le-zero some
first_by r b (PointText.each_side [] fraction some one) a l e = not-suc-le-zero some
first_by r b (PointText.before_only [] some) a l e = not-suc-le-zero some

module _ {t : List ℕ} {m : ℕ} (h : IsSize t m) where
  size-taken : unsigned_of t ≡ Some m
  unfolding size_of
  size-taken =
      rw (h.text, h.worth)
      (parts-found h.before h.before_digits h.fraction_digits h.is_point h.is_uncertainty
      ∙ simp
      (le-leb _ _ (some-digit h.is_point), le-leb _ _ h.few, le-leb _ _ h.places, uncertainty-taken h.is_uncertainty, joined h.before h.fraction h.places))

  pub first-no-sign : (b : ℕ) → b < 46 → has_at t 0 b ≡ false
  first-no-sign b l = rw h.text (not-holds _ (first_by h.tail b h.is_point h.before_digits l))

number_by : {negative : Bool} {sign r : List ℕ} {m : ℕ} → SignText negative sign → IsSize r m
    → reading_of (sign ++ r) ≡ Some (cond negative (neg_ℤ (pos m)) (pos m))
unfolding reading_of
number_by SignText.unsigned h = simp (first-no-sign h 45 (omega arith), first-no-sign h 43 (omega arith), size-taken h)
number_by {r = r} SignText.plus h = simp (not-holds (has_at (43 ∷ r) 0 45) (λ e. omega (arith, has-byte (43 ∷ r) 0 45 e)), has_here (43 ∷ r) 0 43 (omega arith) refl, size-taken h)
number_by {r = r} SignText.minus h = simp (has_here (45 ∷ r) 0 45 (omega arith) refl, size-taken h)

-- what the grammar takes for z is read as z
pub number-taken : (t : List ℕ) (z : ℤ) → IsNumber t z → reading_of t ≡ Some z
number-taken t z h = rw (h.text, h.worth) (number_by h.is_sign h.is_size)
