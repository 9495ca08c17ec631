-- Every text that is read as a number is one of the grammar's, worth that number.
-- Assumes nothing.
use Rattle.std.specs.Prelude.{Some, Option, None}
use mathlib.Core.Path.{◌≡◌, refl, sym, ap, subst, ◌∙◌}
use mathlib.Core.Bool.{Bool, true, false, cond, ◌||◌}
use mathlib.Core.List.{List, [], ◌∷◌, ◌++◌}
use Prim.Native.Nat.{ℕ, suc, ◌+◌, ◌≤◌}
use native.Mathlib.Nat.{add-zero}
use native.Mathlib.Omega.{arith}
use native.Mathlib.Numerals.{add-one}
use borrow.Author.Tests.{leb-true, eqb-true}
use lib.Dec.{leb, eqb, eqb-suc-zero}
use lib.ListN.{length, get_or, take, drop, take-append-drop, drop_of_length-le}
use lib.Seq.{drop-cons, split_at}
use lib.IntN.{ℤ, pos, neg_ℤ}
use Rattle.text.specs.Run.{run_of, all, has_at, is_digit}
use Rattle.text.proofs.Bools.{and_both}
use Rattle.text.proofs.Runs.{run-taken, run_length, run-after, has_within, has-byte, has_first}
use Rattle.number_decimal.specs.Digits.{most_digits, most_places, most_uncertain}
use Rattle.number_decimal.specs.Reading.{closes_bracket, is_tail, size_of, parts_size, digits_of, after_digits, unsigned_of, signed_of, reading_of}
use Rattle.number_decimal.specs.Grammar.{SignText, PointText, UncertaintyText, IsSize, IsNumber}
use Rattle.number_decimal.proofs.Values.{joined}

bracket-is : (u : List ℕ) → closes_bracket u ≡ true → UncertaintyText (40 ∷ u)
unfolding closes_bracket
bracket-is u e =
    let n = run_of is_digit u in
    let some = and_both (leb 1 n) _ e in
    let few = and_both (leb n most_uncertain) _ some.1 in
    let long = and_both (eqb (length u) (n + 1)) _ few.1 in
    let len : length u ≡ n + 1 = eqb-true _ _ long.0 in
    let last : get_or u n 0 ≡ 41 = eqb-true _ _ long.1 in
    let past : length u ≤ suc n = omega arith in
    let text : take n u ++ (41 ∷ []) ≡ u = sym (split_at u n 0 (omega arith) ∙ rw (last, drop_of_length-le u past)) in
    let l = run_length is_digit u in
    subst (λ (x : List ℕ). UncertaintyText (40 ∷ x)) text
    (UncertaintyText.bracket (take n u) (run-taken is_digit u) (rw l (leb-true _ _ some.0)) (rw l (leb-true _ _ few.0)))

uncertainty-is : (t : List ℕ) → is_tail t ≡ true → UncertaintyText t
unfolding is_tail
uncertainty-is [] e = UncertaintyText.none
uncertainty-is (b ∷ u) e =
    let h = and_both (eqb b 40) (closes_bracket u) (simp eqb-suc-zero at e) in
    subst (λ (x : ℕ). UncertaintyText (x ∷ u)) (sym (eqb-true b 40 h.0)) (bracket-is u h.1)

-- a size that a test let through
let_through : (test : Bool) (x : Option ℕ) (m : ℕ) → cond test x None ≡ Some m → (test ≡ true) × (x ≡ Some m)
let_through true x m e = (refl, e)
let_through false x m e = let z : ◌≡◌ {A = ℕ} 0 1 = cc in absurd (omega arith)

parts_are : {t : List ℕ} (before fraction pointed tail : List ℕ) {m : ℕ} → t ≡ before ++ (pointed ++ tail) → all is_digit before ≡ true → all is_digit fraction ≡ true
    → (1 ≤ length before + length fraction → PointText before fraction pointed) → parts_size before fraction tail ≡ Some m → IsSize t m
unfolding size_of
parts_are before fraction pointed tail {m} text b a p e =
    let h = let_through _ _ m e in
    let some = and_both (leb 1 (length before + length fraction)) _ h.0 in
    let few = and_both (leb (length before + length fraction) most_digits) _ some.1 in
    let places = and_both (leb (length fraction) most_places) _ few.1 in
    let six : length fraction ≤ most_places = leb-true _ _ places.0 in
    let law = joined before fraction six in
    let made = h.1 in
    record {
      before = before;
      fraction = fraction;
      pointed = pointed;
      tail = tail;
      text = text;
      before_digits = b;
      fraction_digits = a;
      places = six;
      few = leb-true _ _ few.0;
      is_point = p (leb-true _ _ some.0);
      is_uncertainty = uncertainty-is tail places.1;
      worth = cc;
    }

digits-then : (s : List ℕ) {r : List ℕ} → after_digits s ≡ r → s ≡ digits_of s ++ r
digits-then s e = sym (take-append-drop (run_of is_digit s) s) ∙ ap (λ (l : List ℕ). digits_of s ++ l) e

-- a point with a digit somewhere
pointed-is : (before fraction : List ℕ) → 1 ≤ length before + length fraction → PointText before fraction (46 ∷ fraction)
pointed-is [] fraction some = PointText.after_only fraction (omega arith)
pointed-is (d ∷ ds) [] some = PointText.before_only (d ∷ ds) (omega arith)
pointed-is (d ∷ ds) (f ∷ fs) some = PointText.each_side (d ∷ ds) (f ∷ fs) (omega arith) (omega arith)

-- without a point no digit follows the first ones
module _ (s : List ℕ) (m : ℕ) where
  size-by : (point : Bool) → has_at s (run_of is_digit s) 46 ≡ point
      → let f = drop (run_of is_digit s + cond point 1 0) s in parts_size (digits_of s) (digits_of f) (after_digits f) ≡ Some m → IsSize s m
  unfolding all
  size-by true h e =
      let n = run_of is_digit s in
      let f = drop (n + 1) s in
      let dot : after_digits s ≡ 46 ∷ f = drop-cons s n 0 (has_within s n 46 h) ∙ rw (add-one n, has-byte s n 46 h) in
      let text = digits-then s (dot ∙ ap (λ (l : List ℕ). 46 ∷ l) (digits-then f refl)) in
      parts_are (digits_of s) (digits_of f) (46 ∷ digits_of f) (after_digits f) text (run-taken is_digit s) (run-taken is_digit f) (pointed-is (digits_of s) (digits_of f)) e
  size-by false h e =
      let whole : parts_size (digits_of s) [] (after_digits s) ≡ Some m = simp (add-zero (run_of is_digit s), run-after is_digit s) at e in
      parts_are (digits_of s) [] [] (after_digits s) (digits-then s refl) (run-taken is_digit s) refl (λ some. PointText.whole (digits_of s) (omega arith)) whole

  size_is : unsigned_of s ≡ Some m → IsSize s m
  unfolding unsigned_of
  size_is e = size-by (has_at s (run_of is_digit s) 46) refl e

module _ {t : List ℕ} {z : ℤ} where
  signed_is : {negative : Bool} {sign : List ℕ} (rest : List ℕ) (x : Option ℕ) → t ≡ sign ++ rest → SignText negative sign → unsigned_of rest ≡ x → signed_of negative x ≡ Some z → IsNumber t z
  signed_is rest None text s u e = let q : ◌≡◌ {A = ℕ} 0 1 = cc in absurd (omega arith)
  signed_is {negative} {sign} rest (Some m) text s u e =
      let w : z ≡ cond negative (neg_ℤ (pos m)) (pos m) = cc in
      record { negative = negative; sign = sign; rest = rest; size = m; text = text; is_sign = s; is_size = size_is rest m u; worth = w }

  number_by : (minus plus : Bool) → has_at t 0 45 ≡ minus → has_at t 0 43 ≡ plus → signed_of minus (unsigned_of (drop (cond (minus || plus) 1 0) t)) ≡ Some z → IsNumber t z
  number_by true plus h k e = signed_is (drop 1 t) (unsigned_of (drop 1 t)) (has_first t 45 h) SignText.minus refl e
  number_by false true h k e = signed_is (drop 1 t) (unsigned_of (drop 1 t)) (has_first t 43 k) SignText.plus refl e
  number_by false false h k e = signed_is t (unsigned_of t) refl SignText.unsigned refl e

-- what is read as z the grammar takes for z
pub number_is : (t : List ℕ) (z : ℤ) → reading_of t ≡ Some z → IsNumber t z
unfolding reading_of
number_is t z e = number_by (has_at t 0 45) (has_at t 0 43) refl refl e
