-- `fraction_of` is the wording of document 02, No. 5: a text that begins with a fraction is read as its 24ths, and what is read as some 24ths begins with that fraction.
-- Assumes nothing.
use mathlib.Core.Path.{◌≡◌, refl, sym, ap, subst, ◌∙◌}
use mathlib.Core.Bool.{Bool, true, false, cond}
use mathlib.Core.List.{List, [], ◌∷◌, ◌++◌}
use Prim.Native.Nat.{ℕ, ◌+◌, ◌-◌, ◌*◌, ◌≤◌, ◌<◌}
use native.Mathlib.Nat.{mul_assoc, mul_comm}
use native.Mathlib.Omega.{arith}
use borrow.Author.Tests.{le-leb, leb-true, lt-ltb, ltb-true, eqb-true}
use lib.Dec.{leb, eqb}
use lib.ListN.{length, get_or}
use Rattle.std.specs.Prelude.{Option, Some, None, option_map}
use Rattle.std.proofs.lemmas.Option.{none-some, same_Some}
use Rattle.text.specs.Run.{all, between}
use Rattle.text.proofs.Bools.{and_both}
use Rattle.text.proofs.Runs.{between-taken}
use Rattle.symmetry_fractions.specs.Grammar.{one_in24ths, IsDenominator, IsFraction}
use Rattle.symmetry_fractions.specs.Reading.{unit_of, fraction_of}
use Rattle.symmetry_fractions.proofs.Units.{UnitOf, unit-of}

fraction-by : (a d : ℕ) (r : List ℕ) → 49 ≤ a → a < d → fraction_of (a ∷ (47 ∷ (d ∷ r))) ≡ option_map (λ (u : ℕ). (a - 48) * u) (unit_of d)
unfolding fraction_of
fraction-by a d r l b =
    let long : 3 ≤ length (a ∷ (47 ∷ (d ∷ r))) = omega arith in
    simp (le-leb _ _ long, le-leb _ _ l, lt-ltb _ _ b)

-- what is known of n / d, which is u 24ths
pub record Sized (n d u : ℕ) : Type 0 where
  pub some : 1 ≤ u
  pub below_one : u < one_in24ths
  pub few : n ≤ 7
  pub digit : d ≤ 8
  pub units : option_map (λ (x : ℕ). n * x) (unit_of (48 + d)) ≡ Some u

pub sized : (n u : ℕ) {d : ℕ} → IsDenominator d → 1 ≤ n → n < d → u * d ≡ one_in24ths * n → Sized n d u
unfolding unit_of
sized n u IsDenominator.two l b w = record { some = omega arith; below_one = omega arith; few = omega arith; digit = omega arith; units = let e : n * 12 ≡ u = omega arith in ap Some e }
sized n u IsDenominator.three l b w = record { some = omega arith; below_one = omega arith; few = omega arith; digit = omega arith; units = let e : n * 8 ≡ u = omega arith in ap Some e }
sized n u IsDenominator.four l b w = record { some = omega arith; below_one = omega arith; few = omega arith; digit = omega arith; units = let e : n * 6 ≡ u = omega arith in ap Some e }
sized n u IsDenominator.six l b w = record { some = omega arith; below_one = omega arith; few = omega arith; digit = omega arith; units = let e : n * 4 ≡ u = omega arith in ap Some e }
sized n u IsDenominator.eight l b w = record { some = omega arith; below_one = omega arith; few = omega arith; digit = omega arith; units = let e : n * 3 ≡ u = omega arith in ap Some e }

module _ {t : List ℕ} {size : ℕ} (h : IsFraction t size) where
  known : Sized h.numerator h.denominator size
  known = sized h.numerator size h.is_denominator h.least h.below h.worth

  digits-taken : (r : List ℕ) → fraction_of ((48 + h.numerator) ∷ (47 ∷ ((48 + h.denominator) ∷ r))) ≡ Some size
  digits-taken r =
      let off : 48 + h.numerator - 48 ≡ h.numerator = omega arith in
      fraction-by (48 + h.numerator) (48 + h.denominator) r (omega (arith, h.least)) (omega (arith, h.below)) ∙ rw off known.units

  -- a text that begins with a fraction is read as that fraction
  pub fraction-taken : (r : List ℕ) → fraction_of (t ++ r) ≡ Some size
  fraction-taken r = rw h.text (digits-taken r)

  -- and so is a fraction alone
  pub fraction-alone : fraction_of t ≡ Some size
  fraction-alone = rw h.text (digits-taken [])

  -- a fraction is between zero and one
  pub fraction-size : (1 ≤ size) × (size < one_in24ths)
  fraction-size = (known.some, known.below_one)

  pub fraction-length : length t ≡ 3
  fraction-length = rw h.text

  -- its first byte is a digit
  pub fraction-first : (r : List ℕ) → (49 ≤ get_or (t ++ r) 0 0) × (get_or (t ++ r) 0 0 ≤ 55)
  fraction-first r = rw h.text (omega (arith, h.least, h.most))

  -- its bytes are a slash and digits up to 8
  pub fraction-bytes : all (between 47 56) t ≡ true
  unfolding all
  fraction-bytes =
      let n : between 47 56 (48 + h.numerator) ≡ true = between-taken 47 56 (48 + h.numerator) (omega arith) (omega (arith, h.most)) in
      let d : between 47 56 (48 + h.denominator) ≡ true = between-taken 47 56 (48 + h.denominator) (omega arith) (omega (arith, known.digit)) in
      rw h.text (simp (n, d, between-taken 47 56 47 (omega arith) (omega arith)))

-- a text that begins with the fraction of so many 24ths, and what follows it
pub record Begins (s : List ℕ) (size : ℕ) : Type 0 where
  pub fraction : List ℕ
  pub rest : List ℕ
  pub text : s ≡ fraction ++ rest
  pub is-fraction : IsFraction fraction size

module _ (a d : ℕ) (l : 49 ≤ a) (b : a < d) (size : ℕ) (e : option_map (λ (u : ℕ). (a - 48) * u) (unit_of d) ≡ Some size) where
  fraction-is : IsFraction (a ∷ (47 ∷ (d ∷ []))) size
  fraction-is = by (unit-of d)
    where
      scaled : (n u k m : ℕ) → m ≡ n * u → u * k ≡ one_in24ths → m * k ≡ 24 * n
      scaled n u k m p q = rw p (mul_assoc n u k ∙ rw q (mul_comm n 24))

      by : UnitOf d → IsFraction (a ∷ (47 ∷ (d ∷ []))) size
      by (UnitOf.none q) = absurd (none-some size (sym (ap (option_map (λ (u : ℕ). (a - 48) * u)) q) ∙ e))
      by (UnitOf.digit k u is q f w) =
          let top : 48 + (a - 48) ≡ a = omega arith in
          let less : a - 48 < k = omega arith in
          let worth = scaled (a - 48) u k size (sym (same_Some _ _ (sym (ap (option_map (λ (u : ℕ). (a - 48) * u)) f) ∙ e))) w in
          record {
            numerator = a - 48;
            denominator = k;
            text = rw (top, q) refl;
            least = omega arith;
            most = (sized (a - 48) size is (omega arith) less worth).few;
            below = less;
            is_denominator = is;
            worth = worth;
          }

some_of : (t : Bool) (x : Option ℕ) (n : ℕ) → cond t x None ≡ Some n → t ≡ true
some_of true x n h = refl
some_of false x n h = absurd (none-some n h)

-- what is read as some 24ths begins with that fraction
pub begins : (s : List ℕ) (size : ℕ) → fraction_of s ≡ Some size → Begins s size
unfolding fraction_of
begins [] size h = absurd (none-some size h)
begins (a ∷ []) size h = absurd (none-some size h)
begins (a ∷ (b ∷ [])) size h = absurd (none-some size h)
begins (a ∷ (b ∷ (d ∷ r))) size h =
    let s : List ℕ = a ∷ (b ∷ (d ∷ r)) in
    let p = and_both (leb 3 (length s)) _ (some_of _ _ size h) in
    let q = and_both (eqb b 47) _ p.1 in
    let v = and_both (leb 49 a) _ q.1 in
    let slash : b ≡ 47 = eqb-true b 47 q.0 in
    let l = leb-true 49 a v.0 in
    let below = ltb-true a d v.1 in
    let e : option_map (λ (u : ℕ). (a - 48) * u) (unit_of d) ≡ Some size
    = sym (ap (λ (x : ℕ). fraction_of (a ∷ (x ∷ (d ∷ r)))) slash ∙ fraction-by a d r l below) ∙ h in
    record {
      fraction = a ∷ (b ∷ (d ∷ []));
      rest = r;
      text = refl;
      is-fraction = subst (λ (x : ℕ). IsFraction (a ∷ (x ∷ (d ∷ []))) size) (sym slash) (fraction-is a d l below size e);
    }
