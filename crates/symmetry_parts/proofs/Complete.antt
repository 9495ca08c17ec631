-- Every text that the grammar takes for a part is read as its numbers.
-- Assumes nothing.
use mathlib.Core.Path.{◌≡◌, refl, sym, ap, subst, ◌∙◌}
use mathlib.Core.Bool.{Bool, true, false}
use mathlib.Core.List.{List, [], ◌∷◌, ◌++◌, append-nil}
use Prim.Native.Nat.{ℕ, ◌+◌, ◌≤◌, ◌<◌}
use native.Mathlib.Nat.{not-suc-le-zero}
use native.Mathlib.Omega.{arith}
use borrow.Author.Tests.{eq-eqb, ne_eqb, lt-leb}
use lib.ListN.{length, get_or, length-append}
use lib.Seq.{drop_at}
use lib.IntN.{ℤ}
use Rattle.std.specs.Prelude.{Option, Some, None}
use Rattle.text.proofs.Bools.{and_both}
use Rattle.symmetry_operators.specs.Operator.{Part}
use Rattle.symmetry_fractions.specs.Grammar.{sign_byte, IsFraction}
use Rattle.symmetry_fractions.specs.Reading.{is_sign, signed24ths, fraction_of}
use Rattle.symmetry_fractions.proofs.Wording.{fraction-taken, fraction-alone, fraction-size, fraction-length, fraction-first, begins}
use Rattle.symmetry_parts.specs.Grammar.{Letter, letter_byte, Signed, sum_text, times_in, WithFraction, MayLackPlus, IsPart}
use Rattle.symmetry_parts.specs.Reading.{part_numbers, is_free, with_translation, last_fraction, more_of, after_first_sign, part_of}
use Rattle.symmetry_parts.specs.declared.Sum.{Sum}
use Rattle.symmetry_parts.proofs.Turns.{more-letter, more-last, part-unsigned}
use Rattle.symmetry_parts.proofs.Letters.{put, put_all, fits, all-translation}
use Rattle.symmetry_parts.proofs.Worth.{Tail, start, factors, sum-worth, own-worth, letters-fit, signed-residue}

pub sign-is-sign : (minus : Bool) → is_sign (sign_byte minus) ≡ true
unfolding is_sign
sign-is-sign true = refl
sign-is-sign false = refl

-- a digit is not a letter
digit-not-free : (p : Sum) (b : ℕ) → b ≤ 57 → is_free p b ≡ false
unfolding is_free
digit-not-free p b l =
    let x : b ≡ 120 → ⊥ = λ e. omega arith in
    let y : b ≡ 121 → ⊥ = λ e. omega arith in
    let z : b ≡ 122 → ⊥ = λ e. omega arith in
    simp (ne_eqb b 120 x, ne_eqb b 121 y, ne_eqb b 122 z)

fraction-not-free : (p : Sum) {t : List ℕ} {size : ℕ} → IsFraction t size → is_free p (get_or t 0 0) ≡ false
fraction-not-free p h = rw h.text (digit-not-free p (48 + h.numerator) (omega (arith, h.most)))

last_taken : (p : Sum) (minus : Bool) {t : List ℕ} {size : ℕ} → IsFraction t size → p.t ≡ 0
    → last_fraction p (sign_byte minus) t ≡ Some (with_translation p (signed24ths (sign_byte minus) size))
unfolding last_fraction
last_taken p minus {size = n} h e =
    simp (eq-eqb _ _ e, eq-eqb _ _ (fraction-length h), fraction-alone h)

tail-taken : (p : Sum) {t : List ℕ} {q : Sum} → Tail p t q → more_of p t ≡ Some q
unfolding more_of
tail-taken p Tail.none = refl
tail-taken p (Tail.last minus t size h e) = more-last p (sign_byte minus) t (sign-is-sign minus) (fraction-not-free p h) ∙ last_taken p minus h e

more-taken : (p : Sum) (l : List Signed) {t : List ℕ} {q : Sum} → fits p l ≡ true → Tail (put_all p l) t q → more_of p (sum_text l ++ t) ≡ Some q
unfolding fits put_all sum_text
more-taken p [] h k = tail-taken p k
more-taken p (a ∷ l) {t} h k =
    let f = and_both (is_free p (letter_byte a.letter)) (fits (put p a) l) h in
    more-letter p (sign_byte a.minus) (letter_byte a.letter) (sum_text l ++ t) (sign-is-sign a.minus) f.0
    ∙ more-taken (put p a) l f.1 k

-- ---- the first sign and what follows it
letter-unsigned : (c : Letter) → is_sign (letter_byte c) ≡ false
unfolding is_sign
letter-unsigned Letter.X = refl
letter-unsigned Letter.Y = refl
letter-unsigned Letter.Z = refl

digit-unsigned : (b : ℕ) → 49 ≤ b → is_sign b ≡ false
unfolding is_sign
digit-unsigned b l =
    let plus : b ≡ 43 → ⊥ = λ e. omega arith in
    let minus : b ≡ 45 → ⊥ = λ e. omega arith in
    simp (ne_eqb b 43 plus, ne_eqb b 45 minus)

letter-high : (c : Letter) → 120 ≤ letter_byte c
letter-high Letter.X = omega arith
letter-high Letter.Y = omega arith
letter-high Letter.Z = omega arith

-- a text that begins with a letter begins with no fraction
pub no_fraction : (s : List ℕ) → 120 ≤ get_or s 0 0 → fraction_of s ≡ None
no_fraction s h = by (fraction_of s) refl
  where
    by : (x : Option ℕ) → fraction_of s ≡ x → fraction_of s ≡ None
    by None e = e
    by (Some n) e =
        let b = begins s n e in
        let k : get_or s 0 0 ≤ 55 = rw b.text (fraction-first b.is-fraction b.rest).1 in
        absurd (omega arith)

letters-first : (a : Signed) (l : List Signed) {t : List ℕ} {q : Sum} → fits (start 0) (a ∷ l) ≡ true → Tail (put_all (start 0) (a ∷ l)) t q
    → after_first_sign (sign_byte a.minus) (letter_byte a.letter ∷ (sum_text l ++ t)) ≡ Some q
unfolding after_first_sign fits put_all
letters-first a l {t} h k =
    let f = and_both (is_free (start 0) (letter_byte a.letter)) (fits (put (start 0) a) l) h in
    let s : List ℕ = letter_byte a.letter ∷ (sum_text l ++ t) in
    simp (no_fraction s (letter-high a.letter), f.0) (more-taken (put (start 0) a) l f.1 k)

fraction-then : (minus : Bool) {t : List ℕ} {n : ℕ} (l : List Signed) → IsFraction t n → 1 ≤ length l → fits (start (signed24ths (sign_byte minus) n)) l ≡ true
    → after_first_sign (sign_byte minus) (t ++ sum_text l) ≡ Some (put_all (start (signed24ths (sign_byte minus) n)) l)
unfolding after_first_sign sum_text
fraction-then minus [] h some f = absurd (not-suc-le-zero some)
fraction-then minus {t} {n} (a ∷ l) h some f =
    let r = sum_text (a ∷ l) in
    let long : 3 < length (t ++ r) = omega (arith, length-append t r, fraction-length h) in
    let m = signed24ths (sign_byte minus) n in
    let all : more_of (start m) r ≡ Some (put_all (start m) (a ∷ l)) = ap (more_of (start m)) (sym (append-nil r)) ∙ more-taken (start m) (a ∷ l) f Tail.none in
    simp (fraction-taken h r, lt-leb _ _ long, drop_at t r 3 (fraction-length h)) all

-- a text with every sign that is read as a part: its first sign, and what follows
pub record Taken (full : List ℕ) (p : Part ℤ) : Type 0 where
  pub minus : Bool
  pub rest : List ℕ
  pub sum : Sum
  pub text : full ≡ sign_byte minus ∷ rest
  pub unsigned : is_sign (get_or rest 0 0) ≡ false
  pub read : after_first_sign (sign_byte minus) rest ≡ Some sum
  pub worth : part_numbers sum ≡ p

full-taken : (l : List Signed) {full : List ℕ} {n : ℤ} → 1 ≤ length l → ((c : Letter) → times_in c l ≤ 1) → WithFraction (sum_text l) full n → Taken full (factors l n)
unfolding sum_text
full-taken [] some once w = absurd (not-suc-le-zero some)
full-taken (a ∷ l) some once WithFraction.none =
    let f = letters-fit 0 (a ∷ l) once in
    let r = letter_byte a.letter ∷ sum_text l in
    let q = put_all (start 0) (a ∷ l) in
    let read : after_first_sign (sign_byte a.minus) (letter_byte a.letter ∷ (sum_text l ++ [])) ≡ Some q = letters-first a l f Tail.none in
    record {
      minus = a.minus;
      rest = r;
      sum = q;
      text = refl;
      unsigned = letter-unsigned a.letter;
      read = ap (λ (u : List ℕ). after_first_sign (sign_byte a.minus) (letter_byte a.letter ∷ u)) (sym (append-nil (sum_text l))) ∙ read;
      worth = own-worth 0 (a ∷ l) f;
    }
full-taken (a ∷ l) some once (WithFraction.last minus t n h) =
    let f = letters-fit 0 (a ∷ l) once in
    let size = fraction-size h in
    record {
      minus = a.minus;
      rest = letter_byte a.letter ∷ (sum_text l ++ (sign_byte minus ∷ t));
      sum = with_translation (put_all (start 0) (a ∷ l)) (signed24ths (sign_byte minus) n);
      text = refl;
      unsigned = letter-unsigned a.letter;
      read = letters-first a l f (Tail.last minus t n h (all-translation (start 0) (a ∷ l)));
      worth = sum-worth 0 (signed24ths (sign_byte minus) n) (a ∷ l) f ∙ rw (signed-residue minus n size.0 size.1);
    }
full-taken (a ∷ l) some once (WithFraction.first minus t n h) =
    let m = signed24ths (sign_byte minus) n in
    let f = letters-fit m (a ∷ l) once in
    let size = fraction-size h in
    record {
      minus = minus;
      rest = t ++ sum_text (a ∷ l);
      sum = put_all (start m) (a ∷ l);
      text = refl;
      unsigned = digit-unsigned _ (fraction-first h (sum_text (a ∷ l))).0;
      read = fraction-then minus (a ∷ l) h some f;
      worth = own-worth m (a ∷ l) f ∙ rw (signed-residue minus n size.0 size.1);
    }

-- a part of the grammar is read as its numbers
pub record Read (t : List ℕ) (p : Part ℤ) : Type 0 where
  pub sum : Sum
  pub read : part_of t ≡ Some sum
  pub worth : part_numbers sum ≡ p

plus-only : (minus : Bool) (t r : List ℕ) → sign_byte false ∷ t ≡ sign_byte minus ∷ r → (minus ≡ false) × (t ≡ r)
plus-only true t r e = let z : ◌≡◌ {A = ℕ} 43 45 = cc in absurd (omega arith)
plus-only false t r e = (refl, cc)

written_read : {full t : List ℕ} {p : Part ℤ} → Taken full p → MayLackPlus full t → Read t p
unfolding part_of
written_read k (MayLackPlus.in_full t) =
    record { sum = k.sum; read = rw k.text (simp (sign-is-sign k.minus) k.read); worth = k.worth }
written_read k (MayLackPlus.plus_missing t) =
    let e = plus-only k.minus t k.rest k.text in
    let q : after_first_sign 43 k.rest ≡ Some k.sum = ap (λ (m : Bool). after_first_sign (sign_byte m) k.rest) (sym e.0) ∙ k.read in
    record { sum = k.sum; read = rw e.1 (part-unsigned k.rest k.unsigned ∙ q); worth = k.worth }

pub part-taken : (t : List ℕ) (p : Part ℤ) → IsPart t p → Read t p
part-taken t p h = subst (Read t) (sym h.worth) (written_read (full-taken h.letters h.some h.once h.with_fraction) h.written)
