-- Laws of the letters of a sum: what the reading holds of each after some signed letters, and that it takes them exactly when each is there at most once.
-- Assumes nothing.
use mathlib.Core.Path.{◌≡◌, refl, sym, ap, ◌∙◌}
use mathlib.Core.Bool.{Bool, true, false, cond, ◌&&◌, false≢true, true≢false}
use mathlib.Core.List.{List, [], ◌∷◌}
use Prim.Native.Nat.{ℕ, suc, ◌+◌, ◌≤◌}
use native.Mathlib.Omega.{arith}
use lib.Dec.{eqb}
use lib.IntN.{pos}
use Rattle.text.proofs.Bools.{and_both}
use Rattle.symmetry_fractions.specs.Grammar.{sign_byte, with_sign}
use Rattle.symmetry_fractions.specs.Reading.{signed24ths}
use Rattle.symmetry_parts.specs.Grammar.{Letter, letter_byte, same_letter, Signed, times_in, factor_of}
use Rattle.symmetry_parts.specs.Reading.{factor, is_free, with_letter}
use Rattle.symmetry_parts.specs.declared.Sum.{Sum}

-- what is held of a letter
abbrev pub number_of : Letter → Sum → ℕ
number_of Letter.X p = p.x
number_of Letter.Y p = p.y
number_of Letter.Z p = p.z

-- a signed letter's number, and the sum with it
abbrev pub signed_one : Signed → ℕ
signed_one a = signed24ths (sign_byte a.minus) 1

abbrev pub put : Sum → Signed → Sum
put p a = with_letter p (letter_byte a.letter) (signed_one a)

unfoldable pub put_all : Sum → List Signed → Sum
put_all p [] = p
put_all p (a ∷ l) = put_all (put p a) l

-- each letter is free when it comes
unfoldable pub fits : Sum → List Signed → Bool
fits p [] = true
fits p (a ∷ l) = is_free p (letter_byte a.letter) && fits (put p a) l

free-number : (c : Letter) (p : Sum) → is_free p (letter_byte c) ≡ eqb (number_of c p) 0
unfolding is_free
free-number Letter.X p = refl
free-number Letter.Y p = refl
free-number Letter.Z p = refl

same-is : (c d : Letter) → same_letter c d ≡ true → c ≡ d
same-is Letter.X Letter.X e = refl
same-is Letter.X Letter.Y e = absurd (false≢true e)
same-is Letter.X Letter.Z e = absurd (false≢true e)
same-is Letter.Y Letter.X e = absurd (false≢true e)
same-is Letter.Y Letter.Y e = refl
same-is Letter.Y Letter.Z e = absurd (false≢true e)
same-is Letter.Z Letter.X e = absurd (false≢true e)
same-is Letter.Z Letter.Y e = absurd (false≢true e)
same-is Letter.Z Letter.Z e = refl

module _ (p : Sum) (n : ℕ) where
  letter-own : (c : Letter) → number_of c (with_letter p (letter_byte c) n) ≡ n
  unfolding with_letter
  letter-own Letter.X = refl
  letter-own Letter.Y = refl
  letter-own Letter.Z = refl

  letter-same : (c d : Letter) → same_letter c d ≡ true → number_of c (with_letter p (letter_byte d) n) ≡ n
  letter-same c d e = ap (λ (k : Letter). number_of k (with_letter p (letter_byte d) n)) (same-is c d e) ∙ letter-own d

  letter-other : (c d : Letter) → same_letter c d ≡ false → number_of c (with_letter p (letter_byte d) n) ≡ number_of c p
  unfolding with_letter
  letter-other Letter.X Letter.X e = absurd (true≢false e)
  letter-other Letter.X Letter.Y e = refl
  letter-other Letter.X Letter.Z e = refl
  letter-other Letter.Y Letter.X e = refl
  letter-other Letter.Y Letter.Y e = absurd (true≢false e)
  letter-other Letter.Y Letter.Z e = refl
  letter-other Letter.Z Letter.X e = refl
  letter-other Letter.Z Letter.Y e = refl
  letter-other Letter.Z Letter.Z e = absurd (true≢false e)

  letter-translation : (d : Letter) → (with_letter p (letter_byte d) n).t ≡ p.t
  unfolding with_letter
  letter-translation Letter.X = refl
  letter-translation Letter.Y = refl
  letter-translation Letter.Z = refl

same_self : (c : Letter) → same_letter c c ≡ true
same_self Letter.X = refl
same_self Letter.Y = refl
same_self Letter.Z = refl

-- a sign with 1 gives a number that is not 0, and that factor
one-some : (minus : Bool) → eqb (signed24ths (sign_byte minus) 1) 0 ≡ false
unfolding signed24ths
one-some true = refl
one-some false = refl

one-factor : (minus : Bool) → factor (signed24ths (sign_byte minus) 1) ≡ with_sign minus 1
unfolding signed24ths factor
one-factor true = refl
one-factor false = refl

none-factor : factor 0 ≡ pos 0
unfolding factor
none-factor = refl

-- letters leave the translation
pub all-translation : (p : Sum) (l : List Signed) → (put_all p l).t ≡ p.t
unfolding put_all
all-translation p [] = refl
all-translation p (a ∷ l) = all-translation (put p a) l ∙ letter-translation p (signed_one a) a.letter

-- 1 if a letter is held
abbrev used : Letter → Sum → ℕ
used c p = cond (eqb (number_of c p) 0) 0 1

used-most : (t : Bool) → cond t 0 1 ≤ 1
used-most true = omega arith
used-most false = omega arith

module _ (c : Letter) (p : Sum) (a : Signed) where
  used-same : same_letter c a.letter ≡ true → used c (put p a) ≡ 1
  used-same e = simp (letter-same p (signed_one a) c a.letter e, one-some a.minus)

  used-other : same_letter c a.letter ≡ false → used c (put p a) ≡ used c p
  used-other e = simp (letter-other p (signed_one a) c a.letter e)

  free-unused : same_letter c a.letter ≡ true → is_free p (letter_byte a.letter) ≡ true → used c p ≡ 0
  free-unused e f =
      let q : eqb (number_of c p) 0 ≡ true = ap (λ (n : ℕ). eqb n 0) (ap (λ (k : Letter). number_of k p) (same-is c a.letter e)) ∙ sym (free-number a.letter p) ∙ f in
      rw q

-- letters that fit are there at most once, with what was held before
once_by : (c : Letter) (p : Sum) (a : Signed) (n : ℕ) (t : Bool) → same_letter c a.letter ≡ t → is_free p (letter_byte a.letter) ≡ true
    → used c (put p a) + n ≤ 1 → used c p + cond t (suc n) n ≤ 1
once_by c p a n true e f h = omega (arith, free-unused c p a e f, used-same c p a e)
once_by c p a n false e f h = omega (arith, used-other c p a e)

pub fits-once : (c : Letter) (p : Sum) (l : List Signed) → fits p l ≡ true → used c p + times_in c l ≤ 1
unfolding fits times_in
fits-once c p [] h = omega (arith, used-most (eqb (number_of c p) 0))
fits-once c p (a ∷ l) h =
    let k = and_both (is_free p (letter_byte a.letter)) (fits (put p a) l) h in
    once_by c p a (times_in c l) (same_letter c a.letter) refl k.0 (fits-once c (put p a) l k.1)

-- letters that are there at most once fit
put-by : (c : Letter) (p : Sum) (a : Signed) (n : ℕ) (t : Bool) → same_letter c a.letter ≡ t → used c p + cond t (suc n) n ≤ 1 → used c (put p a) + n ≤ 1
put-by c p a n true e h = omega (arith, used-same c p a e)
put-by c p a n false e h = omega (arith, used-other c p a e)

unused-free : (c : Letter) (p : Sum) (n : ℕ) (t : Bool) → eqb (number_of c p) 0 ≡ t → cond t 0 1 + suc n ≤ 1 → is_free p (letter_byte c) ≡ true
unused-free c p n true e h = free-number c p ∙ e
unused-free c p n false e h = absurd (omega arith)

times-own : (a : Signed) (l : List Signed) → times_in a.letter (a ∷ l) ≡ suc (times_in a.letter l)
unfolding times_in
times-own a l = rw (same_self a.letter)

pub once-fits : (p : Sum) (l : List Signed) → ((c : Letter) → used c p + times_in c l ≤ 1) → fits p l ≡ true
unfolding fits times_in
once-fits p [] h = refl
once-fits p (a ∷ l) h =
    let d = a.letter in
    let own : used d p + suc (times_in d l) ≤ 1 = omega (arith, h d, times-own a l) in
    let free = unused-free d p (times_in d l) (eqb (number_of d p) 0) refl own in
    rw free (once-fits (put p a) l (λ c. put-by c p a (times_in c l) (same_letter c d) refl (h c)))

-- a letter that is held stays as it is
module _ (c : Letter) where
  kept_by : (p : Sum) (a : Signed) (t : Bool) → same_letter c a.letter ≡ t → is_free p (letter_byte a.letter) ≡ true → eqb (number_of c p) 0 ≡ false → number_of c (put p a) ≡ number_of c p
  kept_by p a true e f h = let q : used c p ≡ 1 = rw h in absurd (omega (arith, free-unused c p a e f))
  kept_by p a false e f h = letter-other p (signed_one a) c a.letter e

  kept : (p : Sum) (l : List Signed) → fits p l ≡ true → eqb (number_of c p) 0 ≡ false → number_of c (put_all p l) ≡ number_of c p
  unfolding fits put_all
  kept p [] h k = refl
  kept p (a ∷ l) h k =
      let f = and_both (is_free p (letter_byte a.letter)) (fits (put p a) l) h in
      let e = kept_by p a (same_letter c a.letter) refl f.0 k in
      kept (put p a) l f.1 (ap (λ (n : ℕ). eqb n 0) e ∙ k) ∙ e

  -- a letter that was not held has the factor of its sign
  factor-by : (p : Sum) (a : Signed) (l : List Signed) (t : Bool) → same_letter c a.letter ≡ t → fits (put p a) l ≡ true
      → (number_of c (put p a) ≡ 0 → factor (number_of c (put_all (put p a) l)) ≡ factor_of c l) → number_of c p ≡ 0
      → factor (number_of c (put_all (put p a) l)) ≡ cond t (with_sign a.minus 1) (factor_of c l)
  factor-by p a l true e f ih h =
      let s = letter-same p (signed_one a) c a.letter e in
      ap factor (kept (put p a) l f (ap (λ (n : ℕ). eqb n 0) s ∙ one-some a.minus) ∙ s) ∙ one-factor a.minus
  factor-by p a l false e f ih h = ih (letter-other p (signed_one a) c a.letter e ∙ h)

  pub factor-of : (p : Sum) (l : List Signed) → fits p l ≡ true → number_of c p ≡ 0 → factor (number_of c (put_all p l)) ≡ factor_of c l
  unfolding fits put_all factor_of
  factor-of p [] h k = ap factor k ∙ none-factor
  factor-of p (a ∷ l) h k =
      let f = and_both (is_free p (letter_byte a.letter)) (fits (put p a) l) h in
      factor-by p a l (same_letter c a.letter) refl f.1 (factor-of (put p a) l f.1) k
