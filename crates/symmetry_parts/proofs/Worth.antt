-- What a sum is worth: the factors of its letters and the translation, modulo 1.
-- Assumes nothing.
use mathlib.Core.Path.{◌≡◌, refl, ap, ◌∙◌}
use mathlib.Core.Bool.{Bool, true, false}
use mathlib.Core.List.{List, [], ◌∷◌}
use Prim.Native.Nat.{ℕ, zero, suc, ◌%◌, ◌≤◌, ◌<◌}
use native.Mathlib.Omega.{arith}
use lib.IntN.{ℤ, pos}
use Rattle.symmetry_operators.specs.Operator.{Part, part, residue}
use Rattle.symmetry_fractions.specs.Grammar.{one_in24ths, sign_byte, with_sign, IsFraction}
use Rattle.symmetry_fractions.specs.Reading.{signed24ths}
use Rattle.symmetry_parts.specs.Grammar.{Letter, Signed, times_in, factor_of}
use Rattle.symmetry_parts.specs.Reading.{sum, part_numbers, with_translation}
use Rattle.symmetry_parts.specs.declared.Sum.{Sum}
use Rattle.symmetry_parts.proofs.Letters.{number_of, put_all, fits, all-translation, fits-once, once-fits, factor-of}

-- what may follow the letters of a sum, and the sum with it
pub data Tail (p : Sum) : List ℕ → Sum → Type 0 where
  none : Tail p [] p
  last : (minus : Bool) (t : List ℕ) (size : ℕ) → IsFraction t size → p.t ≡ 0 → Tail p (sign_byte minus ∷ t) (with_translation p (signed24ths (sign_byte minus) size))

-- a sum's factors, and a translation modulo 1
abbrev pub factors : List Signed → ℤ → Part ℤ
factors l n = part (factor_of Letter.X l) (factor_of Letter.Y l) (factor_of Letter.Z l) (pos (residue n))

abbrev pub start : ℕ → Sum
start n = sum 0 0 0 n

start-zero : (c : Letter) (n : ℕ) → number_of c (start n) ≡ 0
start-zero Letter.X n = refl
start-zero Letter.Y n = refl
start-zero Letter.Z n = refl

pub sum-worth : (n m : ℕ) (l : List Signed) → fits (start n) l ≡ true
    → part_numbers (with_translation (put_all (start n) l) m) ≡ part (factor_of Letter.X l) (factor_of Letter.Y l) (factor_of Letter.Z l) (pos (m % one_in24ths))
sum-worth n m l h =
    rw (
      factor-of Letter.X (start n) l h (start-zero Letter.X n),
      factor-of Letter.Y (start n) l h (start-zero Letter.Y n),
      factor-of Letter.Z (start n) l h (start-zero Letter.Z n),
    )

pub letters-fit : (n : ℕ) (l : List Signed) → ((c : Letter) → times_in c l ≤ 1) → fits (start n) l ≡ true
letters-fit n l h = once-fits (start n) l (λ c. rw (start-zero c n) (omega (arith, h c)))

pub fit-once : (n : ℕ) (l : List Signed) → fits (start n) l ≡ true → (c : Letter) → times_in c l ≤ 1
fit-once n l h Letter.X = omega (arith, fits-once Letter.X (start n) l h)
fit-once n l h Letter.Y = omega (arith, fits-once Letter.Y (start n) l h)
fit-once n l h Letter.Z = omega (arith, fits-once Letter.Z (start n) l h)

-- a signed fraction, modulo 1
pub signed-residue : (minus : Bool) (n : ℕ) → 1 ≤ n → n < one_in24ths → signed24ths (sign_byte minus) n % one_in24ths ≡ residue (with_sign minus n)
unfolding signed24ths
signed-residue false n l m = refl
signed-residue true zero l m = absurd (omega arith)
signed-residue true (suc n) l m = omega arith

pub signed-some : (minus : Bool) (n : ℕ) → 1 ≤ n → n < one_in24ths → signed24ths (sign_byte minus) n ≡ 0 → ⊥
unfolding signed24ths
signed-some false n l m e = omega arith
signed-some true n l m e = omega arith

pub own-worth : (n : ℕ) (l : List Signed) → fits (start n) l ≡ true
    → part_numbers (put_all (start n) l) ≡ part (factor_of Letter.X l) (factor_of Letter.Y l) (factor_of Letter.Z l) (pos (n % one_in24ths))
own-worth n l h = ap (λ (k : ℕ). part_numbers (with_translation (put_all (start n) l) k)) (all-translation (start n) l) ∙ sum-worth n n l h
