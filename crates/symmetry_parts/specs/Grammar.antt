-- A part in the words of document 02, No. 5: "a sum of one or more signed x, y, z (only the part's first plus may be missing), each letter at most
-- once, with at most one signed fraction first or last". Assumes nothing.
use Rattle.std.specs.Prelude.{ℕ, suc, ◌≤◌, ◌≡◌, Bool, false, cond, List, [], ◌∷◌, ◌++◌, eqb, length, ℤ, pos}
use Rattle.symmetry_operators.specs.Operator.{Part, part, residue}
use Rattle.symmetry_fractions.specs.Grammar.{sign_byte, with_sign, IsFraction}

-- "x, y, z", and the byte of each
pub data Letter : Type 0 where
  X : Letter
  Y : Letter
  Z : Letter

abbrev pub letter_byte : Letter → ℕ
letter_byte Letter.X = 120
letter_byte Letter.Y = 121
letter_byte Letter.Z = 122

abbrev pub same_letter : Letter → Letter → Bool
same_letter c d = eqb (letter_byte c) (letter_byte d)

-- "signed x, y, z"
pub record Signed : Type 0 where
  pub minus : Bool
  pub letter : Letter

-- "a sum of .. signed x, y, z": its text with every sign
unfoldable pub sum_text : List Signed → List ℕ
sum_text [] = []
sum_text (a ∷ l) = sign_byte a.minus ∷ (letter_byte a.letter ∷ sum_text l)

-- how often a letter is in a sum
unfoldable pub times_in : Letter → List Signed → ℕ
times_in c [] = 0
times_in c (a ∷ l) = cond (same_letter c a.letter) (suc (times_in c l)) (times_in c l)

-- a letter's factor in a sum that has it at most once: 1 or −1 by its sign, and 0 if it is not there
unfoldable pub factor_of : Letter → List Signed → ℤ
factor_of c [] = pos 0
factor_of c (a ∷ l) = cond (same_letter c a.letter) (with_sign a.minus 1) (factor_of c l)

-- "with at most one signed fraction first or last": a sum's text, the part's text with every sign, and how many 24ths the fraction is
pub data WithFraction (sum : List ℕ) : List ℕ → ℤ → Type 0 where
  none : WithFraction sum sum (pos 0)
  first : (minus : Bool) (t : List ℕ) (size : ℕ) → IsFraction t size → WithFraction sum (sign_byte minus ∷ (t ++ sum)) (with_sign minus size)
  last : (minus : Bool) (t : List ℕ) (size : ℕ) → IsFraction t size → WithFraction sum (sum ++ (sign_byte minus ∷ t)) (with_sign minus size)

-- "only the part's first plus may be missing": the text with every sign, and the text as it is written
pub data MayLackPlus : List ℕ → List ℕ → Type 0 where
  in_full : (t : List ℕ) → MayLackPlus t t
  plus_missing : (t : List ℕ) → MayLackPlus (sign_byte false ∷ t) t

-- a part, and its factors and translation; "Translations count modulo 1"
pub record IsPart (t : List ℕ) (p : Part ℤ) : Type 0 where
  pub letters : List Signed
  pub full : List ℕ
  pub translation : ℤ
  pub some : 1 ≤ length letters
  pub once : (c : Letter) → times_in c letters ≤ 1
  pub with_fraction : WithFraction (sum_text letters) full translation
  pub written : MayLackPlus full t
  pub worth : p ≡ part (factor_of Letter.X letters) (factor_of Letter.Y letters) (factor_of Letter.Z letters) (pos (residue translation))
