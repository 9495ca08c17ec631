-- The reading of a part by stages, as the code goes. `Sound` and `Complete` (proofs) show that it is the grammar's.
-- Assumes nothing.
use Rattle.std.specs.Prelude.{ℕ, ◌%◌, Bool, false, cond, Option, Some, None, option_map, List, [], ◌∷◌, leb, eqb, length, drop, ℤ, pos, negsuc}
use Rattle.symmetry_operators.specs.Operator.{Part, part}
use Rattle.symmetry_fractions.specs.Grammar.{one_in24ths}
use Rattle.symmetry_fractions.specs.Reading.{fraction_length, is_sign, signed24ths, fraction_of}
use Rattle.symmetry_parts.specs.declared.Sum.{Sum}

abbrev pub sum : ℕ → ℕ → ℕ → ℕ → Sum
sum a b c d = record { x = a; y = b; z = c; t = d }

-- a factor by its residue: −1 is 23
unfoldable pub factor : ℕ → ℤ
factor n = cond (eqb n 0) (pos 0) (cond (eqb n 1) (pos 1) (negsuc 0))

-- the numbers of a part by their residues
abbrev pub part_numbers : Sum → Part ℤ
part_numbers p = part (factor p.x) (factor p.y) (factor p.z) (pos (p.t % one_in24ths))

-- b is a letter that is not yet in p
unfoldable pub is_free : Sum → ℕ → Bool
is_free p b = cond (eqb b 120) (eqb p.x 0) (cond (eqb b 121) (eqb p.y 0) (cond (eqb b 122) (eqb p.z 0) false))

-- p with the factor n of the letter b
unfoldable pub with_letter : Sum → ℕ → ℕ → Sum
with_letter p b n = cond (eqb b 120) (sum n p.y p.z p.t) (cond (eqb b 121) (sum p.x n p.z p.t) (sum p.x p.y n p.t))

-- p with the translation n
abbrev pub with_translation : Sum → ℕ → Sum
with_translation p n = sum p.x p.y p.z n

-- after p and a sign: the fraction, if there was none before, and nothing more
unfoldable pub last_fraction : Sum → ℕ → List ℕ → Option Sum
last_fraction p sign s =
    cond (eqb p.t 0) (cond (eqb (length s) fraction_length) (option_map (λ (size : ℕ). with_translation p (signed24ths sign size)) (fraction_of s)) None) None

-- after p: signed letters, each not yet in the sum, and at the end the fraction, if there was none before
unfoldable pub more_of : Sum → List ℕ → Option Sum
more_of p [] = Some p
more_of p (sign ∷ []) = None
more_of p (sign ∷ (b ∷ r)) = cond (is_sign sign) (cond (is_free p b) (more_of (with_letter p b (signed24ths sign 1)) r) (last_fraction p sign (b ∷ r))) None

-- after the first sign, where no fraction comes next: a letter, and what follows it
abbrev pub letter_first : ℕ → List ℕ → Option Sum
letter_first sign [] = None
letter_first sign (b ∷ r) = cond (is_free (sum 0 0 0 0) b) (more_of (with_letter (sum 0 0 0 0) b (signed24ths sign 1)) r) None

-- after the first sign, by the fraction that comes next: with one there is more, and without one a letter comes first
abbrev pub first_of : ℕ → List ℕ → Option ℕ → Option Sum
first_of sign s None = letter_first sign s
first_of sign s (Some size) = cond (leb (length s) fraction_length) None (more_of (sum 0 0 0 (signed24ths sign size)) (drop fraction_length s))

-- after the first sign: a fraction with more, or a letter
unfoldable pub after_first_sign : ℕ → List ℕ → Option Sum
after_first_sign sign s = first_of sign s (fraction_of s)

-- a part: its first sign, or no sign for a plus, and then the rest
unfoldable pub part_of : List ℕ → Option Sum
part_of [] = after_first_sign 43 []
part_of (b ∷ s) = cond (is_sign b) (after_first_sign b s) (after_first_sign 43 (b ∷ s))
