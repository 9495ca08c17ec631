-- The numbers of a part are within their ranges, and a part's text has no comma and no space.
-- Assumes nothing.
use mathlib.Core.Path.{◌≡◌, refl}
use mathlib.Core.Bool.{Bool, true, false, cond, ◌||◌, or-true}
use mathlib.Core.List.{List, [], ◌∷◌, ◌++◌}
use Prim.Native.Nat.{ℕ, ◌%◌, ◌<◌}
use native.Mathlib.Nat.{mod-lt}
use native.Mathlib.Omega.{arith}
use borrow.Author.Tests.{le-leb}
use lib.Dec.{eqb, lit<}
use lib.IntN.{ℤ, pos, negsuc}
use Rattle.text.specs.Run.{all, between, other}
use Rattle.text.proofs.Bools.{and_both}
use Rattle.text.proofs.Runs.{all_append, all-lack}
use Rattle.symmetry_operators.specs.Operator.{Part, is_factor, is_translation, fine_part}
use Rattle.symmetry_fractions.specs.Grammar.{one_in24ths, sign_byte}
use Rattle.symmetry_fractions.specs.Reading.{is_sign}
use Rattle.symmetry_fractions.proofs.Wording.{fraction-bytes}
use Rattle.symmetry_parts.specs.Grammar.{Letter, letter_byte, Signed, sum_text, WithFraction, MayLackPlus, IsPart}
use Rattle.symmetry_parts.specs.Reading.{factor, part_numbers}
use Rattle.symmetry_parts.specs.declared.Sum.{Sum}

factor-by : (zero one : Bool) → is_factor (cond zero (pos 0) (cond one (pos 1) (negsuc 0))) ≡ true
factor-by true one = refl
factor-by false true = refl
factor-by false false = refl

factor-fine : (n : ℕ) → is_factor (factor n) ≡ true
unfolding factor
factor-fine n = factor-by (eqb n 0) (eqb n 1)

translation-fine : (n : ℕ) → is_translation (pos (n % one_in24ths)) ≡ true
translation-fine n = let h : n % one_in24ths < one_in24ths = mod-lt n (lit< tt) in simp (le-leb 0 (n % one_in24ths) (omega arith), le-leb (n % one_in24ths) 23 (omega arith))

-- whatever was read, its numbers are within their ranges
pub numbers-fine : (q : Sum) → fine_part (part_numbers q) ≡ true
unfolding fine_part
numbers-fine q = simp (factor-fine q.x, factor-fine q.y, factor-fine q.z, translation-fine q.t)

-- the bytes of a part: signs, a slash and digits, letters
unfoldable pub is_part_byte : ℕ → Bool
is_part_byte b = is_sign b || (between 47 56 b || between 120 122 b)

digit-byte : (b : ℕ) → between 47 56 b ≡ true → is_part_byte b ≡ true
unfolding is_part_byte
digit-byte b h = rw h (or-true (is_sign b))

fraction-all : (t : List ℕ) → all (between 47 56) t ≡ true → all is_part_byte t ≡ true
unfolding all
fraction-all [] h = refl
fraction-all (b ∷ t) h = let k = and_both (between 47 56 b) (all (between 47 56) t) h in rw (digit-byte b k.0) (fraction-all t k.1)

sign-all : (minus : Bool) (t : List ℕ) → all is_part_byte t ≡ true → all is_part_byte (sign_byte minus ∷ t) ≡ true
unfolding all is_part_byte is_sign
sign-all true t h = h
sign-all false t h = h

letter-all : (c : Letter) (t : List ℕ) → all is_part_byte t ≡ true → all is_part_byte (letter_byte c ∷ t) ≡ true
unfolding all is_part_byte is_sign between
letter-all Letter.X t h = h
letter-all Letter.Y t h = h
letter-all Letter.Z t h = h

sum-all : (l : List Signed) → all is_part_byte (sum_text l) ≡ true
unfolding sum_text all
sum-all [] = refl
sum-all (a ∷ l) = sign-all a.minus (letter_byte a.letter ∷ sum_text l) (letter-all a.letter (sum_text l) (sum-all l))

full-all : {sum full : List ℕ} {n : ℤ} → all is_part_byte sum ≡ true → WithFraction sum full n → all is_part_byte full ≡ true
full-all h WithFraction.none = h
full-all {sum} h (WithFraction.first minus t n f) = sign-all minus (t ++ sum) (all_append is_part_byte t sum (fraction-all t (fraction-bytes f)) h)
full-all {sum} h (WithFraction.last minus t n f) = all_append is_part_byte sum (sign_byte minus ∷ t) h (sign-all minus t (fraction-all t (fraction-bytes f)))

written_all : {full t : List ℕ} → all is_part_byte full ≡ true → MayLackPlus full t → all is_part_byte t ≡ true
unfolding all
written_all h (MayLackPlus.in_full t) = h
written_all h (MayLackPlus.plus_missing t) = (and_both (is_part_byte (sign_byte false)) (all is_part_byte t) h).1

part-all : {t : List ℕ} {p : Part ℤ} → IsPart t p → all is_part_byte t ≡ true
part-all h = written_all (full-all (sum-all h.letters) h.with_fraction) h.written

-- a part has no comma and no space
pub part-lacks-comma : {t : List ℕ} {p : Part ℤ} → IsPart t p → all (other 44) t ≡ true
unfolding is_part_byte is_sign between
part-lacks-comma {t} h = all-lack is_part_byte 44 refl t (part-all h)

pub part-lacks-space : {t : List ℕ} {p : Part ℤ} → IsPart t p → all (other 32) t ≡ true
unfolding is_part_byte is_sign between
part-lacks-space {t} h = all-lack is_part_byte 32 refl t (part-all h)
