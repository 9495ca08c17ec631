-- Laws of `more_of` and `part_of`: what each makes of a sign and of what follows it.
-- Assumes nothing.
use mathlib.Core.Path.{◌≡◌, refl, sym, ap, ◌∙◌}
use mathlib.Core.Bool.{Bool, true, false, cond}
use mathlib.Core.List.{List, [], ◌∷◌}
use Prim.Native.Nat.{ℕ, ◌-◌, ◌≤◌}
use native.Mathlib.Omega.{arith}
use lib.ListN.{length, get_or, take, drop}
use lib.Dec.{eqb}
use Rattle.std.specs.Prelude.{Option, None}
use Rattle.text.proofs.Parts.{rest_part}
use Rattle.symmetry_fractions.specs.Reading.{is_sign, signed24ths}
use Rattle.symmetry_parts.specs.Reading.{is_free, with_letter, last_fraction, more_of, after_first_sign, part_of}
use Rattle.symmetry_parts.specs.declared.Sum.{Sum}

module _ (p : Sum) where
  same-either : (t : Bool) → cond t None None ≡ (let n : Option Sum = None in n)
  same-either true = refl
  same-either false = refl

  pub more-last : (sign : ℕ) (r : List ℕ) → is_sign sign ≡ true → is_free p (get_or r 0 0) ≡ false → more_of p (sign ∷ r) ≡ last_fraction p sign r
  unfolding more_of last_fraction
  more-last sign [] e f = sym (same-either (eqb p.t 0))
  more-last sign (b ∷ r) e f = rw (e, f)

  pub more-letter : (sign b : ℕ) (r : List ℕ) → is_sign sign ≡ true → is_free p b ≡ true → more_of p (sign ∷ (b ∷ r)) ≡ more_of (with_letter p b (signed24ths sign 1)) r
  unfolding more_of
  more-letter sign b r e f = rw (e, f)

  -- what a turn of the loop makes of a sign and a letter
  pub turn : (s : List ℕ) → 2 ≤ length s → is_sign (get_or s 0 0) ≡ true → is_free p (get_or s 1 0) ≡ true
      → more_of p s ≡ more_of (with_letter p (get_or s 1 0) (signed24ths (get_or s 0 0) 1)) (take (length s - 2) (drop 2 s))
  turn [] l e f = absurd (omega arith)
  turn (sign ∷ []) l e f = absurd (omega arith)
  turn (sign ∷ (b ∷ r)) l e f = more-letter sign b r e f ∙ ap (more_of (with_letter p b (signed24ths sign 1))) (sym (rest_part (sign ∷ (b ∷ r)) 2))

-- without a first sign it is a plus
pub part-unsigned : (s : List ℕ) → is_sign (get_or s 0 0) ≡ false → part_of s ≡ after_first_sign 43 s
unfolding part_of
part-unsigned [] e = refl
part-unsigned (b ∷ r) e = rw e
