-- `number_decimal::read_number` meets its contract: a long text is no number, and the sign parts the others as `reading_of` does.
-- Assumes nothing.
use Rattle.std.specs.Prelude.{Option}
use native.Mathlib.Omega.{arith}
use mathlib.Core.Path.{◌≡◌, refl, ap, ◌∙◌}
use mathlib.Core.Bool.{Bool, true, false, cond, ◌||◌}
use mathlib.Core.List.{List}
use Prim.Native.Nat.{ℕ, ◌≤◌}
use lib.ListN.{length, drop}
use Rattle.text.specs.Run.{has_at}
use Rattle.text.proofs.Parts.{rest_part}
use Rattle.text.proofs.Runs.{has_within}
use Rattle.number_decimal.specs.Reading.{unsigned_of, sign_length, signed_of, reading_of}
use Rattle.number_decimal.proofs.Small.{long-none}
use Rattle.number_decimal.proofs.read_number.Goals as goal

module _ (s : List ℕ) where
  sign-by : (minus plus : Bool) → has_at s 0 45 ≡ minus → has_at s 0 43 ≡ plus → cond (minus || plus) 1 0 ≤ length s
  sign-by true plus h k = has_within s 0 45 h
  sign-by false true h k = has_within s 0 43 k
  sign-by false false h k = omega arith

  sign-within : sign_length s ≤ length s
  sign-within = sign-by (has_at s 0 45) (has_at s 0 43) refl refl

pub returns-then-s-gt-MOST_BYTES : goal.returns-then-s-gt-MOST_BYTES
returns-then-s-gt-MOST_BYTES c = let s = c.args.s.now in long-none s (reading_of s) refl c.if-s-gt-MOST_BYTES.true

pub slice_bounds-unsigned-count : goal.slice_bounds-unsigned-count
slice_bounds-unsigned-count c = rw c.sign_length-sign.ensures (sign-within c.args.s.now)

pub slice_bounds-unsigned-start : goal.slice_bounds-unsigned-start
slice_bounds-unsigned-start c = omega (arith, c.sign_length-sign.ensures, sign-within c.args.s.now)

pub returns : goal.returns
unfolding reading_of
returns c =
    let s = c.args.s.now in
    let part = rest_part s c.sign_length-sign.result ∙ ap (λ (n : ℕ). drop n s) c.sign_length-sign.ensures in
    c.with_sign.ensures ∙ ap (λ (z : Option ℕ). signed_of c.has.result z) (c.unsigned.ensures.0 ∙ ap unsigned_of part)
    ∙ ap (λ (b : Bool). signed_of b (unsigned_of (drop (sign_length s) s))) c.has.ensures
