-- Laws of the numbers: a refusal has another than 0, and so has what passes it up.
-- Assumes nothing.
use native.Mathlib.Omega.{arith}
use mathlib.Core.Path.{◌≡◌, ap}
use Rattle.std.specs.Prelude.{Result, Ok, Err, IsErrAnd}
use Rattle.reader_answers.specs.declared.FeedRefusal.{FeedRefusal}
use Rattle.reader_answers.specs.declared.FeedRefusal.TheVariants.{Unsound, BadShape, ForeignOverwrite, EndInside}
use Rattle.reader_answers.specs.Number.{refusal_number}

pub refused-some : (e : FeedRefusal) → refusal_number e ≡ 0 → ⊥
refused-some Unsound z = omega (arith, z)
refused-some BadShape z = omega (arith, z)
refused-some ForeignOverwrite z = omega (arith, z)
refused-some EndInside z = omega (arith, z)

-- a refusal that is passed up
pub passed-up : {A E : Type 0} (r : Result A E) (e : E) → IsErrAnd r (λ x. x ≡ e) → r ≡ Err e
passed-up (Ok x) e h = absurd h
passed-up (Err x) e h = ap Err h
