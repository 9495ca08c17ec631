-- The reading by stages is the grammar's, and the grammar gives a text at most one number.
-- Assumes nothing.
use Rattle.std.specs.Prelude.{Option, Some, None}
use mathlib.Core.Path.{◌≡◌, sym, ◌∙◌}
use mathlib.Core.List.{List}
use Prim.Native.Nat.{ℕ}
use native.Mathlib.Omega.{arith}
use lib.IntN.{ℤ}
use Rattle.number_decimal.specs.Reading.{reading_of}
use Rattle.number_decimal.specs.Grammar.{IsNumber, ReadAs}
use Rattle.number_decimal.proofs.Complete.{number-taken}
use Rattle.number_decimal.proofs.Sound.{number_is}

pub agree : (t : List ℕ) (r : Option ℤ) → r ≡ reading_of t → ReadAs t r
agree t (Some z) e = number_is t z (sym e)
agree t None e = λ z h. let q = e ∙ number-taken t z h in let k : ◌≡◌ {A = ℕ} 0 1 = cc in omega arith

pub one-reading : (t : List ℕ) (y z : ℤ) → IsNumber t y → IsNumber t z → y ≡ z
one-reading t y z g h = cc (number-taken t y g, number-taken t z h)
