-- `program_printing::put_row` meets its contract: the pieces of the line one after the other.
-- Assumes nothing.
use native.Mathlib.Omega.{arith}
use mathlib.Core.Path.{ap}
use mathlib.Core.List.{[], ◌∷◌}
use Prim.Native.Nat.{ℕ}
use Rattle.program_printing.specs.Print.{decimal_text}
use Rattle.program_printing.proofs.Pages.{adds-as, adds_then}
use Rattle.program_printing.proofs.put_row.Goals as goal

pub put-requires-4 : goal.put-requires-4
put-requires-4 c = omega arith

pub returns : goal.returns
returns c =
    let letter = ap (λ (b : ℕ). b ∷ []) c.letter_of.ensures in
    let reason = ap decimal_text c.wide.ensures in
    let all =
    adds_then c.put_two_digits.ensures
    (adds_then c.put.ensures
    (adds_then c.put_name.ensures.0
    (adds_then c.put-2.ensures
    (adds_then (adds-as letter c.put_byte.ensures)
    (adds_then c.put-3.ensures
    (adds_then (adds-as reason c.put_decimal.ensures.0) c.put-4.ensures)))))) in
    (all, omega arith)
