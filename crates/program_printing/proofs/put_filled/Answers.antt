-- `program_printing::put_filled` meets its contract: the pieces of the line one after the other.
-- Assumes nothing.
use native.Mathlib.Omega.{arith}
use mathlib.Core.Path.{ap}
use mathlib.Core.List.{List}
use Prim.Native.Nat.{ℕ, ◌+◌, ◌≤◌}
use lib.ListN.{length}
use Rattle.line_items.specs.Typed.{line_most}
use Rattle.desk_memory.proofs.Gets.{value-short}
use Rattle.program_printing.specs.Page.{decimal_most}
use Rattle.program_printing.specs.Print.{decimal_text}
use Rattle.program_printing.proofs.Pages.{adds-as, adds_then}
use Rattle.program_printing.proofs.put_filled.Goals as goal
use Rattle.program_printing.proofs.put_filled.Goals.{After-put-3, After-put-4, After-value_at}

-- the room that the line takes before the second number, and before the value
before-entry : (c : After-put-3) → c.put-3.new.self.len ≤ c.args.page.now.len + (21 + decimal_most)
before-entry c = omega (arith, c.put-3.ensures.size, c.put_decimal.ensures.1, c.put-2.ensures.size, c.put_two_digits.ensures.size, c.put.ensures.size)

before-value : (c : After-put-4) → c.put-4.new.self.len ≤ c.args.page.now.len + (22 + decimal_most + decimal_most)
before-value c =
    let entry : c.put-3.new.self.len ≤ c.args.page.now.len + (21 + decimal_most) = omega (arith, c.put-3.ensures.size, c.put_decimal.ensures.1, c.put-2.ensures.size, c.put_two_digits.ensures.size, c.put.ensures.size) in
    omega (arith, c.put-4.ensures.size, c.put_decimal-2.ensures.1, entry)

-- the value that is lent is short
short : (c : After-value_at) → length c.value_at.result.now ≤ line_most
short c =
    let a = c.args in
    let e = ap (λ (l : List ℕ). length l) c.value_at.ensures in
    omega (arith, e, value-short a.texts.now a.numbers.now a.k)

pub put_decimal-requires-2 : goal.put_decimal-requires-2
put_decimal-requires-2 c = omega (arith, (before-entry (goal.at.put_decimal-requires-2 c).After-put-3), c.requires.0)

pub put-requires-4 : goal.put-requires-4
put-requires-4 c = omega (arith, c.put_decimal-2.ensures.1, (before-entry (goal.at.put-requires-4 c).After-put-3), c.requires.0)

pub put-requires-5 : goal.put-requires-5
put-requires-5 c = omega (arith, (before-value (goal.at.put-requires-5 c).After-put-4), (short (goal.at.put-requires-5 c).After-value_at), c.requires.0)

pub put-requires-6 : goal.put-requires-6
put-requires-6 c = omega (arith, c.put-5.ensures.size, (before-value (goal.at.put-requires-6 c).After-put-4), (short (goal.at.put-requires-6 c).After-value_at), c.requires.0)

pub returns : goal.returns
returns c =
    let bench = ap decimal_text c.number_at.ensures in
    let entry = ap decimal_text c.number_at-2.ensures in
    let all =
    adds_then c.put.ensures
    (adds_then c.put_two_digits.ensures
    (adds_then c.put-2.ensures
    (adds_then (adds-as bench c.put_decimal.ensures.0)
    (adds_then c.put-3.ensures
    (adds_then (adds-as entry c.put_decimal-2.ensures.0)
    (adds_then c.put-4.ensures
    (adds_then (adds-as c.value_at.ensures c.put-5.ensures) c.put-6.ensures))))))) in
    (all, omega (arith, c.put-6.ensures.size, c.put-5.ensures.size, (before-value (goal.at.returns c).After-put-4), (short (goal.at.returns c).After-value_at)))
