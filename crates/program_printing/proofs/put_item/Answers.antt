-- `program_printing::put_item` meets its contract: an empty item has no line.
-- Assumes nothing.
use native.Mathlib.Omega.{arith}
use mathlib.Core.Path.{◌≡◌, sym, ◌∙◌}
use mathlib.Core.List.{[]}
use borrow.Author.Tests.{eq-eqb, ne_eqb}
use Prim.Native.Nat.{◌+◌}
use Rattle.desk_memory.specs.Memory.{item_in}
use Rattle.program_printing.specs.Print.{printed_item, filled_line}
use Rattle.program_printing.proofs.Pages.{adds-as, adds_none}
use Rattle.program_printing.proofs.put_item.Goals as goal

pub returns-then-number_at-eq0 : goal.returns-then-number_at-eq0
unfolding printed_item
returns-then-number_at-eq0 c =
    let a = c.args in
    let none : printed_item (a.k + 1) (item_in a.texts.now a.numbers.now a.k) ≡ [] = simp (eq-eqb _ 0 (sym c.number_at.ensures ∙ c.if-number_at-eq0.true)) in
    (adds-as (sym none) (adds_none a.page.now), omega arith)

pub returns : goal.returns
unfolding printed_item
returns c =
    let a = c.args in
    let i = item_in a.texts.now a.numbers.now a.k in
    let one : printed_item (a.k + 1) i ≡ filled_line (a.k + 1) i = simp (ne_eqb _ 0 (λ z. c.if-number_at-eq0.false (c.number_at.ensures ∙ z))) in
    (adds-as (sym one) c.put_filled.ensures.0, c.put_filled.ensures.1)
