-- `program_printing::put_items` meets its contract. The loop's invariant: the lines of the first i items are added. Assumes nothing.
use Prim.Native.Nat.{◌+◌, ◌*◌, ◌≤◌}
use Rattle.desk_memory.specs.Memory.{sheet_from}
use Rattle.program_printing.specs.Page.{printed_item_most}
use Rattle.program_printing.specs.Print.{printed_item}
use Rattle.program_printing.proofs.Pages.{Listed}
use Rattle.program_printing.proofs.put_items.Given as goal

abbrev pub invariant-loop-i : goal.invariant-loop-i
invariant-loop-i l = (l.page.len ≤ l.initial.page.len + printed_item_most * l.i) × Listed printed_item (sheet_from l.texts l.numbers).items l.initial.page l.page l.i
