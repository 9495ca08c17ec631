-- `program_printing::put_rows` meets its contract. The loop's invariant: the lines of the first i rows are added. Assumes nothing.
use Prim.Native.Nat.{◌+◌, ◌*◌, ◌≤◌}
use Rattle.program_printing.specs.Page.{row_line_most}
use Rattle.program_printing.specs.Print.{row_line}
use Rattle.program_printing.proofs.Pages.{Listed}
use Rattle.program_printing.proofs.put_rows.Given as goal

abbrev pub invariant-loop-i : goal.invariant-loop-i
invariant-loop-i l = (l.page.len ≤ l.initial.page.len + row_line_most * l.i) × Listed row_line l.rows.rows l.initial.page l.page l.i
