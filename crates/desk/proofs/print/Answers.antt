-- `desk::print` is safe: no more bytes are printed than are lent.
-- Assumes nothing.
use native.Mathlib.Omega.{arith}
use Prim.Native.Nat.{◌≤◌}
use mathlib.Core.Path.{sym, ◌∙◌}
use lib.ListN.{length}
use lib.Seq.{length-take-le}
use Rattle.program_printing.specs.Print.{printed_sheets}
use Rattle.program_printing.proofs.Prints.{printed-within}
use Rattle.desk.proofs.print.Goals as goal
use Rattle.desk.proofs.print.Goals.{In-Some}

within : (c : In-Some) → c.in-Some.n ≤ length c.print_reports.new.out
within c =
    let a = c.args in
    let h = printed-within _ (printed_sheets a.texts.now a.numbers.now) _ (sym c.print_reports.ensures.0 ∙ c.in-Some.is) in
    omega (arith, h)

pub slice_bounds-out-end : goal.slice_bounds-out-end
slice_bounds-out-end c = (within (goal.at.slice_bounds-out-end c).In-Some)

pub slice_bounds-write_all-end : goal.slice_bounds-write_all-end
slice_bounds-write_all-end c = sym (length-take-le _ c.print_reports.new.out (within (goal.at.slice_bounds-write_all-end c).In-Some))
