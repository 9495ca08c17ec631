use native.Mathlib.Omega.{arith}
use Rattle.program_printing.specs.Print.{row_line}
use Rattle.program_printing.proofs.Pages.{listed-none, listed_next, listed-all}
use Rattle.program_printing.proofs.put_rows.Goals as goal

pub loop-i-init : goal.loop-i-init
loop-i-init c = (omega arith, listed-none _ _ _)

pub loop-i-preserved : goal.loop-i-preserved
loop-i-preserved c =
    let l = c.loop-i in
    let e = c.put_row.ensures in
    let next = listed_next row_line c.args.rows.rows l.i (record { level = 0; reason = 0 }) (omega arith) l.invariant.1 e.0 in
    (omega arith, next)

pub returns : goal.returns
returns c =
    let l = c.loop-i in
    (listed-all row_line c.args.rows.rows l.i (omega arith) l.invariant.1, omega arith)
