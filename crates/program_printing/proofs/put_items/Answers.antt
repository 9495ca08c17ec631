use native.Mathlib.Omega.{arith}
use mathlib.Core.Path.{sym, ap}
use Prim.Native.Nat.{◌+◌}
use Rattle.desk_state.specs.Sheets.{no_item}
use Rattle.desk_memory.specs.Memory.{sheet_from}
use Rattle.desk_memory.proofs.Desks.{items-long, item-at}
use Rattle.program_printing.specs.Print.{printed_item}
use Rattle.program_printing.proofs.Pages.{adds-as, listed-none, listed_next, listed-all}
use Rattle.program_printing.proofs.put_items.Goals as goal

pub loop-i-init : goal.loop-i-init
loop-i-init c = (omega arith, listed-none _ _ _)

pub loop-i-preserved : goal.loop-i-preserved
loop-i-preserved c =
    let l = c.loop-i in
    let a = c.args in
    let t = a.texts.now in
    let n = a.numbers.now in
    let e = c.put_item.ensures in
    let line = adds-as (ap (printed_item (l.i + 1)) (sym (item-at t n l.i (omega arith)))) e.0 in
    let next = listed_next printed_item (sheet_from t n).items l.i no_item (omega (arith, items-long t n)) l.invariant.1 line in
    (omega (arith, e.1), next)

pub returns : goal.returns
returns c =
    let l = c.loop-i in
    let a = c.args in
    let t = a.texts.now in
    let n = a.numbers.now in
    (listed-all printed_item (sheet_from t n).items l.i (omega (arith, items-long t n)) l.invariant.1, omega arith)
