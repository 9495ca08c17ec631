-- `program_printing::put_name` meets its contract: the name is short.
-- Assumes nothing.
use native.Mathlib.Omega.{arith}
use mathlib.Core.Path.{ap}
use mathlib.Core.List.{List}
use Prim.Native.Nat.{ℕ}
use lib.ListN.{length}
use Rattle.program_printing.proofs.Pages.{adds-as}
use Rattle.program_printing.proofs.RowNames.{name-short}
use Rattle.program_printing.proofs.put_name.Goals as goal

pub put-requires : goal.put-requires
put-requires c =
    let e = ap (λ (t : List ℕ). length t) c.row_name.ensures in
    let b = name-short c.args.k c.requires.1 in
    omega (arith, e, b)

pub returns : goal.returns
returns c =
    let a = adds-as c.row_name.ensures c.put.ensures in
    let b = name-short c.args.k c.requires.1 in
    (a, omega (arith, a.size, b))
