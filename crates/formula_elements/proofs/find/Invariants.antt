-- `formula_elements::find` meets its contract. The loop's invariant: no symbol passed is the one, so the rest of the table decides.
-- The measure is what is left of the table. Assumes nothing.
use Prim.Native.Nat.{◌+◌, ◌-◌, ◌*◌}
use lib.ListN.{length}
use Rattle.formula_elements.proofs.Places.{Searched}
use Rattle.formula_elements.proofs.find.Given as goal

abbrev pub invariant-loop-k : goal.invariant-loop-k
invariant-loop-k l = Searched l.table l.symbol.first l.symbol.second l.k

abbrev pub decreases-loop-k : goal.decreases-loop-k
decreases-loop-k l = length l.table + 1 - 2 * l.k
