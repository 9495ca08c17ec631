-- `formula_totals::counts::add_times` meets its contract: the counters before i have grown. Assumes nothing.
use Prim.Native.Nat.{◌≤◌}
use Rattle.formula_elements.specs.Elements.{element_count}
use Rattle.formula_totals.proofs.Counters.{Half}
use Rattle.formula_totals.proofs.counts.add_times.Given as goal

abbrev pub invariant-loop-i : goal.invariant-loop-i
invariant-loop-i l = (l.i ≤ element_count) × Half l.from l.n l.initial.counts l.counts l.i
