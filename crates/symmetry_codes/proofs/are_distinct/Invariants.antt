-- `are_distinct` meets its contract: at place i the codes before it differ from all after them.
-- Assumes nothing.
use Rattle.symmetry_codes.proofs.Search.{Different}
use Rattle.symmetry_codes.proofs.are_distinct.Given as goal

abbrev pub invariant-loop-i : goal.invariant-loop-i
invariant-loop-i l = Different l.codes l.i
