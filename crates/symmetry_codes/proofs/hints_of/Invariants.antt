-- `hints_of` meets its contract: at place i the hints of the codes before it are set.
-- Assumes nothing.
use Rattle.symmetry_codes.proofs.Hinted.{Hinted}
use Rattle.symmetry_codes.proofs.hints_of.Given as goal

abbrev pub invariant-loop-i : goal.invariant-loop-i
invariant-loop-i l = Hinted l.codes l.i l.hints
