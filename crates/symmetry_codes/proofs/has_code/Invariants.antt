-- `has_code` meets its contract: it is known whether the code is among those that the loop has passed.
-- Assumes nothing.
use Rattle.symmetry_codes.proofs.Search.{Searched}
use Rattle.symmetry_codes.proofs.has_code.Given as goal

abbrev pub invariant-loop-code : goal.invariant-loop-code
invariant-loop-code l = Searched l.codes l.c l.code-index l.found
