-- Each turn sets one hint.
-- Assumes nothing.
use mathlib.Core.Path.{refl}
use native.Mathlib.Omega.{arith}
use Rattle.symmetry_codes.proofs.Hinted.{hinted-more, hinted-all}
use Rattle.symmetry_codes.proofs.hints_of.Goals as goal

pub loop-i-preserved : goal.loop-i-preserved
loop-i-preserved c = hinted-more c.loop-i.invariant (omega arith) c.hint_of.ensures.is refl

pub returns : goal.returns
returns c = hinted-all c.loop-i.invariant (omega arith)
