-- `symmetry_parts::read_more` meets its contract. The loop's invariant: the sum so far, with what is left of the text, is read as all of it.
-- The measure is what is left. Assumes nothing.
use mathlib.Core.Path.{◌≡◌}
use lib.ListN.{length}
use Rattle.symmetry_parts.specs.Reading.{more_of}
use Rattle.symmetry_parts.proofs.read_more.Given as goal

abbrev pub invariant-loop-left : goal.invariant-loop-left
invariant-loop-left l = more_of l.initial.sum l.s ≡ more_of l.sum l.left

abbrev pub decreases-loop-left : goal.decreases-loop-left
decreases-loop-left l = length l.left
