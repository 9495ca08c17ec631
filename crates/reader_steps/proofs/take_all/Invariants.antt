-- `reader_steps::take_all` meets its contract. The invariant: what is read of the part and the rest of it make the whole. The measure is what is left of the part.
-- Assumes nothing.
use Prim.Native.Nat.{◌-◌}
use lib.ListN.{length}
use Rattle.reader_steps.proofs.Walks.{Walked}
use Rattle.reader_steps.proofs.take_all.Given as goal

abbrev pub invariant-loop-n : goal.invariant-loop-n
invariant-loop-n l = Walked l.initial.texts l.initial.numbers l.part l.texts l.numbers l.from

abbrev pub decreases-loop-n : goal.decreases-loop-n
decreases-loop-n l = length l.part - l.from
