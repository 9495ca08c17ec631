-- `desk::play_all` meets its contract. The loop's invariant: the parts so far are whole pairs, and what they leave is held; the memory keeps its lengths.
-- Assumes nothing.
use Rattle.desk_memory.specs.Memory.{Sized}
use Rattle.desk_session.specs.Lent.{held}
use Rattle.desk.proofs.Parts.{Reached}
use Rattle.desk.proofs.play_all.Given as goal

abbrev pub invariant-loop : goal.invariant-loop
invariant-loop l = Reached l.initial.log (held l.texts l.numbers l.log) × Sized l.texts l.numbers
