-- `desk_session::play_pairs` meets its contract. The loop's invariant: the state now held and the rest of the pairs
-- lead to where all the pairs lead from the start. Assumes nothing.
use Rattle.desk_session.proofs.Runs.{RanLent}
use Rattle.desk_session.proofs.play_pairs.Given as goal

abbrev pub invariant-loop-i : goal.invariant-loop-i
invariant-loop-i l = RanLent l.input l.initial.texts l.initial.numbers l.initial.log l.texts l.numbers l.log l.i
