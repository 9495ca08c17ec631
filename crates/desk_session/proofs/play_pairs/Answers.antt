use native.Mathlib.Omega.{arith}
use Rattle.desk_session.proofs.Runs.{lent_none, lent-next, lent-all}
use Rattle.desk_session.proofs.play_pairs.Goals as goal

pub loop-i-init : goal.loop-i-init
loop-i-init c = lent_none _ _ _ _

pub loop-i-preserved : goal.loop-i-preserved
loop-i-preserved c = let l = c.loop-i in lent-next l.auto.texts l.auto.numbers l.invariant (omega arith) c.bench_of-bench.ensures c.key.ensures

pub returns : goal.returns
returns c = let l = c.loop-i in lent-all l.auto.texts l.auto.numbers l.invariant (omega arith)
