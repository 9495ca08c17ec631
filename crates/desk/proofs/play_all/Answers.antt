use Rattle.desk.proofs.Parts.{reached-none, reached-next, reached-end, reached-all, still-sized}
use Rattle.desk.proofs.play_all.Goals as goal

pub loop-init : goal.loop-init
loop-init c = reached-none c.args.texts.now c.args.numbers.now _ _ c.args.log.now c.requires c.fresh.ensures.0 c.fresh.ensures.1

pub returns-then-not-play_part : goal.returns-then-not-play_part
returns-then-not-play_part c =
    let l = c.loop in
    reached-end l.invariant.1 l.invariant.0 c.play_part.ensures

pub loop-preserved : goal.loop-preserved
loop-preserved c =
    let l = c.loop in
    let e = c.play_part.ensures in
    (reached-next l.invariant.1 l.invariant.0 e c.if-not-play_part.false, still-sized l.invariant.1 l.invariant.0 e)

pub returns : goal.returns
returns c = reached-all c.loop.invariant.0
