use native.Mathlib.Omega.{arith}
use mathlib.Core.Path.{sym, ap, ◌∙◌}
use Prim.Native.Nat.{◌+◌}
use Rattle.std.specs.Slice.Iter.{chunks_exact_rest, chunks_exact_size}
use Rattle.text.specs.Run.{other}
use Rattle.text.proofs.Passes.{Skipped, skipped_none, skipped_more, skipped_here}
use Rattle.text.proofs.run.skip_parts.Goals as goal
use Rattle.text.proofs.run.skip_parts.Goals.{Else-not-lacks}

pub loop-part-init : goal.loop-part-init
loop-part-init c =
    let e = c.into_iter-part-iterator.ensures.into_iter_gives in
    let first = c.chunks_exact-part-items.ensures in
    (skipped_none _ _ _ (ap chunks_exact_rest e ∙ first.rest), ap chunks_exact_size e ∙ first.size)

pub returns-then-not-lacks : goal.returns-then-not-lacks
returns-then-not-lacks c = skipped_here c.loop-part.invariant.0

-- one part more
more : (c : Else-not-lacks) → Skipped (other c.args.x) c.args.s.now (c.loop-part.passed + 8) (chunks_exact_rest c.next.new.self)
more c =
    let step = c.in-Some.ensures.steps in
    skipped_more c.in-Some.part.now _ 8 c.loop-part.invariant.0 step.1.0 (step.1.1 ∙ c.loop-part.invariant.1) (sym c.lacks.ensures ∙ c.if-not-lacks.false)

pub overflow_add-passed : goal.overflow_add-passed
overflow_add-passed c = let h = skipped_here (more (goal.at.overflow_add-passed c).Else-not-lacks) in omega (arith, h.1)

pub loop-part-preserved : goal.loop-part-preserved
loop-part-preserved c =
    let step = c.in-Some.ensures.steps in
    (more (goal.at.loop-part-preserved c).Else-not-lacks, step.0 ∙ c.loop-part.invariant.1)

pub returns : goal.returns
returns c = skipped_here c.loop-part.invariant.0
