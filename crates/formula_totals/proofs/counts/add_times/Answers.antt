use native.Mathlib.Omega.{arith}
use Prim.Native.Nat.{◌≤◌, ◌<◌}
use lib.ListN.{length}
use Rattle.formula_totals.proofs.Counters.{half-start, half-more, half-end, times-fits}
use Rattle.formula_totals.proofs.counts.add_times.Goals as goal

pub loop-i-init : goal.loop-i-init
loop-i-init c = (omega arith, half-start _ _ _)

pub offset_bounds-from-i : goal.offset_bounds-from-i
offset_bounds-from-i c = omega (arith, c.requires.1.0.long)

pub bounds-from-i : goal.bounds-from-i
bounds-from-i c = omega (arith, c.requires.1.0.long)

pub overflow_mul-counts : goal.overflow_mul-counts
overflow_mul-counts c = omega (arith, times-fits _ _ c.requires.0 (c.requires.1.0.below c.loop-i.i))

pub offset_bounds-counts-i : goal.offset_bounds-counts-i
offset_bounds-counts-i c = omega (arith, c.requires.1.1.long)

pub bounds-counts-i : goal.bounds-counts-i
bounds-counts-i c = omega (arith, c.requires.1.1.long, c.loop-i.invariant.1.long)

pub overflow_add-counts : goal.overflow_add-counts
overflow_add-counts c =
    let i = c.loop-i.i in
    let u : i ≤ i = omega arith in
    omega (arith, times-fits _ _ c.requires.0 (c.requires.1.0.below i), c.requires.1.1.below i, c.loop-i.invariant.1.same i u)

pub bounds-counts-i-in-loop-i : goal.bounds-counts-i-in-loop-i
bounds-counts-i-in-loop-i c = omega (arith, c.requires.1.1.long, c.loop-i.invariant.1.long)

pub loop-i-preserved : goal.loop-i-preserved
loop-i-preserved c =
    let h : c.loop-i.i < length c.args.counts.now = omega (arith, c.requires.1.1.long) in
    (omega arith, half-more _ _ _ c.loop-i.invariant.1 h)

pub shape_of-counts : goal.shape_of-counts
shape_of-counts c = c.loop-i.invariant.1.long

pub returns : goal.returns
returns c =
    let h : length c.args.counts.now ≤ c.loop-i.i = omega (arith, c.requires.1.1.long) in
    let k : length c.args.from.now ≤ c.loop-i.i = omega (arith, c.requires.1.0.long) in
    half-end _ _ _ c.loop-i.invariant.1 h k
