use native.Mathlib.Omega.{arith}
use native.Mathlib.Numerals.{add-one}
use mathlib.Core.Path.{◌≡◌}
use lib.ListN.{length}
use lib.Seq.{paste-zero, paste-suc}
use Rattle.text_copies.proofs.copy_fitting.Goals as goal

pub loop-j-init : goal.loop-j-init
loop-j-init c = paste-zero c.args.dst.now c.args.at c.args.src.now

pub loop-j-preserved : goal.loop-j-preserved
loop-j-preserved c =
    let l = c.loop-j in
    let a = c.args in
    rw (l.invariant, add-one) (paste-suc a.dst.now a.at a.src.now l.j 0 (omega arith) c.loop-j-test.true)

pub returns : goal.returns
returns c =
    let e : length c.args.src.now ≡ c.loop-j.j = omega arith in
    rw e c.loop-j.invariant
