use native.Mathlib.Omega.{arith}
use mathlib.Core.Path.{refl}
use Rattle.reader_answers.proofs.Numbers.{refused-some, passed-up}
use Rattle.reader_steps.proofs.Walks.{walk-stops, walk-refused, walk-goes}
use Rattle.reader_steps.proofs.take_all.Goals as goal

pub returns-in_err-n : goal.returns-in_err-n
returns-in_err-n c = rw (passed-up _ _ c.from_residual.ensures.1) (walk-refused _ _ _ _ _ _ c.loop-n.invariant _ _ _ _ c.in_err-n.ensures.first refl (refused-some _))

pub loop-n-preserved : goal.loop-n-preserved
loop-n-preserved c =
    let first = rw c.in-Some.is at c.in_ok-n.ensures.first in
    let some = rw c.in-Some.is at c.in_ok-n.ensures.taken in
    walk-goes _ _ _ _ _ _ c.loop-n.invariant _ _ _ _ first (λ z. omega (arith, some, z))

pub returns : goal.returns
returns c = let first = rw c.in_default.is at c.in_ok-n.ensures.first in walk-stops _ _ _ _ _ _ c.loop-n.invariant _ _ _ _ first refl
