-- All operators are passed; that the check of their numbers is that of the operators is `named_law`.
-- Assumes nothing.
use Rattle.std.proofs.Common.{ℕ, ◌≡◌, length, ap, ◌∙◌, arith}
use Rattle.symmetry_named.specs.Named.{filled_to, flat_checked}
use Rattle.symmetry_named.proofs.Filling.{named_law}
use Rattle.symmetry_slice.proofs.check_operators.Goals as goal

pub returns : goal.returns
returns c =
    let l = c.args.ops.now in
    let at : c.loop-i.i ≡ length l = omega arith in
    c.check.ensures ∙ (λ j. flat_checked (c.loop-i.invariant j) (length l)) ∙ ap (λ (n : ℕ). flat_checked (filled_to l n) (length l)) at ∙ named_law l
