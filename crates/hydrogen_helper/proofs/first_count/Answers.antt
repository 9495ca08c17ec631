-- `hydrogen_helper::first_count` meets its contract: what is lacking is the difference, or nothing.
-- Assumes nothing.
use native.Mathlib.Omega.{arith}
use mathlib.Core.Path.{◌≡◌, ap}
use Prim.Native.Nat.{ℕ, ◌+◌, ◌-◌, ◌*◌, ◌/◌}
use Rattle.hydrogen_helper.specs.Helper.{first_count}
use Rattle.hydrogen_helper.proofs.first_count.Goals as goal
use Rattle.hydrogen_helper.proofs.first_count.Goals.{Joined-base-given, then-base-given, else-base-given}

lacks : (c : Joined-base-given) → c.if-base-given.lack ≡ 100 * c.args.given - 101000 * c.args.base
lacks c =
    elim c.if-base-given.branch [
      | then-base-given w ↦ omega arith
      | else-base-given w ↦ omega arith
    ]

pub overflow_add-result : goal.overflow_add-result
overflow_add-result c = omega (arith, (lacks (goal.at.overflow_add-result c).Joined-base-given), c.requires.1)

pub returns : goal.returns
unfolding first_count
returns c = ap (λ (x : ℕ). (x + 101807999) / 101808000) (lacks (goal.at.returns c).Joined-base-given)
