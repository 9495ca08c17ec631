-- `formula_order::key_of` meets its contract: the rank is at most 2 and the bytes below 256, so nothing wraps.
-- Assumes nothing.
use Prim.Native.Nat.{ℕ, ◌+◌, ◌*◌}
use mathlib.Core.Path.{ap}
use Rattle.formula_order.specs.Order.{order_key}
use Rattle.formula_order.proofs.key_of.Goals as goal

pub returns : goal.returns
unfolding order_key
returns c = ap (λ (r : ℕ). (r * 256 + c.args.symbol.first) * 256 + c.args.symbol.second) c.rank_of.ensures.0
