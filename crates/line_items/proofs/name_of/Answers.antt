-- `line_items::name_of` meets its contract: the names are those of the table of items, and outside it there is none.
-- Assumes nothing.
use native.Mathlib.Omega.{arith}
use mathlib.Core.Path.{sym}
use Prim.Native.Nat.{◌≤◌}
use Rattle.line_items.specs.Items.{items}
use Rattle.line_items.proofs.NameTable.{none_outside, listed-name, lent-from}
use Rattle.line_items.proofs.name_of.Goals as goal

pub returns : goal.returns
unfolding items
returns c = rw lent-from (listed-name _ c.args.item (omega arith) (omega arith))

pub returns-then-item-lt1 : goal.returns-then-item-lt1
returns-then-item-lt1 c = sym (none_outside c.args.item (λ (some : 1 ≤ c.args.item). omega arith))
