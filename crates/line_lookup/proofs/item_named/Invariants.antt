-- `line_lookup::item_named` meets its contract. The loop's invariant: the items passed have other names, so the search from the next one on decides.
-- The measure is how many items are left. Assumes nothing.
use mathlib.Core.Path.{◌≡◌}
use Prim.Native.Nat.{◌-◌, ◌+◌, ◌≤◌}
use Rattle.line_items.specs.Items.{item_count, item_of}
use Rattle.line_items.proofs.Names.{search_from}
use Rattle.line_lookup.proofs.item_named.Given as goal

abbrev pub invariant-loop-item : goal.invariant-loop-item
invariant-loop-item l = (1 ≤ l.item) × (l.item ≤ item_count + 1) × (item_of l.s ≡ search_from l.s l.item)

abbrev pub decreases-loop-item : goal.decreases-loop-item
decreases-loop-item l = item_count + 1 - l.item
