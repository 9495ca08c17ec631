-- A value that passes the kind of an item: the item is there.
-- Assumes nothing.
use mathlib.Core.Path.{◌≡◌}
use mathlib.Core.Bool.{true}
use mathlib.Core.List.{List}
use Prim.Native.Nat.{ℕ, ◌≤◌}
use borrow.Author.Tests.{leb-true}
use lib.Dec.{leb}
use Rattle.text.proofs.Bools.{and_both}
use Rattle.line_items.specs.Items.{item_count, is_item}
use Rattle.line_kinds.specs.Kinds.{passes}

pub passes-known : (k : ℕ) (v : List ℕ) → passes k v ≡ true → (1 ≤ k) × (k ≤ item_count)
unfolding passes
passes-known k v e =
    let a = and_both (leb 1 k) (leb k item_count) (and_both (is_item k) _ e).0 in
    (leb-true 1 k a.0, leb-true k item_count a.1)
