-- `fits` by its tests in another order, with the kind as the last, and by the name that the code takes; any name is short.
-- Assumes nothing.
use native.Mathlib.Omega.{arith}
use mathlib.Core.Path.{◌≡◌, refl}
use mathlib.Core.Bool.{Bool, true, false, cond, ◌&&◌, ◌||◌, and-true, and-false}
use mathlib.Core.List.{List, []}
use Prim.Native.Nat.{ℕ, ◌+◌, ◌≤◌}
use borrow.Author.Tests.{leb-true, leb-false}
use lib.Dec.{leb}
use lib.ListN.{length}
use Rattle.text.specs.Run.{all}
use Rattle.line_values.specs.Value.{is_unassigned, is_value}
use Rattle.line_items.specs.Items.{item_count, name_most, is_item, item_row, name_of}
use Rattle.line_items.specs.Typed.{line_most, is_typed}
use Rattle.line_items.proofs.NameTable.{name-short, none_above}
use Rattle.line_kinds.specs.Kinds.{of_kind, passes, fits}

-- of an item that is not there the name is none
pub any_short : (item : ℕ) → length (name_of item) ≤ name_most
any_short item = go (leb item item_count) refl
  where
    go : (b : Bool) → leb item item_count ≡ b → length (name_of item) ≤ name_most
    go true e = name-short item (leb-true item item_count e)
    go false e = rw (none_above item (leb-false item item_count e)) (omega arith)

-- the kind's test behind the others; where the item is not there, no test of its name matters
module _ (q a t : Bool) (f : List ℕ → Bool) (name : List ℕ) where
  moved : (known : Bool) → ((known && q) && (a && (t && f name))) ≡ (a && (t && (f (cond known name []) && (known && q))))
  moved true = go q
    where
      go : (q : Bool) → (q && (a && (t && f name))) ≡ (a && (t && (f name && q)))
      go true = simp (and-true)
      go false = simp (and-false)
  moved false = simp (and-false)

pub kind_last : (item : ℕ) (v : List ℕ) → fits item v ≡ (is_value v && (all is_typed v && (leb (length (name_of item) + 1 + length v) line_most && passes item v)))
unfolding fits passes name_of
kind_last item v =
    moved (is_unassigned v || of_kind (item_row item).kind v) (is_value v) (all is_typed v) (λ (n : List ℕ). leb (length n + 1 + length v) line_most) (item_row item).name (is_item item)
