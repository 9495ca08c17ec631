-- Items of entries: the value of an accepted line fits its item, and a sound item that an entry filled is not empty.
-- Assumes nothing.
use mathlib.Core.Path.{◌≡◌}
use mathlib.Core.Bool.{true, false}
use mathlib.Core.List.{List}
use Prim.Native.Nat.{ℕ, suc, ◌+◌}
use native.Mathlib.Omega.{arith}
use borrow.Author.Tests.{le-leb, eqb-true}
use lib.Dec.{eqb}
use lib.ListN.{length, drop}
use Rattle.text.proofs.Bools.{and_both, not-holds}
use Rattle.line_items.specs.Items.{item_row}
use Rattle.line_items.specs.Typed.{line_most}
use Rattle.line_kinds.specs.Kinds.{fits}
use Rattle.line_reader.proofs.Entries.{IsEntry}
use Rattle.desk_state.specs.Sheets.{filled}
use Rattle.desk_soundness.specs.Sound.{sound_empty, sound_item}

-- the value of an accepted line is one that its item can hold
pub entry-fits : (t : List ℕ) (k v : ℕ) → IsEntry t k v → fits k (drop v t) ≡ true
unfolding fits
entry-fits t k v h = simp (h.passes, h.value, h.value-typed, le-leb (length (item_row k).name + 1 + length (drop v t)) line_most h.room)

-- a sound item that an entry filled is not empty
pub filled-some : (s n k bench number times : ℕ) (v : List ℕ) → sound_item s n k (filled bench (suc number) times v) ≡ true → eqb (length v) 0 ≡ false
unfolding sound_item sound_empty
filled-some s n k bench number times v h =
    not-holds (eqb (length v) 0) (λ e.
    let q = rw e at h in
    let z = (and_both (eqb (suc number) 0) _ (and_both (eqb bench 0) _ q).1).0 in
    let y = eqb-true (suc number) 0 z in
    omega arith)
