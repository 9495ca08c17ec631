-- The room that a sound sheet's records take: at most 206 bytes for each item.
-- Assumes nothing.
use mathlib.Core.Path.{◌≡◌, refl}
use mathlib.Core.Bool.{Bool, true, false}
use mathlib.Core.List.{List, [], ◌∷◌}
use Prim.Native.Nat.{ℕ, suc, ◌+◌, ◌*◌, ◌≤◌}
use native.Mathlib.Omega.{arith}
use lib.Dec.{eqb}
use lib.ListN.{length}
use Rattle.text.proofs.Bools.{and_both}
use Rattle.line_items.specs.Typed.{line_most}
use Rattle.desk_log.specs.Record.{head_length}
use Rattle.desk_state.specs.Sheets.{value_in}
use Rattle.desk_soundness.specs.Sound.{every, sound_item}
use Rattle.desk_state.specs.declared.sheet.Item.{Item}
use Rattle.theorem_round_trip.specs.RoundTrip.{record_room, room_for}
use Rattle.line_kinds.proofs.Fitting.{fitting}
use Rattle.theorem_round_trip.proofs.Items.{filled-fits}

item-most : (s n j : ℕ) (i : Item) → sound_item s n j i ≡ true → record_room i ≤ head_length + line_most
item-most s n j i h = go (eqb i.len 0) refl
  where
    go : (t : Bool) → eqb i.len 0 ≡ t → record_room i ≤ head_length + line_most
    go true e = rw e (omega arith)
    go false e = let g = fitting (suc j) (value_in i) (filled-fits s n j i e h) in rw e (omega (arith, g.line))

pub room_most : (s n j : ℕ) (is : List Item) → every (sound_item s n) j is ≡ true → room_for is ≤ (head_length + line_most) * length is
unfolding every
room_most s n j [] h = omega arith
room_most s n j (i ∷ is) h =
    let k = and_both (sound_item s n j i) (every (sound_item s n) (suc j) is) h in
    let first = item-most s n j i k.0 in
    let rest = room_most s n (suc j) is k.1 in
    omega arith
