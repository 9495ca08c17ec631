-- The tests of soundness in the tables' words: of a desk, and of a desk in lent memory.
-- Assumes nothing.
use mathlib.Core.Path.{◌≡◌}
use mathlib.Core.Bool.{true, ◌&&◌}
use mathlib.Core.Logic.{◌↔◌}
use mathlib.Core.List.{List}
use Prim.Native.Nat.{ℕ}
use Rattle.text.proofs.Bools.{and_is}
use Rattle.desk_memory.specs.Memory.{is_desk, desk_of}
use Rattle.desk_memory.proofs.Desks.{desk-sized, sized-desk}
use Rattle.desk_soundness.specs.Sound.{sound_desk}
use Rattle.desk_soundness.specs.Wording.{Sound}
use Rattle.desk_soundness.proofs.Wording.{sound-is, sound-taken}
use Rattle.desk_state.specs.declared.desk.Desk.{Desk}
use Rattle.theorem_refusals.specs.Key.{SoundLent}

pub desk-so : (d : Desk) → (sound_desk d ≡ true) ↔ Sound d
desk-so d = (sound-is d, sound-taken d)

pub lent-so : (t n : List ℕ) → ((is_desk t n && sound_desk (desk_of t n)) ≡ true) ↔ SoundLent t n
lent-so t n = and_is (desk-sized t n, sized-desk t n) (desk-so (desk_of t n))
