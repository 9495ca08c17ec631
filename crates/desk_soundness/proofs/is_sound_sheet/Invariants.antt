-- `desk_soundness::is_sound_sheet` meets its contract. The loop's invariant: the items passed are sound, so the rest decides. Assumes nothing.
use mathlib.Core.Path.{◌≡◌}
use Rattle.desk_soundness.proofs.Turns.{items_from}
use Rattle.desk_soundness.proofs.is_sound_sheet.Given as goal

abbrev pub invariant-loop-i : goal.invariant-loop-i
invariant-loop-i l = items_from l.sheet l.texts l.numbers 0 ≡ items_from l.sheet l.texts l.numbers l.i
