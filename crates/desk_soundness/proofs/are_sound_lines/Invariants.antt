-- `desk_soundness::are_sound_lines` meets its contract. The loop's invariant: the lines passed are sound, so the rest decides. Assumes nothing.
use mathlib.Core.Path.{◌≡◌}
use Rattle.desk_soundness.proofs.Turns.{lines_from}
use Rattle.desk_soundness.proofs.are_sound_lines.Given as goal

abbrev pub invariant-loop-i : goal.invariant-loop-i
invariant-loop-i l = lines_from l.texts l.numbers 0 ≡ lines_from l.texts l.numbers l.i
