-- `desk_soundness::are_sound_sheets` meets its contract. The loop's invariant: the sheets passed are sound, so the rest decides. Assumes nothing.
use mathlib.Core.Path.{◌≡◌}
use Rattle.desk_soundness.proofs.Turns.{sheets_from}
use Rattle.desk_soundness.proofs.are_sound_sheets.Given as goal

abbrev pub invariant-loop-s : goal.invariant-loop-s
invariant-loop-s l = sheets_from l.texts l.numbers 0 ≡ sheets_from l.texts l.numbers l.s
