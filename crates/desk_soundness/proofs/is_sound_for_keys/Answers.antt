-- `desk_soundness::is_sound_for_keys` meets its contract: the memory, and then the log.
-- Assumes nothing.
use mathlib.Core.Path.{sym, ◌∙◌}
use Rattle.text.proofs.Bools.{and_both}
use Rattle.desk_memory.specs.Memory.{Sized, is_desk, desk_of}
use Rattle.desk_memory.proofs.Desks.{desk-sized}
use Rattle.desk_soundness.specs.Sound.{sound_desk}
use Rattle.desk_soundness.specs.SoundMemory.{sound_memory, sound_for_keys}
use Rattle.desk_soundness.proofs.is_sound_for_keys.Goals as goal
use Rattle.desk_soundness.proofs.is_sound_for_keys.Goals.{Then-is_sound}

sized : (c : Then-is_sound) → Sized c.args.texts.now c.args.numbers.now
unfolding sound_memory
sized c =
    let t = c.args.texts.now in
    let n = c.args.numbers.now in
    desk-sized t n (and_both (is_desk t n) (sound_desk (desk_of t n)) (sym c.is_sound.ensures ∙ c.if-is_sound.true)).0

pub returns-then-is_sound : goal.returns-then-is_sound
unfolding sound_for_keys
returns-then-is_sound c = c.is_sound_log.ensures c.args.texts.now ∙ simp (sym c.is_sound.ensures ∙ c.if-is_sound.true)

pub returns-else-is_sound : goal.returns-else-is_sound
unfolding sound_for_keys
returns-else-is_sound c = simp (sym c.is_sound.ensures ∙ c.if-is_sound.false)

pub is_sound_log-requires : goal.is_sound_log-requires
is_sound_log-requires c = (sized (goal.at.is_sound_log-requires c).Then-is_sound).numbers
