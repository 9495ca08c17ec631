-- `desk_soundness::is_sound` meets its contract: the lengths, the lines and then the sheets.
-- Assumes nothing.
use mathlib.Core.Path.{◌≡◌, sym, ◌∙◌}
use mathlib.Core.Bool.{true}
use Rattle.desk_memory.specs.Memory.{Sized, is_desk}
use Rattle.desk_memory.proofs.Desks.{desk-sized}
use Rattle.desk_soundness.specs.SoundMemory.{sound_memory}
use Rattle.desk_soundness.proofs.Memories.{sound-lines, sound-sheets}
use Rattle.desk_soundness.proofs.is_sound.Goals as goal
use Rattle.desk_soundness.proofs.is_sound.Goals.{Else-not-is_desk}

-- the memory has a desk's lengths
is-desk-here : (c : Else-not-is_desk) → is_desk c.args.texts.now c.args.numbers.now ≡ true
is-desk-here c = sym c.is_desk.ensures ∙ c.if-not-is_desk.false

sized : (c : Else-not-is_desk) → Sized c.args.texts.now c.args.numbers.now
sized c = desk-sized c.args.texts.now c.args.numbers.now (is-desk-here c)

pub returns-then-not-is_desk : goal.returns-then-not-is_desk
unfolding sound_memory
returns-then-not-is_desk c = simp (sym c.is_desk.ensures ∙ c.if-not-is_desk.true)

pub returns-then-are_sound_lines : goal.returns-then-are_sound_lines
returns-then-are_sound_lines c =
    let a = c.args in
    c.are_sound_sheets.ensures
    ∙ sym (sound-sheets a.texts.now a.numbers.now (is-desk-here (goal.at.returns-then-are_sound_lines c).Else-not-is_desk) (sym c.are_sound_lines.ensures ∙ c.if-are_sound_lines.true))

pub returns-else-are_sound_lines : goal.returns-else-are_sound_lines
returns-else-are_sound_lines c =
    let a = c.args in
    sound-lines a.texts.now a.numbers.now (is-desk-here (goal.at.returns-else-are_sound_lines c).Else-not-is_desk) (sym c.are_sound_lines.ensures ∙ c.if-are_sound_lines.false)

pub are_sound_lines-requires : goal.are_sound_lines-requires
are_sound_lines-requires c = (sized (goal.at.are_sound_lines-requires c).Else-not-is_desk)

pub are_sound_sheets-requires : goal.are_sound_sheets-requires
are_sound_sheets-requires c = (sized (goal.at.are_sound_sheets-requires c).Else-not-is_desk)
