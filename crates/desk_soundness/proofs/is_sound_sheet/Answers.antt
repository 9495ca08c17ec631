use native.Mathlib.Omega.{arith}
use mathlib.Core.Path.{◌≡◌, refl, sym, ◌∙◌}
use mathlib.Core.Bool.{◌&&◌}
use Prim.Native.Nat.{◌+◌, ◌*◌}
use Rattle.line_items.specs.Typed.{line_most}
use Rattle.desk_memory.specs.Memory.{item_numbers}
use Rattle.desk_soundness.proofs.Turns.{items_from, items-all, items-end, item-turn}
use Rattle.desk_soundness.proofs.is_sound_sheet.Goals as goal
use Rattle.desk_soundness.proofs.is_sound_sheet.Goals.{After-is_sound_item}

pub loop-i-init : goal.loop-i-init
loop-i-init c = refl

-- what the test of an item makes of the rest
turn : (c : After-is_sound_item) → (let a = c.args in
    let i = c.loop-i.i in
    items_from a.sheet a.texts.now a.numbers.now i ≡ (c.is_sound_item.result && items_from a.sheet a.texts.now a.numbers.now (i + 1)))
turn c =
    let a = c.args in
    let i = c.loop-i.i in
    item-turn a.texts.now a.numbers.now i (i * line_most) (i * line_most + line_most) a.sheet (i * item_numbers) (i * item_numbers + item_numbers) _ (omega arith) refl refl refl refl
    (omega arith) (omega arith) c.is_sound_item.ensures

pub returns-then-not-is_sound_item : goal.returns-then-not-is_sound_item
returns-then-not-is_sound_item c =
    let a = c.args in
    sym (items-all a.texts.now a.numbers.now a.sheet ∙ c.loop-i.invariant ∙ (turn (goal.at.returns-then-not-is_sound_item c).After-is_sound_item) ∙ simp (c.if-not-is_sound_item.true))

pub loop-i-preserved : goal.loop-i-preserved
loop-i-preserved c = c.loop-i.invariant ∙ (turn (goal.at.loop-i-preserved c).After-is_sound_item) ∙ simp (c.if-not-is_sound_item.false)

pub returns : goal.returns
returns c =
    let a = c.args in
    sym (items-all a.texts.now a.numbers.now a.sheet ∙ c.loop-i.invariant ∙ items-end a.texts.now a.numbers.now c.loop-i.i a.sheet (omega arith))
