use native.Mathlib.Omega.{arith}
use mathlib.Core.Path.{◌≡◌, refl, sym, ◌∙◌}
use mathlib.Core.Bool.{◌&&◌}
use Prim.Native.Nat.{◌+◌, ◌*◌}
use lib.ListN.{length-take, length-drop}
use Rattle.line_items.specs.Typed.{line_most}
use Rattle.desk_soundness.proofs.Turns.{lines_from, lines-all, lines_end, line-turn}
use Rattle.desk_soundness.proofs.are_sound_lines.Goals as goal
use Rattle.desk_soundness.proofs.are_sound_lines.Goals.{After-is_sound_line}

pub loop-i-init : goal.loop-i-init
loop-i-init c = refl

pub is_sound_line-requires : goal.is_sound_line-requires
is_sound_line-requires c = simp (length-take, length-drop) (omega arith)

-- what the test of a line makes of the rest
turn : (c : After-is_sound_line) → (let a = c.args in
    let i = c.loop-i.i in
    lines_from a.texts.now a.numbers.now i ≡ (c.is_sound_line.result && lines_from a.texts.now a.numbers.now (i + 1)))
turn c =
    let a = c.args in
    line-turn a.texts.now a.numbers.now c.loop-i.i (c.loop-i.i * line_most) (c.loop-i.i * line_most + line_most) _ (omega arith) refl refl c.is_sound_line.ensures

pub returns-then-not-is_sound_line : goal.returns-then-not-is_sound_line
returns-then-not-is_sound_line c =
    let a = c.args in
    sym (lines-all a.texts.now a.numbers.now ∙ c.loop-i.invariant ∙ (turn (goal.at.returns-then-not-is_sound_line c).After-is_sound_line) ∙ simp (c.if-not-is_sound_line.true))

pub loop-i-preserved : goal.loop-i-preserved
loop-i-preserved c = c.loop-i.invariant ∙ (turn (goal.at.loop-i-preserved c).After-is_sound_line) ∙ simp (c.if-not-is_sound_line.false)

pub returns : goal.returns
returns c =
    let a = c.args in
    sym (lines-all a.texts.now a.numbers.now ∙ c.loop-i.invariant ∙ lines_end a.texts.now a.numbers.now c.loop-i.i (omega arith))
