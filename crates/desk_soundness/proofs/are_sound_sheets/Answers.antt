use native.Mathlib.Omega.{arith}
use mathlib.Core.Path.{◌≡◌, refl, sym, ap, ◌∙◌}
use mathlib.Core.Bool.{◌&&◌}
use Prim.Native.Nat.{◌+◌}
use lib.ListN.{length}
use Rattle.desk_memory.proofs.Desks.{texts-long, numbers-long}
use Rattle.desk_soundness.proofs.Turns.{sheets_from, sheets-end, sheet-turn}
use Rattle.desk_soundness.proofs.are_sound_sheets.Goals as goal
use Rattle.desk_soundness.proofs.are_sound_sheets.Goals.{After-is_sound_sheet}

pub loop-s-init : goal.loop-s-init
loop-s-init c = refl

pub is_sound_sheet-requires : goal.is_sound_sheet-requires
is_sound_sheet-requires c =
    let t = c.args.texts.now in
    let n = c.args.numbers.now in (
      ap length c.sheet_texts.ensures ∙ texts-long t n c.requires c.loop-s.s (omega arith),
      ap length c.sheet_numbers.ensures ∙ numbers-long t n c.requires c.loop-s.s (omega arith),
    )

-- what the test of a sheet makes of the rest
turn : (c : After-is_sound_sheet) → (let a = c.args in
    let s = c.loop-s.s in
    sheets_from a.texts.now a.numbers.now s ≡ (c.is_sound_sheet.result && sheets_from a.texts.now a.numbers.now (s + 1)))
turn c =
    let a = c.args in
    sheet-turn a.texts.now a.numbers.now c.loop-s.s _ _ _ (omega arith) c.sheet_texts.ensures c.sheet_numbers.ensures
    c.is_sound_sheet.ensures

pub returns-then-not-is_sound_sheet : goal.returns-then-not-is_sound_sheet
returns-then-not-is_sound_sheet c = sym (c.loop-s.invariant ∙ (turn (goal.at.returns-then-not-is_sound_sheet c).After-is_sound_sheet) ∙ simp (c.if-not-is_sound_sheet.true))

pub loop-s-preserved : goal.loop-s-preserved
loop-s-preserved c = c.loop-s.invariant ∙ (turn (goal.at.loop-s-preserved c).After-is_sound_sheet) ∙ simp (c.if-not-is_sound_sheet.false)

pub returns : goal.returns
returns c =
    let a = c.args in
    sym (c.loop-s.invariant ∙ sheets-end a.texts.now a.numbers.now c.loop-s.s (omega arith))
