-- `desk_hydrogen::propose` meets its contract: no such sheet, unsound, or the helper of the sheet's formula and weight.
-- Assumes nothing.
use native.Mathlib.Omega.{arith}
use mathlib.Core.Path.{sym, ◌∙◌}
use Prim.Native.Nat.{◌<◌}
use Rattle.desk_state.specs.Desks.{sheet_count}
use Rattle.hydrogen_helper.specs.Helper.{helper_of}
use Rattle.desk_hydrogen.proofs.Asked.{helper-by, no-sheet, unsound, answered}
use Rattle.desk_hydrogen.proofs.propose.Goals as goal
use Rattle.desk_hydrogen.proofs.propose.Goals.{Else-sheet}

-- there is such a sheet
here : (c : Else-sheet) → c.args.sheet < sheet_count
here c = omega (arith, c.if-sheet.false)

pub returns-then-sheet : goal.returns-then-sheet
returns-then-sheet c = let a = c.args in no-sheet _ _ _ _ c.if-sheet.true ∙ sym (helper-by a.texts.now a.numbers.now a.sheet)

pub returns-then-not-is_sound : goal.returns-then-not-is_sound
returns-then-not-is_sound c =
    let a = c.args in
    unsound _ _ _ _ (here (goal.at.returns-then-not-is_sound c).Else-sheet) (sym c.is_sound.ensures ∙ c.if-not-is_sound.true) ∙ sym (helper-by a.texts.now a.numbers.now a.sheet)

pub returns : goal.returns
returns c =
    let a = c.args in
    let t = a.texts.now in
    let n = a.numbers.now in
    let s = sym c.is_sound.ensures ∙ c.if-not-is_sound.false in
    answered t n a.sheet (here (goal.at.returns c).Else-sheet) c.sheet_texts-t.ensures c.sheet_numbers-n.ensures helper_of s c.value_at.ensures c.value_at-2.ensures c.propose.ensures
    ∙ sym (helper-by t n a.sheet)
