-- `desk_questions::who::who` meets its contract: each return has the tests of `who_of` on its way.
-- Assumes nothing.
use native.Mathlib.Omega.{arith}
use mathlib.Core.Path.{◌≡◌, sym, subst, ◌∙◌, ap}
use mathlib.Core.Bool.{true}
use mathlib.Core.List.{List}
use Prim.Native.Nat.{ℕ, ◌-◌, ◌<◌}
use borrow.Author.Tests.{lt-ltb, le-ltb, le-leb, lt-leb}
use lib.ListN.{get_or}
use Rattle.line_items.specs.Items.{item_count}
use Rattle.line_items.specs.Typed.{line_most}
use Rattle.desk_state.specs.Desks.{bench_count, sheet_count, is_sheet}
use Rattle.desk_memory.specs.Memory.{item_numbers, slot, item_from, texts_of}
use Rattle.desk_soundness.specs.SoundMemory.{sound_memory}
use Rattle.desk_questions.specs.Who.{told_of}
use Rattle.desk_questions.proofs.Asked.{who-by, item-lent, sound-bench}
use Rattle.desk_questions.proofs.who.who.Goals as goal
use Rattle.desk_questions.proofs.who.who.Goals.{Else-not-is_sound, Else-sheet}

-- there is such a sheet
here : (c : Else-sheet) → c.args.sheet < sheet_count
here c = omega (arith, c.if-sheet.false)

is-sheet : (c : Else-sheet) → is_sheet c.args.sheet ≡ true
is-sheet c = lt-ltb _ sheet_count (here c)

-- the memory holds a sound desk
sound : (c : Else-not-is_sound) → (let a = c.args in sound_memory a.texts.now a.numbers.now ≡ true)
sound c = sym c.is_sound.ensures ∙ c.if-not-is_sound.false

pub returns-then-sheet : goal.returns-then-sheet
returns-then-sheet c =
    let a = c.args in
    sym (who-by a.texts.now a.numbers.now a.sheet a.item ∙ simp (le-ltb a.sheet sheet_count c.if-sheet.true))

pub returns-then-not-is_sound : goal.returns-then-not-is_sound
returns-then-not-is_sound c =
    let a = c.args in
    sym (who-by a.texts.now a.numbers.now a.sheet a.item ∙ simp ((is-sheet (goal.at.returns-then-not-is_sound c).Else-sheet), sym c.is_sound.ensures ∙ c.if-not-is_sound.true))

pub returns-then-item-lt1 : goal.returns-then-item-lt1
returns-then-item-lt1 c =
    let a = c.args in
    sym (who-by a.texts.now a.numbers.now a.sheet a.item ∙ simp ((is-sheet (goal.at.returns-then-item-lt1 c).Else-sheet), (sound (goal.at.returns-then-item-lt1 c).Else-not-is_sound), lt-leb 1 _ c.if-item-lt1.true))

pub returns-then-item : goal.returns-then-item
returns-then-item c =
    let a = c.args in
    sym (who-by a.texts.now a.numbers.now a.sheet a.item ∙ simp ((is-sheet (goal.at.returns-then-item c).Else-sheet), (sound (goal.at.returns-then-item c).Else-not-is_sound), le-leb 1 _ c.if-item-lt1.false, lt-leb _ item_count c.if-item.true))

pub last_entry-requires : goal.last_entry-requires
last_entry-requires c =
    let a = c.args in
    subst (λ (l : List ℕ). (get_or (slot item_numbers l (a.item - 1)) 0 0 ≡ 0 → ⊥) → get_or (slot item_numbers l (a.item - 1)) 2 0 < bench_count)
    (sym c.sheet_numbers.ensures) (sound-bench a.texts.now a.numbers.now a.sheet (here (goal.at.last_entry-requires c).Else-sheet) (sound (goal.at.last_entry-requires c).Else-not-is_sound) (a.item - 1) (omega arith))

pub returns : goal.returns
returns c =
    let a = c.args in
    let t = a.texts.now in
    let n = a.numbers.now in
    let k = a.item - 1 in
    let h : k < item_count = omega arith in
    let value = slot line_most (texts_of t a.sheet) k in
    c.last_entry.ensures value ∙ ap (λ (l : List ℕ). told_of (item_from value (slot item_numbers l k))) c.sheet_numbers.ensures
    ∙ ap told_of (sym (item-lent t n a.sheet (here (goal.at.returns c).Else-sheet) k h))
    ∙ sym (who-by t n a.sheet a.item ∙ simp ((is-sheet (goal.at.returns c).Else-sheet), (sound (goal.at.returns c).Else-not-is_sound), le-leb 1 _ c.if-item-lt1.false, le-leb _ item_count c.if-item.false))
