-- `file_cif::file::write_file` meets its contract: each return has the tests of `file_lent` on its way.
-- Assumes nothing.
use borrow.Author.Tests.{lt-ltb, le-ltb}
use native.Mathlib.Omega.{arith}
use mathlib.Core.Path.{◌≡◌, sym, ap, ◌∙◌}
use mathlib.Core.Bool.{true}
use Prim.Native.Nat.{◌+◌, ◌<◌}
use lib.ListN.{length}
use Rattle.text_copies.specs.Copy.{copied}
use Rattle.text_copies.specs.Each.{lines_from}
use Rattle.desk_state.specs.Desks.{sheet_count, is_sheet, sheet_at}
use Rattle.desk_state.specs.declared.sheet.Sheet.{Sheet}
use Rattle.desk_memory.specs.Memory.{sheet_from, desk_of}
use Rattle.desk_soundness.specs.SoundMemory.{sound_memory}
use Rattle.desk_soundness.proofs.Memories.{sheet-lent}
use Rattle.file_block_name.specs.Block.{is_block_name}
use Rattle.file_block_name.proofs.Blocks.{block-short}
use Rattle.file_cif.specs.File.{item_line, file_of}
use Rattle.file_cif.proofs.Files.{file-length}
use Rattle.file_cif.proofs.Steps.{step-no-sheet, step-unsound, step-bad-name, step-no-room, step-written}
use Rattle.file_cif.proofs.file.write_file.Goals as goal
use Rattle.file_cif.proofs.file.write_file.Goals.{After-lines_length, After-sheet_numbers-sheet_numbers, Else-not-is_block_name, Else-not-is_sound, Else-sheet}

-- there is such a sheet
here : (c : Else-sheet) → c.args.sheet < sheet_count
here c = omega (arith, c.if-sheet.false)

is-sheet : (c : Else-sheet) → is_sheet c.args.sheet ≡ true
is-sheet c = lt-ltb _ sheet_count (here c)

sound : (c : Else-not-is_sound) → (let a = c.args in sound_memory a.texts.now a.numbers.now ≡ true)
sound c = sym c.is_sound.ensures ∙ c.if-not-is_sound.false

named : (c : Else-not-is_block_name) → is_block_name c.args.name.now ≡ true
named c = sym c.is_block_name.ensures ∙ c.if-not-is_block_name.false

pub returns-then-sheet : goal.returns-then-sheet
returns-then-sheet c =
    let a = c.args in
    step-no-sheet a.texts.now a.numbers.now a.sheet a.name.now a.out.now (le-ltb a.sheet sheet_count c.if-sheet.true)

pub returns-then-not-is_sound : goal.returns-then-not-is_sound
returns-then-not-is_sound c =
    let a = c.args in
    step-unsound a.texts.now a.numbers.now a.sheet a.name.now a.out.now (is-sheet (goal.at.returns-then-not-is_sound c).Else-sheet)
    (sym c.is_sound.ensures ∙ c.if-not-is_sound.true)

pub returns-then-not-is_block_name : goal.returns-then-not-is_block_name
returns-then-not-is_block_name c =
    let a = c.args in
    step-bad-name a.texts.now a.numbers.now a.sheet a.name.now a.out.now (is-sheet (goal.at.returns-then-not-is_block_name c).Else-sheet) (sound (goal.at.returns-then-not-is_block_name c).Else-not-is_sound)
    (sym c.is_block_name.ensures ∙ c.if-not-is_block_name.true)

pub overflow_add-count : goal.overflow_add-count
overflow_add-count c = omega (arith, block-short c.args.name.now (named (goal.at.overflow_add-count c).Else-not-is_block_name))

pub overflow_add-count-2 : goal.overflow_add-count-2
overflow_add-count-2 c = omega (arith, block-short c.args.name.now (named (goal.at.overflow_add-count-2 c).Else-not-is_block_name), c.lines_length.ensures)

-- the sheet of the block that is lent
lent : (c : After-sheet_numbers-sheet_numbers) → let a = c.args in
    sheet_from c.sheet_texts-sheet_texts.result.now c.sheet_numbers-sheet_numbers.result.now ≡ sheet_at (desk_of a.texts.now a.numbers.now) a.sheet
lent c =
    let here : c.args.sheet < sheet_count = omega (arith, c.if-sheet.false) in
    let a = c.args in
    sheet-lent a.texts.now a.numbers.now a.sheet here c.sheet_texts-sheet_texts.ensures c.sheet_numbers-sheet_numbers.ensures

-- the count is the file's length
count : (c : After-lines_length) → let a = c.args in
    6 + length a.name.now + c.lines_length.result ≡ length (file_of a.name.now (sheet_at (desk_of a.texts.now a.numbers.now) a.sheet))
count c =
    let here : c.args.sheet < sheet_count = omega (arith, c.if-sheet.false) in
    let lent : let a = c.args in
    sheet_from c.sheet_texts-sheet_texts.result.now c.sheet_numbers-sheet_numbers.result.now ≡ sheet_at (desk_of a.texts.now a.numbers.now) a.sheet = let a = c.args in
    sheet-lent a.texts.now a.numbers.now a.sheet here c.sheet_texts-sheet_texts.ensures c.sheet_numbers-sheet_numbers.ensures in
    let a = c.args in
    let s = sheet_at (desk_of a.texts.now a.numbers.now) a.sheet in
    omega (arith, file-length a.name.now s, c.lines_length.ensures.0, ap (λ (s : Sheet). length (lines_from item_line 1 s.items)) lent)

pub returns-then-out-count : goal.returns-then-out-count
returns-then-out-count c =
    let a = c.args in
    step-no-room a.texts.now a.numbers.now a.sheet a.name.now a.out.now (is-sheet (goal.at.returns-then-out-count c).Else-sheet) (sound (goal.at.returns-then-out-count c).Else-not-is_sound) (named (goal.at.returns-then-out-count c).Else-not-is_block_name) (omega (arith, (count (goal.at.returns-then-out-count c).After-lines_length), c.if-out-count.true))

pub put_file-requires : goal.put_file-requires
put_file-requires c =
    let a = c.args in
    omega (arith, (count (goal.at.put_file-requires c).After-lines_length), ap (λ (s : Sheet). length (file_of a.name.now s)) (lent (goal.at.put_file-requires c).After-sheet_numbers-sheet_numbers), c.if-out-count.false)

pub returns : goal.returns
returns c =
    let a = c.args in
    let wrote = c.put_file.ensures ∙ ap (λ (s : Sheet). copied a.out.now 0 (file_of a.name.now s)) (lent (goal.at.returns c).After-sheet_numbers-sheet_numbers) in
    step-written a.texts.now a.numbers.now a.sheet a.name.now a.out.now (is-sheet (goal.at.returns c).Else-sheet) (sound (goal.at.returns c).Else-not-is_sound) (named (goal.at.returns c).Else-not-is_block_name) (omega (arith, (count (goal.at.returns c).After-lines_length), c.if-out-count.false)) wrote (count (goal.at.returns c).After-lines_length)
