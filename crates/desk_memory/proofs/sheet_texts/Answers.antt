-- `desk_memory::sheet_texts` meets its contract: the block is past the end, the last and cut short, or whole.
-- Assumes nothing.
use native.Mathlib.Omega.{arith}
use mathlib.Core.Path.{refl, sym, ◌∙◌}
use Prim.Native.Nat.{◌+◌, ◌*◌}
use Rattle.text.proofs.Parts.{rest_part}
use Rattle.desk_memory.specs.Memory.{sheet_texts, sheets_at}
use Rattle.desk_memory.proofs.Slots.{block-lent}
use Rattle.desk_memory.proofs.Gets.{block_none, block-rest}
use Rattle.desk_memory.proofs.sheet_texts.Goals as goal

pub returns-then-texts-lt-SHEETS_AT : goal.returns-then-texts-lt-SHEETS_AT
returns-then-texts-lt-SHEETS_AT c = let a = c.args in sym (block_none sheet_texts sheets_at a.texts.now a.sheet (omega arith))

pub returns-then-texts-sheet : goal.returns-then-texts-sheet
returns-then-texts-sheet c = let a = c.args in sym (block_none sheet_texts sheets_at a.texts.now a.sheet (omega arith))

pub returns-then-texts-from-lt-SHEET_TEXTS : goal.returns-then-texts-from-lt-SHEET_TEXTS
returns-then-texts-from-lt-SHEET_TEXTS c =
    let a = c.args in
    let from = sheets_at + a.sheet * sheet_texts in
    rest_part a.texts.now from ∙ block-rest sheet_texts sheets_at a.texts.now a.sheet from refl (omega arith)

pub returns : goal.returns
returns c =
    let a = c.args in
    let from = sheets_at + a.sheet * sheet_texts in
    block-lent sheet_texts a.texts.now a.sheet sheets_at from (from + sheet_texts) refl refl
