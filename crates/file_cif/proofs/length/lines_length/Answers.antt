use native.Mathlib.Omega.{arith}
use mathlib.Core.Path.{sym, ap, ◌∙◌}
use mathlib.Core.List.{List}
use Prim.Native.Nat.{ℕ, ◌+◌}
use lib.ListN.{length, get_or, length-append}
use Rattle.text_copies.proofs.Eachs.{first_lines, lines_none, lines_next, lines-all}
use Rattle.desk_state.specs.Sheets.{no_item}
use Rattle.desk_state.specs.declared.sheet.Item.{Item}
use Rattle.desk_memory.specs.Memory.{sheet_from}
use Rattle.desk_memory.proofs.Desks.{items-long, item-at}
use Rattle.file_cif.specs.File.{item_line}
use Rattle.file_cif.proofs.length.lines_length.Goals as goal

pub loop-i-init : goal.loop-i-init
loop-i-init c =
    let a = c.args in
    (omega arith, sym (ap (λ (l : List ℕ). length l) (lines_none item_line (sheet_from a.texts.now a.numbers.now).items)))

pub loop-i-preserved : goal.loop-i-preserved
loop-i-preserved c =
    let a = c.args in
    let t = a.texts.now in
    let m = a.numbers.now in
    let i = c.loop-i.i in
    let xs = (sheet_from t m).items in
    let x = item_line (i + 1) (get_or xs i no_item) in
    let more = ap (λ (s : List ℕ). length s) (lines_next item_line xs i no_item (omega (arith, items-long t m))) ∙ length-append (first_lines item_line xs i) x in
    let here = ap (λ (y : Item). length (item_line (i + 1) y)) (item-at t m i (omega arith)) in
    (omega arith, omega (arith, more, here, c.line_length-n.ensures, c.loop-i.invariant))

pub returns : goal.returns
returns c =
    let a = c.args in
    let t = a.texts.now in
    let m = a.numbers.now in
    let all = ap (λ (s : List ℕ). length s) (lines-all item_line (sheet_from t m).items c.loop-i.i (omega (arith, items-long t m))) in
    (omega (arith, all, c.loop-i.invariant), omega arith)
