use native.Mathlib.Omega.{arith}
use mathlib.Core.Path.{sym, ap, ◌∙◌}
use Prim.Native.Nat.{◌+◌}
use lib.ListN.{length}
use Rattle.text_copies.specs.Copy.{copied}
use Rattle.text_copies.proofs.Eachs.{put-none, put-room, put_next, put_all}
use Rattle.desk_state.specs.Sheets.{no_item}
use Rattle.desk_state.specs.declared.sheet.Item.{Item}
use Rattle.desk_memory.specs.Memory.{sheet_from}
use Rattle.desk_memory.proofs.Desks.{items-long, item-at}
use Rattle.file_cif.specs.File.{item_line}
use Rattle.file_cif.proofs.file.put_items.Goals as goal

pub loop-i-init : goal.loop-i-init
loop-i-init c =
    let a = c.args in
    put-none item_line (sheet_from a.texts.now a.numbers.now).items a.out.now a.start

pub put_item-at-requires : goal.put_item-at-requires
put_item-at-requires c =
    let a = c.args in
    let t = a.texts.now in
    let m = a.numbers.now in
    let here = ap (λ (x : Item). length (item_line (c.loop-i.i + 1) x)) (item-at t m c.loop-i.i (omega arith)) in
    let room = put-room item_line (sheet_from t m).items a.out.now a.start c.loop-i.invariant no_item (omega (arith, items-long t m)) c.requires in
    (omega (arith, here, room), omega arith)

pub loop-i-preserved : goal.loop-i-preserved
loop-i-preserved c =
    let a = c.args in
    let t = a.texts.now in
    let m = a.numbers.now in
    let e = c.put_item-at.ensures in
    let x = sym (item-at t m c.loop-i.i (omega arith)) in
    let bytes = e.0 ∙ ap (λ (y : Item). copied c.loop-i.out c.loop-i.at (item_line (c.loop-i.i + 1) y)) x in
    let next = e.1 ∙ ap (λ (y : Item). c.loop-i.at + length (item_line (c.loop-i.i + 1) y)) x in
    put_next item_line (sheet_from t m).items a.out.now a.start c.loop-i.invariant no_item (omega (arith, items-long t m)) c.requires bytes next

pub returns : goal.returns
returns c =
    let a = c.args in
    let t = a.texts.now in
    let m = a.numbers.now in
    (put_all item_line (sheet_from t m).items a.out.now a.start c.loop-i.invariant (omega (arith, items-long t m))).0
