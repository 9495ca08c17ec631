-- `file_cif::file::put_filled` meets its contract: the name, a space, the value and the end byte, one after the other.
-- Assumes nothing.
use native.Mathlib.Omega.{arith}
use mathlib.Core.Path.{◌≡◌, refl}
use Prim.Native.Nat.{◌+◌}
use lib.ListN.{length}
use Rattle.text_copies.specs.Copy.{copied}
use Rattle.line_items.specs.Items.{name_of}
use Rattle.file_cif.specs.File.{ended_line, item_text}
use Rattle.file_cif.proofs.Files.{ended-length, line-copied}
use Rattle.file_cif.proofs.file.put_filled.Goals as goal
use Rattle.file_cif.proofs.file.put_filled.Goals.{Start}

size : (c : Start) → length (ended_line (item_text (c.args.k + 1) c.args.value.now)) ≡ length (name_of (c.args.k + 1)) + 1 + length c.args.value.now + 1
size c = ended-length (c.args.k + 1) c.args.value.now

pub overflow_add-space : goal.overflow_add-space
overflow_add-space c = omega (arith, (size (goal.at.overflow_add-space c).Start), c.name_length.ensures)

pub overflow_add-start : goal.overflow_add-start
overflow_add-start c = omega (arith, (size (goal.at.overflow_add-start c).Start), c.name_length.ensures)

pub overflow_add-end : goal.overflow_add-end
overflow_add-end c = omega (arith, (size (goal.at.overflow_add-end c).Start), c.name_length.ensures)

pub overflow_add-result : goal.overflow_add-result
overflow_add-result c = omega (arith, (size (goal.at.overflow_add-result c).Start), c.name_length.ensures)

pub returns : goal.returns
returns c =
    let a = c.args in
    let name = c.name_length.ensures in
    let wrote : c.copy_in-3.new.dst ≡ copied a.out.now a.at (ended_line (item_text (a.k + 1) a.value.now))
    = line-copied a.out.now a.at (a.k + 1) a.value.now _ _ _ c.copy_name.ensures c.copy_in.ensures c.copy_in-2.ensures c.copy_in-3.ensures (omega (arith, name)) refl refl c.requires.0 in
    (wrote, omega (arith, (size (goal.at.returns c).Start), name))
