-- `file_cif::file::put_file` meets its contract: the first line and then the items' lines.
-- Assumes nothing.
use native.Mathlib.Omega.{arith}
use mathlib.Core.Path.{refl}
use Rattle.desk_memory.specs.Memory.{sheet_from}
use Rattle.file_cif.proofs.Files.{file-length, file-copied}
use Rattle.file_cif.proofs.file.put_file.Goals as goal

pub put_items-requires : goal.put_items-requires
put_items-requires c =
    let a = c.args in
    omega (arith, file-length a.name.now (sheet_from a.texts.now a.numbers.now))

pub returns : goal.returns
returns c =
    let a = c.args in
    file-copied a.out.now a.name.now (sheet_from a.texts.now a.numbers.now) _ _ c.copy_in.ensures c.copy_in-2.ensures c.copy_in-3.ensures c.put_items.ensures refl refl c.requires
