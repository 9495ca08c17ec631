-- `file_cif::file::put_items` meets its contract. The loop's invariant: the lines of the items passed are written, and the next one comes at `at`. Assumes nothing.
use Rattle.text_copies.proofs.Eachs.{Put}
use Rattle.desk_memory.specs.Memory.{sheet_from}
use Rattle.file_cif.specs.File.{item_line}
use Rattle.file_cif.proofs.file.put_items.Given as goal

abbrev pub invariant-loop-i : goal.invariant-loop-i
invariant-loop-i l = Put item_line (sheet_from l.texts l.numbers).items l.initial.out l.start l.i l.at l.out
