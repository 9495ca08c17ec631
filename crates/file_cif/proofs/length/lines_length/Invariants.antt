-- `file_cif::length::lines_length` meets its contract. The loop's invariant: n is the length of the lines of the items passed. Assumes nothing.
use mathlib.Core.Path.{◌≡◌}
use Prim.Native.Nat.{◌*◌, ◌≤◌}
use lib.ListN.{length}
use Rattle.text_copies.proofs.Eachs.{first_lines}
use Rattle.desk_memory.specs.Memory.{sheet_from}
use Rattle.file_cif.specs.File.{item_line_most, item_line}
use Rattle.file_cif.proofs.length.lines_length.Given as goal

abbrev pub invariant-loop-i : goal.invariant-loop-i
invariant-loop-i l = (l.n ≤ item_line_most * l.i) × (l.n ≡ length (first_lines item_line (sheet_from l.texts l.numbers).items l.i))
