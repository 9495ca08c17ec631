-- `program_printing::row_name` meets its contract: what the table has at k is the name of row k + 1.
-- Assumes nothing.
use Rattle.line_items.proofs.NameTable.{lent-from}
use Rattle.program_printing.specs.Print.{row_names}
use Rattle.program_printing.proofs.RowNames.{listed-row}
use Rattle.program_printing.proofs.row_name.Goals as goal

pub returns : goal.returns
unfolding row_names
returns c = rw lent-from (listed-row _ c.args.k c.requires)
