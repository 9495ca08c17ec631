-- `rows_counted::counted_row` meets its contract: the table names items that are there.
-- Assumes nothing.
use mathlib.Core.Path.{sym, ap, ◌∙◌}
use Rattle.rows_counted.specs.Items.{of_items}
use Rattle.rows_counted.proofs.Values.{rule_items}
use Rattle.rows_counted.proofs.counted_row.Goals as goal

pub ruled_row-requires : goal.ruled_row-requires
ruled_row-requires c = ap of_items (sym c.in-Some.is ∙ c.rule_of.ensures) ∙ rule_items _
