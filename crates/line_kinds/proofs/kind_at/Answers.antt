-- `line_kinds::kind_at` meets its contract: antt computes that the table of kinds is that of the items.
-- Assumes nothing.
use Prim.Native.Nat.{ℕ, ◌+◌}
use Rattle.text.proofs.Tables.{entry}
use Rattle.line_items.specs.Items.{items, item_count, item_row}
use Rattle.line_items.specs.declared.Kind.TheVariants.{Text}
use Rattle.line_kinds.proofs.kind_at.Goals as goal

pub returns : goal.returns
unfolding items
returns c = entry (λ (k : ℕ). (item_row (k + 1)).kind) Text item_count c.args.k c.requires
