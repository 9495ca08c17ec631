-- `reader_memory::keep_first` meets its contract.
-- Assumes nothing.
use mathlib.Core.Path.{◌∙◌}
use Rattle.reader_memory.proofs.Kepts.{first-kept}
use Rattle.reader_memory.proofs.keep_first.Goals as goal

pub returns : goal.returns
returns c = let a = c.args in c.clear.ensures ∙ first-kept a.kept.now a.len c.if-kept-len.false
