-- `export_desk::desk_fresh` meets its contract: memory that is no desk stays, and a desk is zeros.
-- Assumes nothing.
use mathlib.Core.Path.{sym, ◌∙◌}
use Rattle.export_desk.proofs.Fresh.{not-freshened, are-zeros}
use Rattle.export_desk.proofs.desk_fresh.Goals as goal

pub returns-then-not-is_desk : goal.returns-then-not-is_desk
returns-then-not-is_desk c =
    let a = c.args in
    rw c.into.ensures (not-freshened a.texts.now a.numbers.now (sym c.is_desk.ensures ∙ c.if-not-is_desk.true))

pub returns : goal.returns
returns c =
    let a = c.args in
    are-zeros a.texts.now a.numbers.now (sym c.is_desk.ensures ∙ c.if-not-is_desk.false) c.fresh.ensures.0 c.fresh.ensures.1
