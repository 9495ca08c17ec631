-- `desk_memory::is_desk` meets its contract: the two tests of `is_desk`.
-- Assumes nothing.
use borrow.Author.Tests.{eq-eqb, ne_eqb}
use Rattle.desk_memory.specs.Memory.{texts_length, is_desk}
use Rattle.desk_memory.proofs.is_desk.Goals as goal

pub returns-then-texts-ne-TEXTS : goal.returns-then-texts-ne-TEXTS
unfolding is_desk
returns-then-texts-ne-TEXTS c = simp (ne_eqb _ texts_length c.if-texts-ne-TEXTS.true)

pub returns : goal.returns
unfolding is_desk
returns c = simp (eq-eqb _ texts_length c.if-texts-ne-TEXTS.false)
