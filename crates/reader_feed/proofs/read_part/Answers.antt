-- `reader_feed::read_part` meets its contract: the part stopped at a refused record, or at bytes that decide none.
-- Assumes nothing.
use native.Mathlib.Omega.{arith}
use mathlib.Core.Path.{refl}
use Rattle.desk_memory.proofs.Desks.{desk-sized}
use Rattle.reader_answers.proofs.Numbers.{refused-some}
use Rattle.reader_entries.proofs.Keeps.{sound-desk}
use Rattle.reader_feed.proofs.Parts.{part-stopped, part-rests}
use Rattle.reader_feed.proofs.read_part.Goals as goal

pub bounds-numbers-158 : goal.bounds-numbers-158
bounds-numbers-158 c = let a = c.args in let d = desk-sized a.texts.now a.numbers.now (sound-desk a.texts.now a.numbers.now c.requires.0).0 in omega (arith, d.numbers, c.take_all-taken.ensures.same_length.1)

pub returns-in-Ok-clause-left : goal.returns-in-Ok-clause-left
returns-in-Ok-clause-left c = let a = c.args in part-rests a.last a.texts.now a.numbers.now a.reader.now.kept.now a.reader.now.state.now a.part.now _ _ _ _ c.requires.0 c.requires.1 c.requires.2 c.in-Ok.ensures refl (c.rest.ensures.left _)

pub returns-in-Err-clause-left : goal.returns-in-Err-clause-left
returns-in-Err-clause-left c = let a = c.args in part-stopped a.last a.texts.now a.numbers.now a.reader.now.kept.now a.reader.now.state.now a.part.now _ _ _ _ c.requires.0 c.requires.1 c.requires.2 c.in-Err.ensures (refused-some _) (c.stop.ensures.left _)
