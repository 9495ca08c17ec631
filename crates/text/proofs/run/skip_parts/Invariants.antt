-- `text::run::skip_parts` meets its contract. The loop's invariant: the parts passed have no byte x, and the rest follows them.
-- Assumes nothing.
use mathlib.Core.Path.{◌≡◌}
use Rattle.std.specs.Slice.Iter.{chunks_exact_rest, chunks_exact_size}
use Rattle.text.specs.Run.{other}
use Rattle.text.proofs.Passes.{Skipped}
use Rattle.text.proofs.run.skip_parts.Given as goal

abbrev pub invariant-loop-part : goal.invariant-loop-part
invariant-loop-part l = Skipped (other l.x) l.s l.passed (chunks_exact_rest l.part-iterator) × (chunks_exact_size l.part-iterator ≡ 8)
