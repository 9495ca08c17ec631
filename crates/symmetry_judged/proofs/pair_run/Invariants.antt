-- `pair_run` meets its contract: the pairs of the rows that have come are passed, and what is left decides.
-- Assumes nothing.
use Rattle.std.proofs.Common.{◌≡◌, ◌*◌, ◌+◌, length}
use Rattle.std.specs.Slice.Iter.{chunks_exact_rest, chunks_exact_size}
use Rattle.symmetry_operators.specs.Check.{operator_rows}
use Rattle.symmetry_operators.specs.Residues.{run_pairs}
use Rattle.symmetry_judged.proofs.pair_run.Given as goal

abbrev pub invariant-loop-row : goal.invariant-loop-row
invariant-loop-row l = record {
  size : chunks_exact_size l.row-iterator ≡ 12;
  room : 12 * length l.yielded + length (chunks_exact_rest l.row-iterator) ≡ length l.rows;
  passed : l.before ≡ length l.yielded * length l.codes;
  rest : run_pairs l.codes (operator_rows l.rows) ≡ l.before + run_pairs l.codes (operator_rows (chunks_exact_rest l.row-iterator));
}
