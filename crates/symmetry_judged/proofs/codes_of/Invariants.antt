-- `codes_of` meets its contract: the codes of the rows that have come are there, and the others follow.
-- Assumes nothing.
use Rattle.std.proofs.Common.{◌≡◌, ◌*◌, ◌+◌, ◌++◌, map, length, take}
use Rattle.std.specs.Slice.Iter.{chunks_exact_rest, chunks_exact_size}
use Rattle.symmetry_operators.specs.Check.{operator_rows}
use Rattle.symmetry_operators.specs.Residues.{code}
use Rattle.symmetry_judged.proofs.codes_of.Given as goal

abbrev pub invariant-loop-i : goal.invariant-loop-i
invariant-loop-i l = record {
  size : chunks_exact_size l.i-iterator.iter ≡ 12;
  room : 12 * l.i-iterator.count + length (chunks_exact_rest l.i-iterator.iter) ≡ length l.rows;
  long : length l.codes ≡ 192;
  rest : map code (operator_rows l.rows) ≡ take l.i-iterator.count l.codes ++ map code (operator_rows (chunks_exact_rest l.i-iterator.iter));
}
