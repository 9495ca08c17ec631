-- `symmetry_slice::check_operators` meets its contract: where i operators are passed, `rows` holds `filled_to ops i`.
-- Assumes nothing.
use Rattle.std.proofs.Common.{◌≡◌}
use Rattle.symmetry_named.specs.Named.{filled_to}
use Rattle.symmetry_slice.proofs.check_operators.Given as goal

abbrev pub invariant-loop-i : goal.invariant-loop-i
invariant-loop-i l = l.rows ≡ filled_to l.ops l.i
