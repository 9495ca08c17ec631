-- `residues_of` meets its contract: the places before k have their residues.
-- Assumes nothing.
use Rattle.std.proofs.Common.{◌≡◌, ℕ, ◌<◌, get_or}
use Rattle.symmetry_rows.specs.Residues.{cell_of}
use Rattle.symmetry_rows.proofs.residues_of.Given as goal

abbrev pub invariant-loop-k : goal.invariant-loop-k
invariant-loop-k l = (i : ℕ) → i < l.k → get_or l.slot-items i 0 ≡ cell_of l.numbers i
