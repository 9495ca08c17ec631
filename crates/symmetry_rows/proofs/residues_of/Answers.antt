-- All twelve places are filled.
-- Assumes nothing.
use Rattle.std.proofs.Common.{◌≡◌, length, arith}
use Rattle.std.proofs.lemmas.List.FromFn.{fill_by_all}
use Rattle.symmetry_rows.specs.Residues.{cell_of, cells}
use Rattle.symmetry_rows.proofs.residues_of.Goals as goal

pub returns : goal.returns
unfolding cells
returns c =
    let long : length c.loop-k.slot-items ≡ 12 = omega arith in
    fill_by_all (cell_of c.args.numbers.now) c.loop-k.slot-items 12 0 long (λ k h. c.loop-k.invariant k (omega arith))
