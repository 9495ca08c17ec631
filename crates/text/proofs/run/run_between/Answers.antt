-- `text::run::run_between` meets its contract: the run ends at the first byte of another kind.
-- Assumes nothing.
use Rattle.std.proofs.Common.{rules}
use Rattle.std.proofs.lemmas.Iterator.{YieldsList-from_slice}
use Rattle.std.proofs.lemmas.Iterator.Search.{position_from_yields_List}
use mathlib.Core.Bool.{not}
use Prim.Native.Nat.{ℕ}
use Rattle.text.specs.Run.{between}
use Rattle.text.proofs.Runs.{run-position}
use Rattle.text.proofs.run.run_between.Goals as goal

pub returns : goal.returns
returns c =
    let kind = between c.args.lo c.args.hi in
    run-position kind c.args.s.now
    (position_from_yields_List (λ (b : ℕ). not (kind b)) _ _ c.position.result c.position.ensures.ran (YieldsList-from_slice c.args.s.now cc) (λ x b q k. search rules))
    c.unwrap_or.ensures
