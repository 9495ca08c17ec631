-- `text::lacks` meets its contract: the fold joins the tests of the bytes.
-- Assumes nothing.
use mathlib.Core.Path.{◌∙◌}
use mathlib.Core.Bool.{Bool, true, ◌&&◌}
use Prim.Native.Nat.{ℕ}
use Rattle.std.proofs.Common.{rules}
use Rattle.std.proofs.lemmas.Iterator.{YieldsList-from_slice}
use Rattle.std.proofs.lemmas.Iterator.Consumers.{fold_from_yields_List}
use Rattle.text.specs.Run.{other}
use Rattle.text.proofs.Runs.{fold-all}
use Rattle.text.proofs.lacks.Goals as goal

pub returns : goal.returns
unfolding other
returns c =
    let kind = other c.args.x in
    fold_from_yields_List _ (λ (a : Bool) (b : ℕ). a && kind b) true _ c.fold.ensures.ran (YieldsList-from_slice c.args.s.now cc) (λ a x b q k. search rules) ∙ fold-all kind true c.args.s.now
