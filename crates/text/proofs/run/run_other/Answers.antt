-- `text::run::run_other` meets its contract: after the parts passed, the run ends at the first x.
-- Assumes nothing.
use Rattle.std.proofs.Common.{rules}
use Rattle.std.proofs.lemmas.Iterator.{YieldsList-from_slice}
use Rattle.std.proofs.lemmas.Iterator.Search.{position_from_yields_List}
use mathlib.Core.Bool.{not}
use Prim.Native.Nat.{ℕ, ◌-◌}
use lib.ListN.{length, take, drop}
use Rattle.text.specs.Run.{other}
use Rattle.text.proofs.Parts.{rest_part}
use Rattle.text.proofs.Passes.{stops-further}
use Rattle.text.proofs.Runs.{run-position}
use Rattle.text.proofs.run.run_other.Goals as goal

pub returns : goal.returns
unfolding other
returns c =
    let s = c.args.s.now in
    let kind = other c.args.x in
    let passed = c.skip_parts-passed.result in
    let rest = take (length s - passed) (drop passed s) in
    let stops = run-position kind rest
    (position_from_yields_List (λ (b : ℕ). not (kind b)) _ _ c.position.result c.position.ensures.ran (YieldsList-from_slice rest cc) (λ x b q k. search rules))
    c.unwrap_or.ensures in
    stops-further kind s passed c.skip_parts-passed.ensures.1 c.skip_parts-passed.ensures.0 (rest_part s passed) stops
