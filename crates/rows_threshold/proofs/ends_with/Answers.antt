-- `rows_threshold::ends_with` meets its contract: an empty text ends with nothing.
-- Assumes nothing.
use native.Mathlib.Omega.{arith}
use mathlib.Core.Path.{◌≡◌, sym, ap, ◌∙◌}
use mathlib.Core.Bool.{false, not}
use Prim.Native.Nat.{◌-◌}
use lib.ListN.{length}
use Rattle.std.proofs.lemmas.Bool.Decides.{nat_tests}
use Rattle.text.specs.Run.{has_at}
use Rattle.text.proofs.Bools.{not-holds}
use Rattle.text.proofs.Runs.{has_within}
use Rattle.rows_threshold.proofs.ends_with.Goals as goal

pub returns-else-not-is_empty : goal.returns-else-not-is_empty
returns-else-not-is_empty c =
    let x = c.args.x.now in
    let empty : length x ≡ 0 = grind (arith, nat_tests) in
    let none : has_at x (length x - 1) c.args.b ≡ false = not-holds _ (λ h. let k = has_within _ _ _ h in omega arith) in
    ap not c.if-not-is_empty.false ∙ sym none
