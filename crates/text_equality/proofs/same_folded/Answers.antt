-- `text_equality::same_folded` meets its contract: the fold joins the tests of the pairs of bytes.
-- Assumes nothing.
use mathlib.Core.Path.{sym, ◌∙◌}
use mathlib.Core.Bool.{Bool, true, ◌&&◌}
use Prim.Native.Nat.{ℕ}
use lib.Dec.{eqb}
use Rattle.std.specs.Char.{to_ascii_lowercase}
use Rattle.std.proofs.Common.{rules}
use Rattle.std.proofs.lemmas.Iterator.{YieldsList-from_slice, YieldsList-from_zip}
use Rattle.std.proofs.lemmas.Iterator.Consumers.{fold_from_yields_List}
use Rattle.text_equality.specs.Same.{lower}
use Rattle.text_equality.proofs.Sames.{fold-same, lower-is, other_length, same-agree}
use Rattle.text_equality.proofs.same_folded.Goals as goal

pub returns-then-a-b : goal.returns-then-a-b
returns-then-a-b c = sym (other_length lower _ _ c.if-a-b.true)

pub returns : goal.returns
returns c =
    let a = c.args.a.now in
    let b = c.args.b.now in
    fold_from_yields_List _ (λ (s : Bool) (p : ℕ × ℕ). s && eqb (to_ascii_lowercase p.0) (to_ascii_lowercase p.1)) true _ c.fold.ensures.ran
    (YieldsList-from_zip (YieldsList-from_slice a cc) (YieldsList-from_slice b cc)) (λ s p t q k. search rules)
    ∙ fold-same to_ascii_lowercase true a b c.if-a-b.false ∙ same-agree to_ascii_lowercase lower lower-is a b
