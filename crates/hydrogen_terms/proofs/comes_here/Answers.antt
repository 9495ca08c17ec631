-- `hydrogen_terms::comes_here` meets its contract: each return is a case of `comes_here`.
-- Assumes nothing.
use mathlib.Core.Path.{◌≡◌, sym, ap, ◌∙◌}
use mathlib.Core.Bool.{true}
use Prim.Native.Nat.{ℕ}
use lib.Dec.{ltb}
use Rattle.formula_elements.specs.Elements.{same_symbol}
use Rattle.hydrogen_terms.proofs.comes_here.Goals as goal
use Rattle.hydrogen_terms.proofs.comes_here.Goals.{Else-not-wanted}

wanted : (c : Else-not-wanted) → c.args.wanted ≡ true
wanted c = c.if-not-wanted.false

pub returns-then-not-wanted : goal.returns-then-not-wanted
returns-then-not-wanted c = simp c.if-not-wanted.true

pub returns-in_default : goal.returns-in_default
returns-in_default c = simp ((wanted (goal.at.returns-in_default c).Else-not-wanted), c.in_default.is)

pub returns-then-eq : goal.returns-then-eq
unfolding same_symbol
returns-then-eq c = simp ((wanted (goal.at.returns-then-eq c).Else-not-wanted), c.in-Some.is, sym c.eq.ensures ∙ c.if-eq.true)

pub returns : goal.returns
unfolding same_symbol
returns c =
    ap (λ (x : ℕ). ltb x c.key_of-2.result) c.key_of.ensures ∙ ap (ltb _) c.key_of-2.ensures
    ∙ simp ((wanted (goal.at.returns c).Else-not-wanted), c.in-Some.is, sym c.eq.ensures ∙ c.if-eq.false)
