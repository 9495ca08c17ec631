-- `formula_elements::is_element` meets its contract: a symbol with a weight is recognised (`weight-known`), and the place decides of the others.
-- Assumes nothing.
use mathlib.Core.Path.{◌≡◌, sym, ap, ◌∙◌}
use mathlib.Core.Bool.{true}
use Prim.Native.Nat.{ℕ}
use Rattle.std.specs.Prelude.{Option, Some, None}
use Rattle.std.specs.Option.{is_some}
use Rattle.formula_elements.specs.Elements.{is_element, weight_of}
use Rattle.formula_elements.proofs.Weights.{weight-known}
use Rattle.formula_elements.proofs.is_element.Goals as goal

known : (a b : ℕ) (w : Option ℕ) → weight_of a b ≡ w → is_some w ≡ true → is_element a b ≡ true
known a b (Some w) e h = weight-known a b w e
known a b None e h = cc

pub returns-then-is_some : goal.returns-then-is_some
returns-then-is_some c =
    c.if-is_some.true ∙ sym (known _ _ c.weight_of.result (sym c.weight_of.ensures) (sym c.is_some.ensures ∙ c.if-is_some.true))

pub returns-else-is_some : goal.returns-else-is_some
unfolding is_element
returns-else-is_some c = c.is_some-else-is_some.ensures ∙ ap is_some c.find_element.ensures
