-- Laws of the order keys of the terms of a text: a step over a term.
-- Assumes nothing.
use Rattle.std.specs.Prelude.{Option, Some}
use mathlib.Core.Path.{◌≡◌, sym, ap, ◌∙◌}
use mathlib.Core.Bool.{Bool, ◌&&◌}
use mathlib.Core.List.{List, ◌∷◌, map}
use Prim.Native.Nat.{ℕ}
use lib.Dec.{ltb}
use Rattle.formula_order.specs.Order.{order_key, order_keys, rising}
use Rattle.formula_terms.specs.Term.{term_of}
use Rattle.formula_terms.specs.declared.term.Term.{Term}

module _ (carbon : Bool) (low : ℕ) (w : List ℕ) (ws : List (List ℕ)) where
  -- a well-formed one stands above the order key before it, and the next ones above its own
  pub order-next : (t : Term) (k : ℕ) (x : Bool) → term_of w ≡ Some t → k ≡ order_key carbon t.symbol.first t.symbol.second → ltb low k ≡ x
      → rising low (order_keys carbon (map term_of (w ∷ ws))) ≡ (x && rising k (order_keys carbon (map term_of ws)))
  unfolding rising
  order-next t k x e is q =
      ap (λ (y : Option Term). rising low (order_keys carbon (y ∷ map term_of ws))) e
      ∙ ap (λ (m : ℕ). ltb low m && rising m (order_keys carbon (map term_of ws))) (sym is)
      ∙ ap (λ (y : Bool). y && rising k (order_keys carbon (map term_of ws))) q
