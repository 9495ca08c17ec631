-- Nothing else moved with document 02, No. 2: where C is among the symbols, the order is that of document 01 alone, stated here once more.
-- Assumes nothing.
use Rattle.std.specs.Prelude.{Option, Some, None}
use Prim.Native.Nat.{ℕ, ◌+◌, ◌*◌}
use mathlib.Core.Path.{◌≡◌, refl, ap}
use mathlib.Core.Bool.{Bool, true, cond}
use mathlib.Core.List.{List, [], ◌∷◌}
use Rattle.formula_elements.specs.Elements.{same_symbol}
use Rattle.formula_terms.specs.Terms.{terms_of}
use Rattle.formula_terms.specs.declared.term.Term.{Term}
use Rattle.formula_symbols.specs.Symbols.{has_carbon}
use Rattle.formula_order.specs.Order.{rank, order_key, order_keys, rising, in_order}

-- the order keys of document 01: "C first, then H, then the others in rising ASCII order", whatever the symbols are
abbrev pub key_before : ℕ → ℕ → ℕ
key_before a b = (cond (same_symbol a b 67 32) 0 (cond (same_symbol a b 72 32) 1 2) * 256 + a) * 256 + b

abbrev pub keys_before : List (Option Term) → List ℕ
keys_before [] = []
keys_before (Some u ∷ ts) = key_before u.symbol.first u.symbol.second ∷ keys_before ts
keys_before (None ∷ ts) = keys_before ts

-- row 2's order before the request
abbrev pub in_order_before : List ℕ → Bool
in_order_before s = rising 0 (keys_before (terms_of s))

same_keys : (ts : List (Option Term)) → order_keys true ts ≡ keys_before ts
unfolding order_key rank
same_keys [] = refl
same_keys (Some u ∷ ts) = ap (λ (ks : List ℕ). key_before u.symbol.first u.symbol.second ∷ ks) (same_keys ts)
same_keys (None ∷ ts) = same_keys ts

-- with C among the symbols nothing moved
pub order-as-before : (s : List ℕ) → has_carbon s ≡ true → in_order s ≡ in_order_before s
unfolding in_order
order-as-before s c = rw c (ap (rising 0) (same_keys (terms_of s)))
