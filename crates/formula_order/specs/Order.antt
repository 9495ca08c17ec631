-- Row 2's order by stages, as the code goes (document 01, "The twelve rows", 2, and document 02, No. 2). `Wording` (proofs) shows that it is the documents'
-- wording.
-- Assumes nothing.
use Rattle.std.specs.Prelude.{ℕ, ◌+◌, ◌*◌, Bool, true, cond, ◌&&◌, List, [], ◌∷◌, ltb, Option, Some, None}
use Rattle.formula_terms.specs.Terms.{terms_of}
use Rattle.formula_elements.specs.Elements.{same_symbol}
use Rattle.formula_terms.specs.declared.term.Term.{Term}
use Rattle.formula_symbols.specs.Symbols.{has_carbon}

-- with C among the symbols "C first, then H, then the others"; "without C" none goes first
unfoldable pub rank : Bool → ℕ → ℕ → ℕ
rank carbon a b = cond carbon (cond (same_symbol a b 67 32) 0 (cond (same_symbol a b 72 32) 1 2)) 2

-- a number for a symbol, smaller the earlier the symbol stands: by rank, then by the ASCII numbers of its two bytes
unfoldable pub order_key : Bool → ℕ → ℕ → ℕ
order_key carbon a b = (rank carbon a b * 256 + a) * 256 + b

-- the order keys of the symbols of the well-formed terms, in order
abbrev pub order_keys : Bool → List (Option Term) → List ℕ
order_keys carbon [] = []
order_keys carbon (Some u ∷ ts) = order_key carbon u.symbol.first u.symbol.second ∷ order_keys carbon ts
order_keys carbon (None ∷ ts) = order_keys carbon ts

-- numbers rise, from above a first one, none twice
unfoldable pub rising : ℕ → List ℕ → Bool
rising low [] = true
rising low (k ∷ ks) = ltb low k && rising k ks

-- the symbols of a text's well-formed terms stand in order, none twice; no order key is 0
unfoldable pub in_order : List ℕ → Bool
in_order s = rising 0 (order_keys (has_carbon s) (terms_of s))
