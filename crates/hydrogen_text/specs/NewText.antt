-- The text of a formula with another count of hydrogen by stages, as the code goes (document 02, No. 13). `one-text` (proofs/Unique.antt) shows that no
-- other text has the formula's other terms in their order, that many hydrogens, and row 2 at level 0.
-- Assumes nothing.
use Rattle.std.specs.Prelude.{ℕ, Bool, true, cond, ◌&&◌, not, List, [], ◌∷◌, ◌++◌, eqb, ltb, Option, Some, None}
use Rattle.formula_terms.specs.Term.{term_of}
use Rattle.formula_terms.specs.Terms.{cut}
use Rattle.formula_terms.specs.Grammar.{joined}
use Rattle.formula_terms.specs.declared.term.Term.{Term}
use Rattle.formula_symbols.specs.Symbols.{has_carbon}
use Rattle.formula_order.specs.Order.{order_key}
use Rattle.hydrogen_text.specs.Hydrogens.{hydrogen_text, is_hydrogen, other_words}

-- a term stands after hydrogen, with C among the symbols or without
abbrev pub is_later : Bool → Option Term → Bool
is_later carbon (Some t) = ltb (order_key carbon 72 32) (order_key carbon t.symbol.first t.symbol.second)
is_later carbon None = true

-- hydrogens that are still to come stand before a term: the first other one that stands after them
abbrev pub comes_here : Bool → Bool → Option Term → Bool
comes_here carbon wanted t = wanted && (not (is_hydrogen t) && is_later carbon t)

-- a term of hydrogen before the first of some terms that stands after it
unfoldable pub placed : Bool → List ℕ → List (List ℕ) → List (List ℕ)
placed carbon h [] = h ∷ []
placed carbon h (w ∷ ws) = cond (is_later carbon (term_of w)) (h ∷ (w ∷ ws)) (w ∷ placed carbon h ws)

-- some terms, none of them of hydrogen, with n hydrogens
unfoldable pub with_hydrogens : Bool → ℕ → List (List ℕ) → List (List ℕ)
with_hydrogens carbon n ws = cond (eqb n 0) ws (placed carbon (hydrogen_text n) ws)

-- some terms, each with a space after it
unfoldable pub spread : List (List ℕ) → List ℕ
spread [] = []
spread (w ∷ ws) = w ++ (32 ∷ spread ws)

-- the terms of a text with n hydrogens
abbrev pub new_words : ℕ → List ℕ → List (List ℕ)
new_words n s = with_hydrogens (has_carbon s) n (other_words (cut s))

-- the text with n hydrogens
unfoldable pub new_text : ℕ → List ℕ → List ℕ
new_text n s = joined (new_words n s)
