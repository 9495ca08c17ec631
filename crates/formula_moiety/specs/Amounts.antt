-- How much of an element terms and formulas have (document 02, No. 12: "some element's total .. the one in item 1"). Elements are counted from 0,
-- in the order of the periodic table.
-- Assumes nothing.
use Rattle.std.specs.Prelude.{ℕ, ◌+◌, Bool, false, cond, List, [], ◌∷◌, eqb, Option, Some, None}
use Rattle.formula_terms.specs.Terms.{terms_of}
use Rattle.formula_terms.specs.declared.term.Term.{Term}
use Rattle.formula_elements.specs.Elements.{element_of}

-- a symbol is that of the element k
abbrev pub is_place : ℕ → Option ℕ → Bool
is_place k (Some j) = eqb j k
is_place k None = false

-- how much of the element k a term has: its count, if it is a term of that element
abbrev pub amount : ℕ → Option Term → ℕ
amount k (Some t) = cond (is_place k (element_of t.symbol.first t.symbol.second)) t.count 0
amount k None = 0

-- how much of it some terms have together
unfoldable pub amounts : List (Option Term) → ℕ → ℕ
amounts [] k = 0
amounts (t ∷ ts) k = amount k t + amounts ts k

-- the total of the element k in a formula's text
abbrev pub formula_total : List ℕ → ℕ → ℕ
formula_total s k = amounts (terms_of s) k
