-- The terms of hydrogen of a formula, and the other ones, each as it is written (document 02, No. 13).
-- Assumes nothing.
use Rattle.std.specs.Prelude.{ℕ, Bool, false, cond, List, [], ◌∷◌, ◌++◌, leb, eqb, Option, Some, None}
use Rattle.number_decimal.specs.Digits.{last_digits}
use Rattle.formula_terms.specs.Term.{term_of}
use Rattle.formula_terms.specs.declared.term.Term.{Term}
use Rattle.formula_elements.specs.Elements.{same_symbol}

-- "count 0 to 9999"
abbrev pub most_hydrogens : ℕ
most_hydrogens = 9999

-- "text of at most 176 bytes"
abbrev pub most_text_bytes : ℕ
most_text_bytes = 176

-- a number up to 9999 in decimal
unfoldable pub decimal_of : ℕ → List ℕ
decimal_of n = last_digits 4 n

-- the term of n hydrogens, 1 or more: "1 is written H"
unfoldable pub hydrogen_text : ℕ → List ℕ
hydrogen_text n = cond (leb n 1) (72 ∷ []) (72 ∷ decimal_of n)

-- "0 drops the term": the terms of n hydrogens, one or none
unfoldable pub hydrogen_terms : ℕ → List (List ℕ)
hydrogen_terms n = cond (eqb n 0) [] (hydrogen_text n ∷ [])

-- a term is of hydrogen
abbrev pub is_hydrogen : Option Term → Bool
is_hydrogen (Some t) = same_symbol t.symbol.first t.symbol.second 72 32
is_hydrogen None = false

-- of some terms those of hydrogen
unfoldable pub hydrogen_words : List (List ℕ) → List (List ℕ)
hydrogen_words [] = []
hydrogen_words (w ∷ ws) = cond (is_hydrogen (term_of w)) (w ∷ hydrogen_words ws) (hydrogen_words ws)

-- "all other terms", in their order
unfoldable pub other_words : List (List ℕ) → List (List ℕ)
other_words [] = []
other_words (w ∷ ws) = cond (is_hydrogen (term_of w)) (other_words ws) (w ∷ other_words ws)

-- a text as it is typed, in quotes
abbrev pub in_quotes : List ℕ → List ℕ
in_quotes t = 39 ∷ (t ++ (39 ∷ []))
