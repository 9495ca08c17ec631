-- The terms of a formula's text (document 01, "The twelve rows").
-- Assumes nothing.
use Rattle.std.specs.Prelude.{Option, Some, None, ℕ, Bool, false, cond, ◌||◌, List, [], ◌∷◌, map, eqb}
use Rattle.formula_terms.specs.Term.{term_of}
use Rattle.formula_terms.specs.declared.term.Term.{Term}
use Rattle.formula_terms.specs.declared.Words.{Words}
use Rattle.std.specs.Borrow.{Bor}

-- a byte before the first of some texts
abbrev pub attach : ℕ → List (List ℕ) → List (List ℕ)
attach b [] = (b ∷ []) ∷ []
attach b (t ∷ ts) = (b ∷ t) ∷ ts

-- "A formula's text is cut at every single space": two spaces together, a space at an end and the empty text give empty terms
unfoldable pub cut : List ℕ → List (List ℕ)
cut [] = [] ∷ []
cut (b ∷ bs) = cond (eqb b 32) ([] ∷ cut bs) (attach b (cut bs))

-- the terms of a text, in order
abbrev pub terms_of : List ℕ → List (Option Term)
terms_of s = map term_of (cut s)

-- some term is of the kind p
unfoldable pub some : (Option Term → Bool) → List (Option Term) → Bool
some p [] = false
some p (t ∷ ts) = p t || some p ts

-- the terms of what is left of a text, if anything is
abbrev pub words_of_rest : Option (Bor (List ℕ)) → List (List ℕ)
words_of_rest None = []
words_of_rest (Some rest) = cut rest.now

-- the terms that are still to come
abbrev pub words_left : Words → List (List ℕ)
words_left w = words_of_rest w.rest
