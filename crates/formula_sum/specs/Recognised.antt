-- Row 1 (document 01): "A if any term is ill formed or not recognised".
-- Assumes nothing.
use Rattle.std.specs.Prelude.{ℕ, Bool, false, List, Option, Some, None}
use Rattle.text.specs.Run.{all}
use Rattle.formula_terms.specs.Terms.{terms_of}
use Rattle.formula_elements.specs.Elements.{is_element}
use Rattle.formula_terms.specs.declared.term.Term.{Term}

-- a term is well formed and its symbol recognised
abbrev pub is_recognised : Option Term → Bool
is_recognised (Some t) = is_element t.symbol.first t.symbol.second
is_recognised None = false

-- every term of a text is well formed and recognised
unfoldable pub all_recognised : List ℕ → Bool
all_recognised s = all is_recognised (terms_of s)
