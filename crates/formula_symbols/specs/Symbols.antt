-- Symbols among the well-formed terms of a formula's text (document 01, "The twelve rows", 2 and 3). Ill-formed terms are left out.
-- Assumes nothing.
use Rattle.std.specs.Prelude.{ℕ, Bool, false, List, Option, Some, None}
use Rattle.formula_terms.specs.Terms.{terms_of, some}
use Rattle.formula_elements.specs.Elements.{same_symbol, is_metal, carbon}
use Rattle.formula_terms.specs.declared.term.Term.{Term}
use Rattle.formula_symbols.specs.declared.Wanted.{Wanted}
use Rattle.formula_symbols.specs.declared.Wanted.TheVariants.{Element, AnyMetal}

-- a term is well formed and is one that is looked for
abbrev pub is_wanted : Wanted → Option Term → Bool
is_wanted w None = false
is_wanted (Element s) (Some t) = same_symbol t.symbol.first t.symbol.second s.first s.second
is_wanted AnyMetal (Some t) = is_metal t.symbol.first t.symbol.second

-- a term of a text is one that is looked for
unfoldable pub has_term : Wanted → List ℕ → Bool
has_term w s = some (is_wanted w) (terms_of s)

-- C is among the symbols
abbrev pub has_carbon : List ℕ → Bool
has_carbon s = has_term (Element carbon) s
