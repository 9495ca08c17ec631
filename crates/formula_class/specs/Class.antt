-- Row 3 (document 01): the class of a formula.
-- Assumes nothing.
use Rattle.formula_elements.specs.Elements.{carbon, hydrogen}
use Rattle.std.specs.Prelude.{ℕ, cond, ◌&&◌, List}
use Rattle.formula_symbols.specs.Symbols.{has_term}
use Rattle.formula_symbols.specs.declared.Wanted.TheVariants.{Element, AnyMetal}
use Rattle.line_categories.specs.declared.Class.{Class}
use Rattle.line_categories.specs.declared.Class.TheVariants.{Inorganic, MetalOrganic, Organic}

-- "no C, or C without H, is inorganic ..; C, H and a metal is metal-organic ..; C, H and no metal is organic"
unfoldable pub formula_class : List ℕ → Class
formula_class s = cond (has_term (Element carbon) s && has_term (Element hydrogen) s) (cond (has_term AnyMetal s) MetalOrganic Organic) Inorganic
