-- The categories of document 01, by the classes of row 3 ("A line, a number", "The twelve rows").
-- Assumes nothing.
use Rattle.std.specs.Prelude.{ℕ, Bool, ◌||◌, List}
use Rattle.text.specs.Quote.{bytes}
use Rattle.text_equality.specs.Same.{exact, same_by}
use Rattle.line_categories.specs.declared.Class.{Class}
use Rattle.line_categories.specs.declared.Class.TheVariants.{Inorganic, MetalOrganic, Organic}

-- "inorganic (FI, CI)", "metal-organic (FM, CM)", "organic (FO, CO)": the text of a category is one of a class
abbrev pub in_class : Class → List ℕ → Bool
in_class Inorganic t = same_by exact t (bytes "FI") || same_by exact t (bytes "CI")
in_class MetalOrganic t = same_by exact t (bytes "FM") || same_by exact t (bytes "CM")
in_class Organic t = same_by exact t (bytes "FO") || same_by exact t (bytes "CO")

-- "A category is FI, CI, FM, CM, FO or CO, .. capitals only": one of some class
unfoldable pub is_category : List ℕ → Bool
is_category t = in_class Inorganic t || (in_class MetalOrganic t || in_class Organic t)
