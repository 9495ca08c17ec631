-- Worked examples of formulas as one table, under one statement that antt computes: terms, order, class and sum.
-- Assumes nothing.
use Rattle.std.specs.Prelude.{ℕ, Option, Some, None}
use mathlib.Core.Path.{◌≡◌, refl}
use mathlib.Core.Bool.{Bool, true, false}
use mathlib.Core.List.{List, [], ◌∷◌, map}
use Prim.Native.String.{String}
use Rattle.text.specs.Quote.{bytes}
use Rattle.text.specs.Run.{between, all, kind_at}
use Rattle.number_decimal.specs.Digits.{value_from}
use Rattle.formula_terms.specs.Term.{is_count, count_of, term_of}
use Rattle.formula_terms.specs.Terms.{cut, some}
use Rattle.formula_elements.specs.Elements.{same_symbol, place_of, symbols, element_of, is_element, not_metals, is_metal, weights, weight_in, weight_of}
use Rattle.formula_sum.specs.Recognised.{all_recognised}
use Rattle.formula_order.specs.Order.{rank, order_key, rising, in_order}
use Rattle.formula_symbols.specs.Symbols.{has_term}
use Rattle.formula_class.specs.Class.{formula_class}
use Rattle.formula_sum.specs.Sum.{total_weight, sum_of}
use Rattle.line_categories.specs.declared.Class.{Class}
use Rattle.line_categories.specs.declared.Class.TheVariants.{Inorganic, MetalOrganic, Organic}

-- what is said of a formula
pub record Answers : Type 0 where
  pub recognised : Bool
  pub ordered : Bool
  pub class : Class
  pub sum : Option ℕ

pub record Example : Type 0 where
  pub formula : String
  pub answers : Answers

abbrev example : String → Bool → Bool → Class → Option ℕ → Example
example f r o c s = record { formula = f; answers = record { recognised = r; ordered = o; class = c; sum = s } }

unfoldable pub examples : List Example
examples =
    example "C18 H19 N7 O8 S" true true Organic (Some 493451) ∷
    example "C10 H20" true true Organic (Some 140270) ∷
    example "C10 H8 Fe" true true MetalOrganic (Some 184019) ∷
    example "C O2" true true Inorganic (Some 44009) ∷
    example "H Br" true false Inorganic (Some 80912) ∷
    example "Br H" true true Inorganic (Some 80912) ∷
    example "C H H" true false Organic (Some 14027) ∷
    example "N Na" true true Inorganic (Some 36997) ∷
    example "Na N" true false Inorganic (Some 36997) ∷
    example "Au2 O3" true true Inorganic None ∷
    example "D2 O" false true Inorganic None ∷
    example "C10H20" false true Inorganic None ∷
    example "C9999 H" true true Organic (Some 120098997) ∷
    example "C10000 H" false true Inorganic None ∷
    example "C01 H" false true Inorganic None ∷
    example "C  H" false true Organic None ∷
    example "C H " false true Organic None ∷
    example "" false true Inorganic None ∷ []

-- the answers by the definitions
abbrev answered : String → Answers
answered f =
    record { recognised = all_recognised (bytes f); ordered = in_order (bytes f); class = formula_class (bytes f); sum = sum_of (bytes f) }

pub formulas-hold : map (λ (x : Example). answered x.formula) examples ≡ map (λ (x : Example). x.answers) examples
unfolding examples cut some term_of kind_at is_count count_of all between value_from all_recognised is_element element_of symbols place_of same_symbol in_order rising order_key rank formula_class has_term is_metal not_metals sum_of total_weight weight_of weight_in weights
formulas-hold = refl
