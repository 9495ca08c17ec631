-- Worked examples as two tables, each under one statement that antt computes: new texts, and what the helper gives. With C hydrogen stands after it, without C by
-- its letter; 1 is written H, and 0 drops the term. Assumes nothing.
use Rattle.std.specs.Prelude.{Result, Ok, Err}
use Prim.Native.Nat.{ℕ}
use Prim.Native.String.{String}
use mathlib.Core.Path.{◌≡◌, refl}
use mathlib.Core.List.{List, [], ◌∷◌, map}
use Rattle.text.specs.Quote.{bytes}
use Rattle.text.specs.Run.{between, other, run_of, all, kind_at, has_at}
use Rattle.number_decimal.specs.Digits.{value_from, last_digits}
use Rattle.number_decimal.specs.Reading.{closes_bracket, is_tail, size_of, unsigned_of, reading_of}
use Rattle.line_quotes.specs.Quoted.{is_quoted_by, is_quoted, text_of}
use Rattle.line_values.specs.Value.{is_unassigned}
use Rattle.formula_elements.specs.Elements.{same_symbol, place_of, symbols, element_of, is_element, weights, weight_in, weight_of}
use Rattle.formula_terms.specs.Term.{is_count, count_of, term_of}
use Rattle.formula_terms.specs.Terms.{cut, some}
use Rattle.formula_terms.specs.Grammar.{joined}
use Rattle.formula_symbols.specs.Symbols.{has_term}
use Rattle.formula_sum.specs.Recognised.{all_recognised}
use Rattle.formula_sum.specs.Sum.{total_weight, sum_of}
use Rattle.formula_order.specs.Order.{rank, order_key, rising, in_order}
use Rattle.rows.specs.Rows.{missing}
use Rattle.rows_levels.specs.Bounds.{bounds}
use Rattle.rows_formula.specs.FormulaRows.{row1, row2}
use Rattle.rows_weight.specs.WeightRows.{weighed_of, ratio_level, row4}
use Rattle.hydrogen_answers.specs.declared.Refusal.{Refusal}
use Rattle.hydrogen_answers.specs.declared.Refusal.TheVariants.{NoStart}
use Rattle.hydrogen_text.specs.Hydrogens.{decimal_of, hydrogen_text, other_words}
use Rattle.hydrogen_text.specs.NewText.{placed, with_hydrogens, new_text}
use Rattle.hydrogen_right.specs.Right.{all_weighed}
use Rattle.hydrogen_right.specs.Stages.{is_start, rows_pass, is_right}
use Rattle.hydrogen_helper.specs.Helper.{first_from, helper_of}

pub record NewExample : Type 0 where
  pub formula : String
  pub count : ℕ
  pub new : String

abbrev with : String → ℕ → String → NewExample
with f n t = record { formula = f; count = n; new = t }

unfoldable pub new_examples : List NewExample
new_examples =
    with "C10 H20" 22 "C10 H22" ∷
    with "C10 H20" 1 "C10 H" ∷
    with "C10 H20" 0 "C10" ∷
    with "C10 N2" 9999 "C10 H9999 N2" ∷
    with "C B" 10 "C H10 B" ∷
    with "B O3" 3 "B H3 O3" ∷
    with "Br" 1 "Br H" ∷
    with "Na O" 1 "H Na O" ∷
    with "H2 O" 100 "H100 O" ∷
    with "H" 0 "" ∷ []

abbrev made : NewExample → List ℕ
made e = new_text e.count (bytes e.formula)

abbrev said : NewExample → List ℕ
said e = bytes e.new

pub new-hold : map made new_examples ≡ map said new_examples
unfolding new_examples new_text with_hydrogens placed other_words hydrogen_text decimal_of last_digits joined cut term_of kind_at is_count count_of all between value_from same_symbol has_term some order_key rank
new-hold = refl

pub record HelperExample : Type 0 where
  pub formula : String
  pub weight : String
  pub answer : Result ℕ Refusal

abbrev gives : String → String → Result ℕ Refusal → HelperExample
gives f w p = record { formula = f; weight = w; answer = p }

unfoldable pub helper_examples : List HelperExample
helper_examples =
    gives "'C10 H20'" "142.286" (Ok 21) ∷
    gives "'C10 H20'" "140.270" (Ok 19) ∷
    gives "'Na O'" "40.00" (Ok 1) ∷
    gives "C" "12.011" (Ok 0) ∷
    gives "H9" "2.016(3)" (Ok 2) ∷
    gives "'H20 C10'" "140.270" (Err NoStart) ∷
    gives "'Au H'" "198" (Err NoStart) ∷
    gives "'C10 H20'" "?" (Err NoStart) ∷
    gives "?" "140.270" (Err NoStart) ∷ []

abbrev helped : HelperExample → Result ℕ Refusal
helped e = helper_of (bytes e.formula) (bytes e.weight)

abbrev answer : HelperExample → Result ℕ Refusal
answer e = e.answer

pub helper-hold : map helped helper_examples ≡ map answer helper_examples
unfolding helper_examples helper_of first_from is_start is_right rows_pass all_weighed row1 row2 row4 missing is_unassigned text_of is_quoted is_quoted_by weighed_of ratio_level bounds reading_of unsigned_of size_of is_tail closes_bracket has_at run_of other all_recognised is_element element_of place_of symbols in_order rising sum_of total_weight weight_of weight_in weights new_text with_hydrogens placed other_words hydrogen_text decimal_of last_digits joined cut term_of kind_at is_count count_of all between value_from same_symbol has_term some order_key rank
helper-hold = refl
