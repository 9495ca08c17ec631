-- Worked examples of the comparison, as one statement that antt computes.
-- Assumes nothing.
use Prim.Native.String.{String}
use mathlib.Core.Path.{◌≡◌, refl}
use mathlib.Core.List.{List, [], ◌∷◌, map}
use Rattle.text.specs.Quote.{bytes}
use Rattle.text.specs.Run.{run_of, all, between, other, has_at, kind_at}
use Rattle.number_decimal.specs.Digits.{value_from}
use Rattle.formula_terms.specs.Term.{is_count, count_of, term_of}
use Rattle.formula_terms.specs.Terms.{cut}
use Rattle.formula_elements.specs.Elements.{same_symbol, place_of, symbols, element_of, is_element}
use Rattle.formula_sum.specs.Recognised.{all_recognised}
use Rattle.formula_moiety.specs.Reading.{in_word, word_part, closed, part_of, whole_text_of, moieties_of}
use Rattle.formula_moiety.specs.Totals.{total_part, total_all}
use Rattle.formula_moiety.specs.Amounts.{amounts}
use Rattle.formula_moiety.specs.Compare.{every_below}
use Rattle.formula_totals.specs.Compare.{compared_of}
use Rattle.formula_totals.specs.declared.Compared.{Compared}
use Rattle.formula_totals.specs.declared.Compared.TheVariants.{Same, Differs, Unread}

pub record Case : Type 0 where
  pub moiety : String
  pub formula : String
  pub finds : Compared

abbrev case : String → String → Compared → Case
case m s c = record { moiety = m; formula = s; finds = c }

unfoldable pub cases : List Case
cases =
    case "C10 H20, H2 O" "C10 H22 O" Same ∷
    case "C10 H20, H2 O" "C10 H21 O2" Differs ∷
    case "C H4" "C H4" Same ∷
    case "C H4" "C H2 H2" Same ∷
    case "C2 H6 O, (H2 O)2" "C2 H10 O3" Same ∷
    case "C2 H6 O, (H2 O)2" "C2 H8 O2" Differs ∷
    case "((((C2)2)2)2)2" "C32" Same ∷
    case "(((((C2)2)2)2)2)2" "C64" Unread ∷
    case "C H4 " "C H4" Unread ∷
    case "C H4,C H4" "C2 H8" Unread ∷
    case "(C H4)100" "C100 H400" Unread ∷
    case "(C H4)01" "C H4" Unread ∷
    case "(C, H)" "C H" Unread ∷
    case "C1 H1" "C H" Same ∷
    case "C H4" "C4H" Unread ∷ []

pub vectors-hold : map (λ (c : Case). compared_of (bytes c.moiety) (bytes c.formula)) cases ≡ map (λ (c : Case). c.finds) cases
unfolding cases compared_of moieties_of whole_text_of part_of word_part closed in_word run_of all between other has_at kind_at value_from is_count count_of term_of cut same_symbol place_of symbols element_of is_element all_recognised total_part total_all amounts every_below
vectors-hold = refl
