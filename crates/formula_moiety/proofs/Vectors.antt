-- Worked examples of reading and of totals, each list as one statement that antt computes.
-- Assumes nothing.
use Prim.Native.Nat.{ℕ}
use Prim.Native.String.{String}
use mathlib.Core.Path.{◌≡◌, refl}
use mathlib.Core.List.{List, [], ◌∷◌, map}
use Rattle.text.specs.Quote.{bytes}
use Rattle.text.specs.Run.{run_of, all, between, other, has_at, kind_at}
use Rattle.number_decimal.specs.Digits.{value_from}
use Rattle.formula_terms.specs.Term.{is_count, count_of, term_of}
use Rattle.formula_elements.specs.Elements.{same_symbol, place_of, symbols, element_of, is_element}
use Rattle.formula_moiety.specs.Reading.{in_word, word_part, closed, part_of, Whole, whole, unread, whole_text_of, moieties_of}
use Rattle.formula_moiety.specs.Totals.{total_part, total_all}

-- the totals of H, C and O in what was read; no number where nothing was
abbrev pub some_totals : Whole → List ℕ
some_totals (whole m ms) = total_all m ms 0 ∷ total_all m ms 5 ∷ total_all m ms 7 ∷ []
some_totals unread = []

pub record Case : Type 0 where
  pub text : String
  pub totals : List ℕ

abbrev case : String → List ℕ → Case
case t ns = record { text = t; totals = ns }

unfoldable pub cases : List Case
cases =
    case "C10 H20, H2 O" (22 ∷ 10 ∷ 1 ∷ []) ∷
    case "C2 H6 O, (H2 O)2" (10 ∷ 2 ∷ 3 ∷ []) ∷
    case "H, (H2 O)2 H" (6 ∷ 0 ∷ 2 ∷ []) ∷
    case "(C2 (H2 O)2)3 O" (12 ∷ 6 ∷ 7 ∷ []) ∷
    case "((((C2)2)2)2)2" (0 ∷ 32 ∷ 0 ∷ []) ∷
    case "C1 (H1)1" (1 ∷ 1 ∷ 0 ∷ []) ∷
    case "((((H9999)99)99)99)99" (960499950399 ∷ 0 ∷ 0 ∷ []) ∷
    case "(((((C2)2)2)2)2)2" [] ∷
    case "C H4 " [] ∷
    case "C  H4" [] ∷
    case "C H4,C H4" [] ∷
    case "C H4,  C H4" [] ∷
    case "(C H4)100" [] ∷
    case "(C H4)01" [] ∷
    case "(C H4)0" [] ∷
    case "(C, H)" [] ∷
    case "2(H2 O)" [] ∷
    case "C H3 1+" [] ∷
    case "(C)(H)" [] ∷
    case "()" [] ∷
    case "" [] ∷ []

pub vectors-hold : map (λ (c : Case). some_totals (moieties_of (bytes c.text))) cases ≡ map (λ (c : Case). c.totals) cases
unfolding cases moieties_of whole_text_of part_of word_part closed in_word run_of all between other has_at kind_at value_from is_count count_of term_of same_symbol place_of symbols element_of is_element total_part total_all
vectors-hold = refl
