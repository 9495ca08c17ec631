-- "the sums of long formulas still exact" (document 02, No. 6).
-- Assumes nothing.
use Rattle.std.specs.Prelude.{Some}
use native.Mathlib.Omega.{arith}
use mathlib.Core.Path.{◌≡◌, refl}
use mathlib.Core.Bool.{true, false}
use mathlib.Core.List.{List, ◌++◌}
use Prim.Native.Nat.{ℕ, ◌≤◌}
use lib.Dec.{leb}
use lib.ListN.{length}
use borrow.Author.Tests.{le-leb}
use Rattle.text.specs.Quote.{bytes}
use Rattle.text.specs.Run.{between, all, kind_at}
use Rattle.number_decimal.specs.Digits.{value_from}
use Rattle.line_items.specs.Typed.{line_most}
use Rattle.formula_terms.specs.Term.{is_count, count_of, term_of}
use Rattle.formula_terms.specs.Terms.{cut, terms_of}
use Rattle.formula_elements.specs.Elements.{same_symbol, weights, weight_in, weight_of}
use Rattle.formula_sum.specs.Sum.{most_summed, total_weight, sum_of}

-- the sum of a text that a line can hold is the sum of its terms, each count times its weight
pub line-summed : (s : List ℕ) → length s ≤ line_most → sum_of s ≡ total_weight (terms_of s)
unfolding sum_of
line-summed s h = simp (le-leb (length s) most_summed (omega (arith, h)))

-- a formula that fills its line, with counts of 9999 of the heaviest element: the line has 200 bytes, the sum is above 2^32
abbrev full_formula : List ℕ
full_formula = bytes "Pb9999 Pb9999 Pb9999 Pb9999 Pb9999 Pb9999 Pb9999 Pb9999 Pb9999 Pb9999 Pb9999 Pb9999 Pb9999 Pb9999 Pb9999 Pb9999 Pb9999 Pb9999 Pb9999 Pb9999 Pb9999 Pb9999 Pb9999 Pb9999 Pb9999 C"

pub full-line : length (bytes "_chemical_formula_sum '" ++ (full_formula ++ bytes "'")) ≡ line_most
full-line = refl

pub full-sum : sum_of full_formula ≡ Some 51794832011
unfolding cut term_of kind_at is_count count_of all between value_from same_symbol sum_of total_weight weight_of weight_in weights
full-sum = refl
