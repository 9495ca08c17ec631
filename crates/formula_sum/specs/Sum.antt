-- The sum of a formula's weights in thousandths (document 01, row 4): each term's count times its symbol's weight, exactly.
-- Assumes nothing.
use Rattle.std.specs.Prelude.{ℕ, ◌+◌, ◌*◌, ◌≤◌, cond, List, [], ◌∷◌, leb, length, Option, Some, None}
use Rattle.formula_terms.specs.Term.{most_count}
use Rattle.formula_terms.specs.Terms.{terms_of}
use Rattle.formula_elements.specs.Elements.{weight_of, heaviest}
use Rattle.formula_terms.specs.declared.term.Term.{Term}

-- the longest text that is summed; a longer one has no sum here
abbrev pub most_summed : ℕ
most_summed = 4096

-- so many of a weight
abbrev pub times : ℕ → Option ℕ → Option ℕ
times n (Some w) = Some (n * w)
times n None = None

-- two weights together; with one missing there is none
abbrev pub plus : Option ℕ → Option ℕ → Option ℕ
plus None v = None
plus (Some u) None = None
plus (Some u) (Some v) = Some (u + v)

-- the weight of a term; an ill-formed one has none
abbrev pub term_weight : Option Term → Option ℕ
term_weight (Some t) = times t.count (weight_of t.symbol.first t.symbol.second)
term_weight None = None

-- the weights of some terms together
unfoldable pub total_weight : List (Option Term) → Option ℕ
total_weight [] = Some 0
total_weight (t ∷ ts) = plus (term_weight t) (total_weight ts)

-- the sum of a text that is not too long; no line is
unfoldable pub sum_of : List ℕ → Option ℕ
sum_of s = cond (leb (length s) most_summed) (total_weight (terms_of s)) None

-- what the code's sum rests on: a count is at most 9999, so a term's weight at most 9999 times the largest
abbrev pub SmallCount : Option Term → Type 0
SmallCount (Some t) = t.count ≤ most_count
SmallCount None = Unit {0}

abbrev pub SmallWeight : Option ℕ → Type 0
SmallWeight (Some w) = w ≤ most_count * heaviest
SmallWeight None = Unit {0}
