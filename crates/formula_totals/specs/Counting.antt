-- What counting a formula's text leaves in the counters, and what room it asks there.
-- Assumes nothing.
use Rattle.std.specs.Prelude.{ℕ, ◌+◌, ◌*◌, ◌≤◌, ◌≡◌, true, List, length, get_or, Option}
use Rattle.std.specs.Option.{is_some}
use Rattle.formula_elements.specs.Elements.{element_count}
use Rattle.formula_terms.specs.Term.{most_count}
use Rattle.formula_sum.specs.Recognised.{all_recognised}
use Rattle.formula_moiety.specs.Amounts.{formula_total}
use Rattle.formula_totals.specs.Counters.{limit, Added}

-- a counter for each element, with room for a term at each place of the text
pub record TermRoom (s counts : List ℕ) : Type 0 where
  pub long : length counts ≡ element_count
  pub room : (k : ℕ) → get_or counts k 0 + (length s + 1) * most_count ≤ limit

-- every term was added, or one is ill formed or not recognised; then nothing is said of the counters
pub record FormulaLeft (s before after : List ℕ) (r : Option Unit) : Type 0 where
  pub all : is_some r ≡ all_recognised s
  pub adds : is_some r ≡ true → Added before after (formula_total s)
