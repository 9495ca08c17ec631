-- What counting leaves in the counters, and what it asks of them. The counter of the element k is `get_or counts k 0`.
-- Assumes nothing.
use Rattle.std.specs.Prelude.{ℕ, ◌+◌, ◌^◌, ◌≤◌, ◌≡◌, true, false, List, length, get_or, Option, Some, None}
use Rattle.formula_elements.specs.Elements.{element_count}
use Rattle.formula_terms.specs.declared.term.Term.{Term}
use Rattle.formula_sum.specs.Recognised.{is_recognised}
use Rattle.formula_moiety.specs.Amounts.{amount}

-- no counter goes above this: 99 times a counter and one counter more are below 2 ^ 64
abbrev pub limit : ℕ
limit = 10 ^ 17

-- each counter has grown by its amount
abbrev pub Added : List ℕ → List ℕ → (ℕ → ℕ) → Type 0
Added before after amounts = (k : ℕ) → get_or after k 0 ≡ get_or before k 0 + amounts k

-- a counter for each element, none above the limit
pub record AllBelow (counts : List ℕ) : Type 0 where
  pub long : length counts ≡ element_count
  pub below : (k : ℕ) → get_or counts k 0 ≤ limit

-- a term was added, or it is ill formed or not recognised; then nothing is said of the counters
abbrev pub TermLeft : Option Term → List ℕ → List ℕ → Option Unit → Type 0
TermLeft t before after (Some u) = (is_recognised t ≡ true) × Added before after (λ (k : ℕ). amount k t)
TermLeft t before after None = is_recognised t ≡ false
