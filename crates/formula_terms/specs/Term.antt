-- One term of a formula by stages, as the code goes (document 01, "The twelve rows"). `Wording` (proofs) shows that it is the document's wording.
-- Assumes nothing.
use Rattle.std.specs.Prelude.{ℕ, Bool, cond, ◌&&◌, not, List, leb, eqb, length, get_or, drop, Option, Some, None}
use Rattle.text.specs.Run.{all, kind_at, is_digit, is_capital, is_small}
use Rattle.number_decimal.specs.Digits.{value_of}
use Rattle.formula_terms.specs.declared.term.Term.{Term}

-- "a count 1 to 9999"
abbrev pub most_count : ℕ
most_count = 9999

-- "a count 1 to 9999 without leading zero"
unfoldable pub is_count : List ℕ → Bool
is_count ds = all is_digit ds && (not (eqb (get_or ds 0 0) 48) && (leb 1 (value_of ds) && leb (value_of ds) most_count))

-- "optionally a count 1 to 9999 without leading zero (none means 1)"
unfoldable pub count_of : List ℕ → Option ℕ
count_of ds = cond (eqb (length ds) 0) (Some 1) (cond (is_count ds) (Some (value_of ds)) None)

-- the well-formed term of the symbol a b and the count n; an ill-formed one is `None`
abbrev pub well : ℕ → ℕ → ℕ → Option Term
well a b n = Some (record { symbol = record { first = a; second = b }; count = n })

-- the term of a symbol and what was read after it
abbrev pub with_count : ℕ → ℕ → Option ℕ → Option Term
with_count a b (Some n) = well a b n
with_count a b None = None

-- "a capital, optionally one small letter, optionally a count"; after a single letter the symbol's second byte is a space, 32
unfoldable pub term_of : List ℕ → Option Term
term_of t =
    cond (kind_at is_capital t 0)
    (cond (kind_at is_small t 1) (with_count (get_or t 0 0) (get_or t 1 0) (count_of (drop 2 t))) (with_count (get_or t 0 0) 32 (count_of (drop 1 t))))
    None
