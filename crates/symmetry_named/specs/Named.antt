-- Operators by name (document 02, No. 5), and the list of numbers that their check is lent.
-- Assumes nothing.
use Rattle.std.specs.Prelude.{ℕ, zero, suc, ◌*◌, cond, List, [], ◌∷◌, ◌++◌, ltb, leb, ℤ, pos, get_or, take, replicate}
use Rattle.std.proofs.lemmas.List.Edits.{sets}
use Rattle.symmetry_named.specs.declared.Operator.{Operator}
use Rattle.symmetry_named.specs.declared.Flat.{Flat}
use Rattle.symmetry_operators.specs.Check.{row_most, Outcome, outcome, checked}

abbrev pub no_operator : Operator
no_operator = record { factors = []; translations = [] }

abbrev pub factor_at : Operator → ℕ → ℤ
factor_at o k = get_or o.factors k (pos 0)

abbrev pub translation_at : Operator → ℕ → ℤ
translation_at o k = get_or o.translations k (pos 0)

-- the nine factors, and the three translations
abbrev pub twelve : Operator → List ℤ
twelve o =
    factor_at o 0 ∷ factor_at o 1 ∷ factor_at o 2 ∷ factor_at o 3 ∷ factor_at o 4 ∷ factor_at o 5 ∷ factor_at o 6 ∷ factor_at o 7 ∷ factor_at o 8
    ∷ translation_at o 0 ∷ translation_at o 1 ∷ translation_at o 2 ∷ []

-- the numbers of the operators, one after the other
abbrev pub all_numbers : List Operator → List ℤ
all_numbers [] = []
all_numbers (o ∷ l) = twelve o ++ all_numbers l

-- the check of a list of operators is that of their numbers
unfoldable pub checked_named : List Operator → Outcome
checked_named l = checked (all_numbers l)

-- ---- the numbers of at most 192 rows, filled in one by one
unfoldable pub flat_of_zeros : Flat
flat_of_zeros = record { numbers = replicate (12 * row_most) (pos 0) }

abbrev pub stored_row : Flat → ℕ → Operator → Flat
stored_row f i o = record { numbers = sets f.numbers (12 * i) (twelve o) }

unfoldable pub with_row : Flat → ℕ → Operator → Flat
with_row f i o = cond (ltb i row_most) (stored_row f i o) f

unfoldable pub filled_to : List Operator → ℕ → Flat
filled_to l zero = flat_of_zeros
filled_to l (suc i) = with_row (filled_to l i) i (get_or l i no_operator)

unfoldable pub flat_checked : Flat → ℕ → Outcome
flat_checked f n = cond (leb n row_most) (checked (take (12 * n) f.numbers)) (outcome 13 0)
