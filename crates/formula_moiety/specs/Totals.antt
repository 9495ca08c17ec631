-- How much of each element a tree has (document 02, No. 12: "some element's total"): the sum over its terms, "a bracketed moiety" as often as its count says.
-- Assumes nothing.
use Rattle.std.specs.Prelude.{ℕ, zero, suc, ◌+◌, ◌*◌, List, [], ◌∷◌, Option, Some, None}
use Rattle.formula_terms.specs.Term.{most_count, count_of, term_of}
use Rattle.formula_moiety.specs.Amounts.{amount}
use Rattle.formula_moiety.specs.Grammar.{Part, Moiety, term, group, one, more, most_times}

-- the number that a count is
abbrev pub count_number : Option ℕ → ℕ
count_number (Some n) = n
count_number None = 0

-- the total of the element k in a part, and in a moiety
unfoldable mutual
  pub total_part : Part → ℕ → ℕ
  total_part (term w) k = amount k (term_of w)
  total_part (group m c) k = count_number (count_of c) * total m k

  pub total : Moiety → ℕ → ℕ
  total (one p) k = total_part p k
  total (more p m) k = total_part p k + total m k

-- the total of the element k in some moieties
unfoldable pub total_all : Moiety → List Moiety → ℕ → ℕ
total_all m [] k = total m k
total_all m (n ∷ ms) k = total m k + total_all n ms k

-- the most that one byte of a text inside d more brackets can stand for: 9999 times 99 for each bracket
unfoldable pub most : ℕ → ℕ
most zero = most_count
most (suc d) = most_times * most d
