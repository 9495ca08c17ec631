-- The totals of moieties against those of a formula, element by element, as the code goes (document 02, No. 12). `Totals` (proofs) shows that it
-- is the request's wording. Assumes nothing.
use Rattle.std.specs.Prelude.{ℕ, zero, suc, Bool, true, ◌&&◌, List, eqb}
use Rattle.formula_elements.specs.Elements.{element_count}
use Rattle.formula_moiety.specs.Amounts.{formula_total}
use Rattle.formula_moiety.specs.Grammar.{Moiety}
use Rattle.formula_moiety.specs.Totals.{total_all}

-- each of the first n numbers is of the kind p
unfoldable pub every_below : ℕ → (ℕ → Bool) → Bool
every_below zero p = true
every_below (suc n) p = every_below n p && p n

-- the element k has the same total in the moieties m and ms as in the formula's text s
abbrev pub same_total : Moiety → List Moiety → List ℕ → ℕ → Bool
same_total m ms s k = eqb (total_all m ms k) (formula_total s k)

-- every element has
abbrev pub same_totals : Moiety → List Moiety → List ℕ → Bool
same_totals m ms s = every_below element_count (same_total m ms s)
