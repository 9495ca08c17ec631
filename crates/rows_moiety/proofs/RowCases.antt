-- The cases of row 25's definition, each with the tests that lead to it.
-- Assumes nothing.
use mathlib.Core.Path.{◌≡◌}
use mathlib.Core.Bool.{true, false}
use mathlib.Core.List.{List}
use Prim.Native.Nat.{ℕ}
use Rattle.line_quotes.specs.Quoted.{text_of}
use Rattle.rows.specs.Rows.{row_of, missing}
use Rattle.formula_totals.specs.Compare.{compared_of}
use Rattle.rows_moiety.specs.MoietyRow.{totals_row, row25}

module _ (formula moiety : List ℕ) where
  pub no-formula : missing formula ≡ true → row25 formula moiety ≡ row_of 0 1
  unfolding row25
  no-formula p = simp p

  module _ (p : missing formula ≡ false) where
    pub no-moiety : missing moiety ≡ true → row25 formula moiety ≡ row_of 0 1
    unfolding row25
    no-moiety q = simp (p, q)

    pub compared : missing moiety ≡ false → row25 formula moiety ≡ totals_row (compared_of (text_of moiety) (text_of formula))
    unfolding row25
    compared q = simp (p, q)
