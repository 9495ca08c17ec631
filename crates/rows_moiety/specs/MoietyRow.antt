-- Row 25, of formula and moiety formula, by stages, as the code goes (document 02, No. 12). `Words` (proofs) shows that it is the request's wording.
-- Assumes nothing.
use Rattle.std.specs.Prelude.{ℕ, cond, ◌||◌, List}
use Rattle.line_quotes.specs.Quoted.{text_of}
use Rattle.rows.specs.Rows.{row_of, no_alert, missing}
use Rattle.rows.specs.declared.Row.{Row}
use Rattle.formula_totals.specs.Compare.{compared_of}
use Rattle.formula_totals.specs.declared.Compared.{Compared}
use Rattle.formula_totals.specs.declared.Compared.TheVariants.{Same, Differs, Unread}

-- "B when some element's total differs from the one in item 1, C with reason 2 when either can't be read"
abbrev pub totals_row : Compared → Row
totals_row Same = no_alert
totals_row Differs = row_of 3 0
totals_row Unread = row_of 2 2

-- "and, tested first, level 0 with reason 1 when either is missing"
unfoldable pub row25 : List ℕ → List ℕ → Row
row25 formula moiety = cond (missing formula || missing moiety) (row_of 0 1) (totals_row (compared_of (text_of moiety) (text_of formula)))
