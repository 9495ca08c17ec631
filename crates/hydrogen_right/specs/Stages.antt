-- The start and a right count by tests, as the code goes (document 02, No. 13). `Wording` (proofs) shows that they are the document's words.
-- Assumes nothing.
use Rattle.std.specs.Prelude.{ℕ, Bool, ◌&&◌, not, List, leb, eqb, length}
use Rattle.line_quotes.specs.Quoted.{text_of}
use Rattle.rows.specs.Rows.{missing}
use Rattle.rows_formula.specs.FormulaRows.{row1, row2}
use Rattle.rows_weight.specs.WeightRows.{row4}
use Rattle.hydrogen_text.specs.Hydrogens.{most_hydrogens, most_text_bytes, in_quotes}
use Rattle.hydrogen_text.specs.NewText.{new_text}
use Rattle.hydrogen_right.specs.Right.{all_weighed}

-- the start is as said
unfoldable pub is_start : List ℕ → List ℕ → Bool
is_start f w = eqb (row1 f).level 0 && (eqb (row2 f).level 0 && (all_weighed (text_of f) && not (missing w)))

-- rows 1, 2 and 4 of a formula's value are at level 0
unfoldable pub rows_pass : List ℕ → List ℕ → Bool
rows_pass v w = eqb (row1 v).level 0 && (eqb (row2 v).level 0 && eqb (row4 v w).level 0)

-- the count n is right
unfoldable pub is_right : List ℕ → List ℕ → ℕ → Bool
is_right f w n =
    leb n most_hydrogens && (leb (length (new_text n (text_of f))) most_text_bytes && rows_pass (in_quotes (new_text n (text_of f))) w)
