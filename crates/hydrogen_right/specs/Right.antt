-- When a count of hydrogen is right, and where the helper starts, in document 02's words (No. 13). `right_is` and `is_right` (proofs/Wording.antt) show
-- that the stages of the code are it. f is the formula's value, w the weight's, both as typed.
-- Assumes nothing.
use Rattle.std.specs.Option.{is_some}
use Rattle.std.specs.Prelude.{ℕ, ◌≤◌, ◌≡◌, Bool, true, false, List, length, Option, Some, None}
use Rattle.text.specs.Run.{all}
use Rattle.line_quotes.specs.Quoted.{text_of}
use Rattle.formula_elements.specs.Elements.{weight_of}
use Rattle.formula_terms.specs.Terms.{cut, terms_of}
use Rattle.formula_terms.specs.declared.term.Term.{Term}
use Rattle.rows.specs.Rows.{missing}
use Rattle.rows_formula.specs.FormulaRows.{row1, row2}
use Rattle.rows_weight.specs.WeightRows.{row4}
use Rattle.hydrogen_text.specs.Hydrogens.{most_hydrogens, most_text_bytes, hydrogen_terms, hydrogen_words, other_words, in_quotes}

-- "Right means: count 0 to 9999 (0 drops the term, 1 is written H), all other terms kept in order, text of at most 176 bytes, and rows 1, 2 and 4 at level
-- 0 for the given weight." The rows look at the new text as it is typed, in quotes. Where the formula has no H, row 2 leaves the new term one place
-- (`one-text`). A formula that is left with no term has no text: its empty text is one empty term.
pub record Right (f w : List ℕ) (n : ℕ) : Type 0 where
  pub count : n ≤ most_hydrogens
  pub text : List ℕ
  pub hydrogens : hydrogen_words (cut text) ≡ hydrogen_terms n
  pub others : other_words (cut text) ≡ other_words (cut (text_of f))
  pub short : length text ≤ most_text_bytes
  pub row_1 : (row1 (in_quotes text)).level ≡ 0
  pub row_2 : (row2 (in_quotes text)).level ≡ 0
  pub row_4 : (row4 (in_quotes text) w).level ≡ 0

-- the symbol of a term has a weight
abbrev pub has_weight : Option Term → Bool
has_weight (Some t) = is_some (weight_of t.symbol.first t.symbol.second)
has_weight None = false

-- "symbols all have weights"
unfoldable pub all_weighed : List ℕ → Bool
all_weighed s = all has_weight (terms_of s)

-- "It starts from a formula whose rows 1 and 2 are at 0 and whose symbols all have weights, with a weight assigned."
pub record Start (f w : List ℕ) : Type 0 where
  pub row_1 : (row1 f).level ≡ 0
  pub row_2 : (row2 f).level ≡ 0
  pub symbols : all_weighed (text_of f) ≡ true
  pub weight : missing w ≡ false
