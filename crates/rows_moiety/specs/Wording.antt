-- Row 25 in the words of document 02, No. 12, with no stages. Item 1 is the formula, item 19 the moiety formula, both as typed.
-- Assumes nothing.
use Rattle.std.specs.Prelude.{ℕ, ◌≡◌, true, false, List}
use Rattle.line_quotes.specs.Quoted.{text_of}
use Rattle.rows.specs.Rows.{row_of, no_alert, missing}
use Rattle.rows.specs.declared.Row.{Row}
use Rattle.rows_formula.specs.FormulaRows.{row1}
use Rattle.formula_moiety.specs.Grammar.{Moiety, IsText}
use Rattle.formula_moiety.specs.Wording.{SomeDiffers, EachSame, NoMoieties}

-- "row 1 at A"
abbrev pub AtA : List ℕ → Type 0
AtA formula = row1 formula ≡ row_of 4 0

-- neither is missing
abbrev pub BothThere : List ℕ → List ℕ → Type 0
BothThere formula moiety = (missing formula ≡ false) × (missing moiety ≡ false)

-- both can be read, the moiety formula as m and ms
pub record Read (formula moiety : List ℕ) (m : Moiety) (ms : List Moiety) : Type 0 where
  pub both : BothThere formula moiety
  pub formula_read : AtA formula → ⊥
  pub moiety_read : IsText (text_of moiety) m ms

-- "A new last row, printed R25, is B when some element's total differs from the one in item 1, C with reason 2 when either can't be read (for item 1: row 1 at A), and, tested first, level 0 with reason 1 when either is missing."
pub data Row25 (formula moiety : List ℕ) : Row → Type 0 where
  formula_missing : missing formula ≡ true → Row25 formula moiety (row_of 0 1)
  moiety_missing : missing moiety ≡ true → Row25 formula moiety (row_of 0 1)
  formula_unread : BothThere formula moiety → AtA formula → Row25 formula moiety (row_of 2 2)
  moiety_unread : BothThere formula moiety → NoMoieties (text_of moiety) → Row25 formula moiety (row_of 2 2)
  total_differs : {m : Moiety} {ms : List Moiety} → Read formula moiety m ms → SomeDiffers m ms (text_of formula) → Row25 formula moiety (row_of 3 0)
  totals_same : {m : Moiety} {ms : List Moiety} → Read formula moiety m ms → EachSame m ms (text_of formula) → Row25 formula moiety no_alert
