-- The kinds of values in document 01's words ("What the desk holds", "A line, a number").
-- Assumes nothing.
use Rattle.std.specs.Prelude.{ℕ, ◌≡◌, List, ℤ}
use Rattle.text.specs.Quote.{bytes}
use Rattle.number_decimal.specs.Grammar.{IsNumber}
use Rattle.line_values.specs.Wording.{QuotedText}
use Rattle.line_items.specs.Items.{item_row}
use Rattle.line_items.specs.declared.Kind.{Kind}
use Rattle.line_items.specs.declared.Kind.TheVariants.{Text, Number, Category}

-- "A bare ? or . is unassigned"
pub data Unassigned (v : List ℕ) : Type 0 where
  question : v ≡ bytes "?" → Unassigned v
  point : v ≡ bytes "." → Unassigned v

-- a value that is a number, whichever it denotes
pub record NumberText (v : List ℕ) : Type 0 where
  pub denoted : ℤ
  pub is_number : IsNumber v denoted

-- "FI, CI, FM, CM, FO or CO, .. capitals only"
pub data SixText (t : List ℕ) : Type 0 where
  fi : t ≡ bytes "FI" → SixText t
  ci : t ≡ bytes "CI" → SixText t
  fm : t ≡ bytes "FM" → SixText t
  cm : t ≡ bytes "CM" → SixText t
  fo : t ≡ bytes "FO" → SixText t
  co : t ≡ bytes "CO" → SixText t

-- "A category is FI, CI, FM, CM, FO or CO, bare or quoted"
pub data CategoryText (v : List ℕ) : Type 0 where
  bare : SixText v → CategoryText v
  quoted : (inside : List ℕ) → QuotedText v inside → SixText inside → CategoryText v

-- a value is of a kind: every value is text
abbrev pub OfKind : Kind → List ℕ → Type 0
OfKind Text v = Unit {0}
OfKind Number v = NumberText v
OfKind Category v = CategoryText v

-- a value passes the kind of an item: "unassigned, and passes every kind", or of the kind
pub data Passes (item : ℕ) (v : List ℕ) : Type 0 where
  unassigned : Unassigned v → Passes item v
  of_kind : OfKind (item_row item).kind v → Passes item v
