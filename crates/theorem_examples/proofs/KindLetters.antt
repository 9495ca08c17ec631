-- The kinds of the items in one word, a letter for each item: t text, n number, c category. That it is the table of items is a test that antt computes.
-- Assumes nothing.
use mathlib.Core.Path.{◌≡◌}
use mathlib.Core.List.{List}
use Prim.Native.Nat.{ℕ, ◌+◌, ◌<◌}
use lib.ListN.{get_or}
use Rattle.text.specs.Quote.{bytes}
use Rattle.text.proofs.Tables.{entry}
use Rattle.line_items.specs.Items.{items, item_count, item_row}
use Rattle.line_items.specs.declared.Kind.{Kind}
use Rattle.line_items.specs.declared.Kind.TheVariants.{Text, Number, Category}

-- the letter of a kind
abbrev pub letter_of : Kind → ℕ
letter_of Text = 116
letter_of Number = 110
letter_of Category = 99

unfoldable pub letters : List ℕ
letters = bytes "tncnnnnnntnnnnnnnnt"

letter : ℕ → ℕ
letter k = letter_of (item_row (k + 1)).kind

pub letter_at : (k : ℕ) → k < item_count → get_or letters k 0 ≡ letter_of (item_row (k + 1)).kind
unfolding letter letters items
letter_at k h = entry letter 0 item_count k h
