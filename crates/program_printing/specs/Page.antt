-- A text under way: what is written on a page, and pages with a text more.
-- Assumes nothing.
use Rattle.std.specs.Prelude.{ℕ, ◌+◌, ◌*◌, ◌≡◌, List, ◌++◌, length, take}
use Rattle.line_items.specs.Typed.{line_most}
use Rattle.line_items.specs.Items.{item_count}
use Rattle.rows.specs.Rows.{row_count}
use Rattle.program_printing.specs.declared.page.Page.{Page}

-- the most that is added by the head, a row's name, a number, the line of a row and the line of a filled item
abbrev pub head_most : ℕ
head_most = 10

abbrev pub row_name_most : ℕ
row_name_most = 9

abbrev pub decimal_most : ℕ
decimal_most = 20

abbrev pub row_line_most : ℕ
row_line_most = 7 + row_name_most + decimal_most

abbrev pub printed_item_most : ℕ
printed_item_most = 23 + decimal_most + decimal_most + line_most

-- the longest text of a page: the head, all rows and all items
abbrev pub page_most : ℕ
page_most = head_most + row_line_most * row_count + printed_item_most * item_count

-- what is written on a page
abbrev pub page_text : Page → List ℕ
page_text p = take p.len p.bytes

-- the page r has what p has, and then t
pub record Adds (p : Page) (t : List ℕ) (r : Page) : Type 0 where
  pub text : page_text r ≡ page_text p ++ t
  pub size : r.len ≡ p.len + length t
