-- Lines of document 01's printed sample, and numbers in decimal.
-- Assumes nothing.
use mathlib.Core.Path.{◌≡◌, refl}
use mathlib.Core.List.{[], ◌∷◌}
use Rattle.text.specs.Quote.{bytes}
use Rattle.desk_state.specs.Sheets.{filled, empty_item}
use Rattle.number_decimal.specs.Digits.{last_digits}
use Rattle.program_printing.specs.Print.{decimal_text, line, row_names, row_line, printed_item}

pub row-6 : row_line 6 (record { level = 3; reason = 0 }) ≡ line (bytes "06 RFACG_01 B 0" ∷ [])
unfolding row_names last_digits
row-6 = refl

pub row-12 : row_line 12 (record { level = 2; reason = 1 }) ≡ line (bytes "12 REFLE_01 C 1" ∷ [])
unfolding row_names last_digits
row-12 = refl

-- document 02, No. 11
pub row-13 : row_line 13 (record { level = 2; reason = 1 }) ≡ line (bytes "13 R13 C 1" ∷ [])
unfolding row_names last_digits
row-13 = refl

pub item-4 : printed_item 4 (filled 0 1 1 (bytes "0.16")) ≡ line (bytes "ITEM 04 bench 0 entry 1 0.16" ∷ [])
unfolding printed_item last_digits
item-4 = refl

pub item-empty : printed_item 5 empty_item ≡ []
unfolding printed_item
item-empty = refl

pub decimals : decimal_text 0 ∷ decimal_text 10 ∷ decimal_text 255 ∷ decimal_text 18446744073709551615 ∷ []
    ≡ bytes "0" ∷ bytes "10" ∷ bytes "255" ∷ bytes "18446744073709551615" ∷ []
unfolding last_digits
decimals = refl
