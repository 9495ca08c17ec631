-- The printed report (document 01, "Measured examples", the program `desk`).
-- Assumes nothing.
use Rattle.std.specs.Prelude.{ℕ, ◌-◌, ◌/◌, ◌%◌, cond, Option, Some, None, List, [], ◌∷◌, ◌++◌, leb, eqb, length, get_or}
use Rattle.text.specs.Quote.{bytes}
use Rattle.text_copies.specs.Each.{lines_from}
use Rattle.number_decimal.specs.Digits.{digit, last_digits}
use Rattle.desk_state.specs.Sheets.{value_in}
use Rattle.desk_state.specs.Desks.{sheet_at}
use Rattle.desk_state.specs.declared.sheet.Item.{Item}
use Rattle.desk_state.specs.declared.desk.Desk.{Desk}
use Rattle.desk_memory.specs.Memory.{is_desk, desk_of}
use Rattle.rows.specs.Rows.{row_count}
use Rattle.rows.specs.declared.Row.{Row}
use Rattle.desk_questions.specs.Report.{reported_of}
use Rattle.program_printing.specs.Page.{decimal_most}

-- a number below 100 in two digits
abbrev pub two_digits : ℕ → List ℕ
two_digits n = digit (n / 10) ∷ digit (n % 10) ∷ []

-- a number in decimal; one of 64 bits has at most 20 digits
abbrev pub decimal_text : ℕ → List ℕ
decimal_text n = last_digits decimal_most n

-- a line: some texts one after the other, ended by byte 10
abbrev pub line : List (List ℕ) → List ℕ
line [] = 10 ∷ []
line (t ∷ ts) = t ++ line ts

-- the names of the rows; the first is row 1. Document 02, No. 11: "the new rows as R13 to R24", No. 12: "printed R25"
unfoldable pub row_names : List (List ℕ)
row_names =
    bytes "CHEMS_01s" ∷
    bytes "CHEMS_01o" ∷
    bytes "CHEMS_02" ∷
    bytes "CHEMW_01r" ∷
    bytes "CHEMW_01d" ∷
    bytes "RFACG_01" ∷
    bytes "RFACG_01g" ∷
    bytes "RFACR_01" ∷
    bytes "RFACR_01g" ∷
    bytes "SHFSU_01" ∷
    bytes "SHFSU_01g" ∷
    bytes "REFLE_01" ∷
    bytes "R13" ∷
    bytes "R14" ∷
    bytes "R15" ∷
    bytes "R16" ∷
    bytes "R17" ∷
    bytes "R18" ∷
    bytes "R19" ∷
    bytes "R20" ∷
    bytes "R21" ∷
    bytes "R22" ∷
    bytes "R23" ∷
    bytes "R24" ∷
    bytes "R25" ∷ []

abbrev pub row_name : ℕ → List ℕ
row_name k = get_or row_names (k - 1) []

-- "Level 0 none, 1 General, 2 C, 3 B, 4 A" in one letter; no row has another level
abbrev pub level_letter : ℕ → ℕ
level_letter level = get_or (bytes "-GCBA") level 63

-- `06 RFACG_01 B 0`: the row's number, its name, its level and its reason
abbrev pub row_line : ℕ → Row → List ℕ
row_line k r =
    line (two_digits k ∷ bytes " " ∷ row_name k ∷ bytes " " ∷ (level_letter r.level ∷ []) ∷ bytes " " ∷ decimal_text r.reason ∷ [])

-- `ITEM 04 bench 0 entry 1 0.16`: the item's number, its bench, its entry number and its value as typed
abbrev pub filled_line : ℕ → Item → List ℕ
filled_line k i = line (
    bytes "ITEM " ∷ two_digits k ∷ bytes " bench " ∷ decimal_text i.bench ∷ bytes " entry " ∷ decimal_text i.entry ∷ bytes " " ∷ value_in i ∷ [])

-- nothing for an empty item
unfoldable pub printed_item : ℕ → Item → List ℕ
printed_item k i = cond (eqb i.len 0) [] (filled_line k i)

-- the text of a sheet: a head with the number of rows, the rows of the report, the filled items; document 02, No. 11: "The program prints the single-crystal report"
unfoldable pub printed_of : Desk → ℕ → List ℕ
printed_of d sheet =
    line (bytes "REPORT " ∷ two_digits row_count ∷ []) ++ (lines_from row_line 1 (reported_of d sheet 0).rows.rows ++ lines_from printed_item 1 (sheet_at d sheet).items)

-- of the desk in lent memory; nothing for memory that is no desk
unfoldable pub printed_lent : List ℕ → List ℕ → ℕ → List ℕ
printed_lent t n sheet = cond (is_desk t n) (printed_of (desk_of t n) sheet) []

-- document 02, No. 9: "The program prints sheet 0 as before, then sheet 1 in the same form"
abbrev pub printed_sheets : List ℕ → List ℕ → List ℕ
printed_sheets t n = printed_lent t n 0 ++ printed_lent t n 1

-- what the printing of a text answers: how many bytes it is, or that `out` is shorter
unfoldable pub printed_in : List ℕ → List ℕ → Option ℕ
printed_in out t = cond (leb (length t) (length out)) (Some (length t)) None
