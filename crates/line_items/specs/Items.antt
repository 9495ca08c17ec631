-- The items, their names and kinds (document 01, "What the desk holds"; document 02, No. 11: "New number items 11 to 18", No. 12: "text item 19").
-- Assumes nothing.
use Rattle.std.specs.Prelude.{ℕ, suc, ◌-◌, ◌≤◌, ◌≡◌, Bool, cond, ◌&&◌, List, [], ◌∷◌, map, leb, get_or, Option, Some, None}
use Prim.Native.String.{String}
use Rattle.text.specs.Quote.{bytes}
use Rattle.text_equality.specs.Same.{lower, same_folded}
use Rattle.line_items.specs.declared.Kind.{Kind}
use Rattle.line_items.specs.declared.Kind.TheVariants.{Text, Number, Category}

-- a row of the table of items
pub record ItemRow : Type 0 where
  pub name : List ℕ
  pub kind : Kind

abbrev row : String → Kind → ItemRow
row name kind = record { name = bytes name; kind = kind }

-- the table of items; the first is item 1
unfoldable pub items : List ItemRow
items =
    row "_chemical_formula_sum" Text ∷
    row "_chemical_formula_weight" Number ∷
    row "_publ_requested_category" Category ∷
    row "_refine_ls_R_factor_gt" Number ∷
    row "_refine_ls_R_factor_obs" Number ∷
    row "_refine_ls_wR_factor_ref" Number ∷
    row "_refine_ls_wR_factor_obs" Number ∷
    row "_refine_ls_shift/su_max" Number ∷
    row "_refine_ls_shift/esd_max" Number ∷
    row "_reflns_threshold_expression" Text ∷
    row "_diffrn_reflns_number" Number ∷
    row "_reflns_number_total" Number ∷
    row "_reflns_number_gt" Number ∷
    row "_diffrn_reflns_av_R_equivalents" Number ∷
    row "_exptl_crystal_size_max" Number ∷
    row "_exptl_crystal_size_mid" Number ∷
    row "_exptl_crystal_size_min" Number ∷
    row "_diffrn_radiation_wavelength" Number ∷
    row "_chemical_formula_moiety" Text ∷ []

-- how many items there are
abbrev pub item_count : ℕ
item_count = 19

-- the longest name has so many bytes
abbrev pub name_most : ℕ
name_most = 31

-- no row of the table
abbrev pub no_row : ItemRow
no_row = record { name = []; kind = Text }

-- the row of an item
abbrev pub item_row : ℕ → ItemRow
item_row item = get_or items (item - 1) no_row

-- there is an item of that number
abbrev pub is_item : ℕ → Bool
is_item item = leb 1 item && leb item item_count

-- the name of an item; none for an item that is not there
unfoldable pub name_of : ℕ → List ℕ
name_of item = cond (is_item item) (item_row item).name []

-- "Names are compared without regard to the case of A to Z": the first row of the table with that name, counted from n
unfoldable pub find_from : ℕ → List ItemRow → List ℕ → Option ℕ
find_from n [] s = None
find_from n (r ∷ rs) s = cond (same_folded s r.name) (Some n) (find_from (suc n) rs s)

-- the item of a name
abbrev pub item_of : List ℕ → Option ℕ
item_of s = find_from 1 items s

-- the text s is the name of item k, "without regard to the case of A to Z"
pub record IsName (s : List ℕ) (k : ℕ) : Type 0 where
  pub first : 1 ≤ k
  pub last : k ≤ item_count
  pub same : map lower s ≡ map lower (item_row k).name
