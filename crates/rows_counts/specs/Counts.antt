-- Rows 13 to 24 (document 02, No. 11): a table of rules on items, and the row that each earns. `Wording` says the request's words.
-- A text stands here as typed; that of an empty item is the empty text. No unassigned and no empty text is a number; a text that is neither of them nor a
-- number, which no sound sheet holds, counts where it is compared as a missing one.
-- Assumes nothing.
use Rattle.std.specs.Prelude.{ℕ, ◌-◌, Bool, cond, not, ◌&&◌, ◌||◌, List, [], ◌∷◌, map, leb, eqb, get_or, ℤ, Option, Some, None}
use Rattle.std.specs.Option.{is_some}
use Rattle.std.specs.declared.cmp.Ordering.{Ordering}
use Rattle.std.specs.Ordering.{int_cmp, is_eq, is_ne, is_gt, is_some_and}
use Rattle.text.specs.Quote.{bytes}
use Rattle.number_decimal.specs.Reading.{reading_of}
use Rattle.rows.specs.Rows.{powder, row_of, no_alert, missing}
use Rattle.rows.specs.declared.Row.{Row}
use Rattle.rows_counts.specs.declared.Rule.{Rule}
use Rattle.rows_counts.specs.declared.Rule.TheVariants.{Present, PresentIfDiffer, ZeroIfAgree, NotAbove, Rising}

-- the rules, by the items that they look at; the first is that of row 13
unfoldable pub rules : List Rule
rules =
    -- "13 to 19 items 11 to 13 and 15 to 18 present in turn"
    Present 11 ∷
    Present 12 ∷
    Present 13 ∷
    Present 15 ∷
    Present 16 ∷
    Present 17 ∷
    Present 18 ∷
    -- 20: "item 14 must be present if total and gt differ"
    PresentIfDiffer 14 12 13 ∷
    -- 21: "and be zero if present when they agree"
    ZeroIfAgree 14 12 13 ∷
    -- 22: "total is not above 11"
    NotAbove 12 11 ∷
    -- 23: "nor below 13"
    NotAbove 13 12 ∷
    -- 24: "sizes run min, mid, max without falling"
    Rising 17 16 15 ∷ []

-- rows 13 to 24
abbrev pub is_counted : ℕ → Bool
is_counted row = leb 13 row && leb row 24

-- the rule of a row; none for the rows that are not of the table
unfoldable pub rule_of : ℕ → Option Rule
rule_of row = cond (is_counted row) (get_or (map Some rules) (row - 13) None) None

-- "For powder rows 13 to 18, 20 and 21 are level 0, reason 0": the rows that a profile keeps
unfoldable pub keeps : ℕ → ℕ → Bool
keeps profile row = not (eqb profile powder && ((leb 13 row && leb row 18) || (leb 20 row && leb row 21)))

-- how two numbers stand, exactly and without their uncertainty, where both are there
abbrev pub order_by : Option ℤ → Option ℤ → Option Ordering
order_by (Some x) (Some y) = Some (int_cmp x y)
order_by (Some x) None = None
order_by None r = None

unfoldable pub order_of : List ℕ → List ℕ → Option Ordering
order_of v w = order_by (reading_of v) (reading_of w)

-- "house level C (reason 1 in 13 to 19, else 0)"
abbrev pub present_row : List ℕ → Row
present_row v = cond (missing v) (row_of 2 1) no_alert

-- "a missing item that the rule compares gives level 0, reason 1"; else C if the rule is broken
abbrev pub compared_row : Bool → Bool → Row
compared_row known broken = cond known (cond broken (row_of 2 0) no_alert) (row_of 0 1)

-- "in 20 that is total or gt": the first is present if the others differ
abbrev pub differ_row : List ℕ → List ℕ → List ℕ → Row
differ_row v a b = compared_row (is_some (order_of a b)) (is_some_and is_ne (order_of a b) && missing v)

-- "in 21 item 14 too": the first is zero if the others agree
abbrev pub agree_row : List ℕ → List ℕ → List ℕ → Row
agree_row v a b = compared_row (is_some (order_of v (bytes "0")) && is_some (order_of a b)) (is_some_and is_eq (order_of a b) && is_some_and is_ne (order_of v (bytes "0")))

abbrev pub above_row : List ℕ → List ℕ → Row
above_row a b = compared_row (is_some (order_of a b)) (is_some_and is_gt (order_of a b))

abbrev pub rising_row : List ℕ → List ℕ → List ℕ → Row
rising_row a b c = compared_row (is_some (order_of a b) && is_some (order_of b c)) (is_some_and is_gt (order_of a b) || is_some_and is_gt (order_of b c))

-- the row of a rule, of the items' texts
abbrev pub rule_row : (ℕ → List ℕ) → Option Rule → Row
rule_row at (Some (Present i)) = present_row (at i)
rule_row at (Some (PresentIfDiffer i a b)) = differ_row (at i) (at a) (at b)
rule_row at (Some (ZeroIfAgree i a b)) = agree_row (at i) (at a) (at b)
rule_row at (Some (NotAbove a b)) = above_row (at a) (at b)
rule_row at (Some (Rising a b c)) = rising_row (at a) (at b) (at c)
rule_row at None = no_alert

-- a row from 13 to 24 in a profile
unfoldable pub count_row : ℕ → (ℕ → List ℕ) → ℕ → Row
count_row profile at row = cond (keeps profile row) (rule_row at (rule_of row)) no_alert

-- rows 13 to 24, in order
abbrev pub count_rows : ℕ → (ℕ → List ℕ) → List Row
count_rows profile at =
    count_row profile at 13 ∷
    count_row profile at 14 ∷
    count_row profile at 15 ∷
    count_row profile at 16 ∷
    count_row profile at 17 ∷
    count_row profile at 18 ∷
    count_row profile at 19 ∷
    count_row profile at 20 ∷
    count_row profile at 21 ∷
    count_row profile at 22 ∷
    count_row profile at 23 ∷
    count_row profile at 24 ∷ []
