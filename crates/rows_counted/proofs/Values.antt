-- The items that the table names, and their values in a sheet's block of memory.
-- Assumes nothing.
use mathlib.Core.Path.{◌≡◌, refl, sym, ap, ◌∙◌}
use mathlib.Core.Bool.{Bool, true, false, ◌&&◌}
use mathlib.Core.List.{List}
use Prim.Native.Nat.{ℕ, ◌+◌, ◌-◌, ◌≤◌, ◌<◌}
use native.Mathlib.Omega.{arith}
use borrow.Author.Tests.{leb-true}
use lib.Dec.{leb}
use Rattle.text.proofs.Bools.{and_both}
use Rattle.text.proofs.Tables.{agree}
use Rattle.line_items.specs.Items.{item_count, is_item}
use Rattle.desk_state.specs.Sheets.{value_in, value_at}
use Rattle.desk_memory.specs.Memory.{item_in, sheet_from}
use Rattle.desk_memory.proofs.Desks.{item-at}
use Rattle.rows_counts.specs.Counts.{rules, rule_of}
use Rattle.rows_counted.specs.Items.{of_items}

-- an item that is there has a place
pub place_of : (item : ℕ) → is_item item ≡ true → (1 ≤ item) × (item - 1 < item_count)
place_of item e =
    let h = and_both (leb 1 item) (leb item item_count) e in
    let some = leb-true 1 item h.0 in
    let known = leb-true item item_count h.1 in
    (some, omega arith)

-- what is read there is its value
pub value_read : (t n v : List ℕ) (item : ℕ) → is_item item ≡ true → v ≡ value_in (item_in t n (item - 1)) → v ≡ value_at (sheet_from t n) item
value_read t n v item h e = e ∙ sym (ap value_in (item-at t n (item - 1) (place_of item h).1))

-- each of three items that are there
pub three : (i a b : ℕ) → (is_item i && (is_item a && is_item b)) ≡ true → (is_item i ≡ true) × (is_item a ≡ true) × (is_item b ≡ true)
three i a b e =
    let h = and_both (is_item i) _ e in
    let g = and_both (is_item a) (is_item b) h.1 in
    (h.0, g.0, g.1)

-- the table names items that are there: one test that antt computes
in_table : (k : ℕ) → k < 12 → of_items (rule_of (13 + k)) ≡ true
unfolding rules rule_of
in_table = agree (λ (k : ℕ). of_items (rule_of (13 + k))) (λ (k : ℕ). true) true 12 refl

pub rule_items : (row : ℕ) → of_items (rule_of row) ≡ true
unfolding rule_of
rule_items row = go (leb 13 row) (leb row 24) refl refl
  where
    go : (a b : Bool) → leb 13 row ≡ a → leb row 24 ≡ b → of_items (rule_of row) ≡ true
    go false b e f = simp e
    go true false e f = simp (e, f)
    go true true e f =
        let first = leb-true 13 row e in
        let last = leb-true row 24 f in
        let at : 13 + (row - 13) ≡ row = omega arith in
        rw at at (in_table (row - 13) (omega arith))
