-- The code's table of names, which is indexed by the item's number. That it is the table of items antt computes, all of it at once.
-- Assumes nothing.
use mathlib.Core.Path.{◌≡◌, refl, sym, ap, ◌∙◌}
use mathlib.Core.List.{List, [], map}
use Prim.Native.Nat.{ℕ, zero, suc, ◌+◌, ◌-◌, ◌≤◌, ◌<◌}
use native.Mathlib.Omega.{arith}
use borrow.Author.Tests.{le-leb, lt-leb}
use Rattle.text.proofs.Tables.{nowhere-above}
use Rattle.text.proofs.Arms.{Others, past}
use lib.ListN as L
use lib.ListN.{length, get_or}
use denote.Bor.{Bor}
use Rattle.std.proofs.lemmas.List.{get_or-map}
use Rattle.line_items.specs.Items.{ItemRow, items, item_count, name_most, no_row, item_row, name_of}

-- what an arm makes of the name of its item is made of the name of the item that is asked for
pub arm : {A : Type 0} (f : List ℕ → A) {item k : ℕ} {r : A} → item ≡ k → r ≡ f (name_of k) → r ≡ f (name_of item)
arm f e h = h ∙ sym (ap (λ (k : ℕ). f (name_of k)) e)

pub name-short : (item : ℕ) → item ≤ item_count → length (name_of item) ≤ name_most
unfolding items name_of
name-short item known = nowhere-above (λ (k : ℕ). length (name_of k)) (λ (k : ℕ). name_most) (item_count + 1) refl item (omega arith)

pub name-of : (item : ℕ) → 1 ≤ item → item ≤ item_count → name_of item ≡ (item_row item).name
unfolding name_of
name-of item some known = simp (le-leb 1 item some, le-leb item item_count known)

-- at an item's place the list of the names has its name
pub listed-name : (d : List ℕ) (item : ℕ) → 1 ≤ item → item ≤ item_count → get_or (map (λ (r : ItemRow). r.name) items) (item - 1) d ≡ name_of item
unfolding items
listed-name d item some known = get_or-map (λ (r : ItemRow). r.name) items (item - 1) no_row d (omega arith) ∙ sym (name-of item some known)

-- a text that is lent from a list of lent texts
pub lent-from : (l : List (Bor (List ℕ))) (i : ℕ) (d : Bor (List ℕ)) → (get_or l i d).now ≡ get_or (map (λ (b : Bor (List ℕ)). b.now) l) i d.now
lent-from l i d = sym (L.get_or-map (λ (b : Bor (List ℕ)). b.now) l i d)

-- below the first item and above the last there is no name
pub none_below : (item : ℕ) → item < 1 → name_of item ≡ []
unfolding name_of
none_below item h = simp (lt-leb 1 item h)

pub none_above : (item : ℕ) → item_count < item → name_of item ≡ []
unfolding name_of
none_above item h = let some : 1 ≤ item = omega arith in simp (le-leb 1 item some, lt-leb item item_count h)

pub none_outside : (item : ℕ) → (1 ≤ item → item_count < item) → name_of item ≡ []
none_outside zero h = none_below zero (omega arith)
none_outside (suc j) h = none_above (suc j) (h (omega arith))

-- where no arm was taken there is no name
pub no_name : (item : ℕ) → Others item 1 item_count → name_of item ≡ []
no_name item none = none_outside item (λ (some : 1 ≤ item). past item 1 item_count some none)
