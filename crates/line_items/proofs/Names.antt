-- A text is found as item k exactly when it is the name of item k but for the case of A to Z, and it names no other.
-- Assumes nothing.
use Rattle.std.specs.Prelude.{Option, Some, None}
use mathlib.Core.Path.{◌≡◌, refl, sym, ap, ◌∙◌}
use mathlib.Core.Bool.{Bool, true, false, cond}
use mathlib.Core.List.{List, [], ◌∷◌, map}
use Prim.Native.Nat.{ℕ, suc, ◌+◌, ◌-◌, ◌≤◌, ◌<◌}
use native.Mathlib.Numerals.{add-one}
use native.Mathlib.Omega.{arith}
use borrow.Author.Tests.{leb-true}
use lib.Dec.{leb}
use lib.ListN.{length, get_or, drop, replicate, get_or-replicate, get_or-map}
use lib.Seq.{drop-cons}
use Rattle.text.specs.Run.{all, between, other, has_at, kind_at}
use Rattle.text_equality.specs.Same.{lower, same_by, same_folded}
use Rattle.text_equality.proofs.Sames.{same→map, same-cong}
use Rattle.text.proofs.Tables.{agree}
use Rattle.line_items.specs.Items.{ItemRow, items, item_count, no_row, item_row, name_of, find_from, item_of, IsName}
use Rattle.line_items.specs.Typed.{is_typed}
use Rattle.line_items.proofs.NameTable.{name-of}

items-length : length items ≡ item_count
unfolding items
items-length = refl

-- the text s has the name of a row that counts k in the table rs, whose first row counts n
record There (rs : List ItemRow) (n : ℕ) (s : List ℕ) (k : ℕ) : Type 0 where
  from : n ≤ k
  below : k < n + length rs
  same : same_folded s (get_or rs (k - n) no_row).name ≡ true

-- what was found is there
found-by : (t : Bool) (r : ItemRow) (rs : List ItemRow) (n : ℕ) (s : List ℕ) (k : ℕ) → same_folded s r.name ≡ t
    → (find_from (suc n) rs s ≡ Some k → There rs (suc n) s k)
    → cond t (Some n) (find_from (suc n) rs s) ≡ Some k → There (r ∷ rs) n s k
found-by true r rs n s k e later q =
    let at : n ≡ k = cc in
    let first : k - n ≡ 0 = omega arith in
    record { from = omega arith; below = omega arith; same = ap (λ (j : ℕ). same_folded s (get_or (r ∷ rs) j no_row).name) first ∙ e }
found-by false r rs n s k e later q =
    let h = later q in
    let next : k - n ≡ suc (k - suc n) = omega arith in
    record { from = omega arith; below = omega arith; same = ap (λ (j : ℕ). same_folded s (get_or (r ∷ rs) j no_row).name) next ∙ h.same }

found : (rs : List ItemRow) (n : ℕ) (s : List ℕ) (k : ℕ) → find_from n rs s ≡ Some k → There rs n s k
unfolding find_from
found [] n s k q = let z : ◌≡◌ {A = ℕ} 0 1 = cc in absurd (omega arith)
found (r ∷ rs) n s k q = found-by (same_folded s r.name) r rs n s k refl (found rs (suc n) s k) q

-- the search from item k on
abbrev pub search_from : List ℕ → ℕ → Option ℕ
search_from s k = find_from k (drop (k - 1) items) s

pub search-turn : (s : List ℕ) (k : ℕ) → 1 ≤ k → k ≤ item_count → search_from s k ≡ cond (same_folded s (name_of k)) (Some k) (search_from s (k + 1))
unfolding find_from
search-turn s k some known =
    let within : k - 1 < length items = omega (arith, items-length) in
    let rest : suc (k - 1) ≡ k + 1 - 1 = omega arith in
    let name = ap (λ (n : List ℕ). same_folded s n) (name-of k some known) in
    rw (← rest, drop-cons items (k - 1) no_row within, name, add-one k) refl

pub search-end : (s : List ℕ) → search_from s (item_count + 1) ≡ None
unfolding items find_from
search-end s = refl

-- a text that is found as item k is its name
pub name-found : (s : List ℕ) (k : ℕ) → item_of s ≡ Some k → IsName s k
name-found s k q =
    let h = found items 1 s k q in
    record { first = h.from; last = omega (arith, items-length); same = same→map lower s (item_row k).name h.same }

-- the search sees a text only through its folding
find-cong : (rs : List ItemRow) (n : ℕ) (s t : List ℕ) → map lower s ≡ map lower t → find_from n rs s ≡ find_from n rs t
unfolding find_from
find-cong [] n s t e = refl
find-cong (r ∷ rs) n s t e = rw (same-cong lower s t r.name e, find-cong rs (suc n) s t e)

-- each name is found as itself: one test that antt computes
own-found : (j : ℕ) → j < item_count → item_of (get_or items j no_row).name ≡ Some (suc j)
unfolding items find_from same_by lower between
own-found = agree (λ (j : ℕ). item_of (get_or items j no_row).name) (λ (j : ℕ). Some (suc j)) None item_count refl

-- the name of item k is found as item k
pub found_name : (s : List ℕ) (k : ℕ) → IsName s k → item_of s ≡ Some k
found_name s k h =
    let at : suc (k - 1) ≡ k = omega arith in
    find-cong items 1 s (item_row k).name h.same ∙ own-found (k - 1) (omega arith) ∙ ap Some at

-- a text is never the name of two items
pub never-two : (s : List ℕ) (j k : ℕ) → IsName s j → IsName s k → j ≡ k
never-two s j k g h = cc (found_name s j g, found_name s k h)

-- a text that is not found is no item's name
pub unknown-name : (s : List ℕ) → item_of s ≡ None → (k : ℕ) → IsName s k → ⊥
unknown-name s e k h = let q = found_name s k h in let z : ◌≡◌ {A = ℕ} 0 1 = cc in omega arith

-- a test that holds in each row of the table holds at each item
holds_at : (f : ItemRow → Bool) → map f items ≡ replicate item_count true → (k : ℕ) → 1 ≤ k → k ≤ item_count → f (item_row k) ≡ true
holds_at f e k some known =
    let within : k - 1 < item_count = omega arith in
    sym (get_or-map f items (k - 1) no_row) ∙ ap (λ (l : List Bool). get_or l (k - 1) (f no_row)) e ∙ get_or-replicate item_count (k - 1) true (f no_row) within

-- the items' names are bytes that can be typed, `_` first, no spaces, two bytes at least
module _ (k : ℕ) (some : 1 ≤ k) (known : k ≤ item_count) where
  pub name_typed : all is_typed (item_row k).name ≡ true
  unfolding items all between
  name_typed = holds_at (λ (r : ItemRow). all is_typed r.name) refl k some known

  pub name-first : has_at (item_row k).name 0 95 ≡ true
  unfolding items has_at kind_at
  name-first = holds_at (λ (r : ItemRow). has_at r.name 0 95) refl k some known

  pub name-unspaced : all (other 32) (item_row k).name ≡ true
  unfolding items all other
  name-unspaced = holds_at (λ (r : ItemRow). all (other 32) r.name) refl k some known

  pub name-long : 2 ≤ length (item_row k).name
  unfolding items
  name-long = leb-true _ _ (holds_at (λ (r : ItemRow). leb 2 (length r.name)) refl k some known)
