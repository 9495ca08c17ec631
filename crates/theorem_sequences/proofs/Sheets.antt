-- The sheets of some entries, as a desk holds them (document 02, No. 9): what each holds, and one entry more.
-- Assumes nothing.
use mathlib.Core.Path.{◌≡◌, refl, sym, ap, ap₂, ◌∙◌}
use mathlib.Core.Bool.{Bool, true, false}
use mathlib.Core.List.{List, [], ◌∷◌}
use Prim.Native.Nat.{ℕ, zero, suc, ◌+◌, ◌-◌, ◌≤◌, ◌<◌}
use native.Mathlib.Nat.{add-zero, add-suc, suc-add}
use native.Mathlib.Numerals.{add-one}
use native.Mathlib.Omega.{arith}
use borrow.Author.Tests.{ne_eqb, eq-eqb}
use lib.Dec.{eqb}
use lib.ListN.{length, get_or, set}
use Rattle.line_items.specs.Items.{item_count}
use Rattle.desk_state.specs.Sheets.{filled, no_item, item_at}
use Rattle.desk_state.specs.Desks.{bench_count, sheet_count, sheet_of_bench, no_sheet}
use Rattle.desk_state.specs.declared.sheet.Item.{Item}
use Rattle.desk_state.specs.declared.sheet.Sheet.{Sheet}
use Rattle.desk_entries.specs.Entry.{with_entry}
use Rattle.theorem_work.specs.Work.{Entry, on_sheet, entries_of, times_of, last_of, items_from, sheet_of}
use Rattle.desk_entries.proofs.Camps.{sheet-in}
use Rattle.theorem_work.proofs.Times.{held-times}

-- ---- one sheet

items-same : (n k : ℕ) (f g : ℕ → Item) → ((i : ℕ) → k ≤ i → f i ≡ g i) → items_from f k n ≡ items_from g k n
items-same zero k f g h = refl
items-same (suc n) k f g h = ap₂ (λ x xs. x ∷ xs) (h k (omega arith)) (items-same n (suc k) f g (λ i p. h i (omega arith)))

items-set : (n k j : ℕ) (f g : ℕ → Item) → ((i : ℕ) → (i ≡ k + j → ⊥) → f i ≡ g i) → set (items_from f k n) j (g (k + j)) ≡ items_from g k n
items-set zero k j f g h = refl
items-set (suc n) k zero f g h = ap₂ (λ x xs. x ∷ xs) (ap g (add-zero k)) (items-same n (suc k) f g (λ i p. h i (omega arith)))
items-set (suc n) k (suc j) f g h =
    ap₂ (λ x xs. x ∷ xs) (h k (omega arith))
    (ap (λ m. set (items_from f (suc k) n) j (g m)) (add-suc k j ∙ sym (suc-add k j))
    ∙ items-set n (suc k) j f g (λ i p. h i (λ q. p (omega arith))))

items_at : (n k j : ℕ) (f : ℕ → Item) → j < n → get_or (items_from f k n) j no_item ≡ f (k + j)
items_at zero k j f h = absurd (let z : j < 0 = h in omega arith)
items_at (suc n) k zero f h = ap f (sym (add-zero k))
items_at (suc n) k (suc j) f h = items_at n (suc k) j f (omega arith) ∙ ap f (suc-add k j ∙ sym (add-suc k j))

-- a sheet of entries holds, at each item, the last that names it
pub item-at : (es : List Entry) (k : ℕ) → 1 ≤ k → k ≤ item_count → item_at (sheet_of es) k ≡ last_of es k
item-at es k some known = items_at item_count 1 (k - 1) (last_of es) (omega arith) ∙ ap (last_of es) (let e : 1 + (k - 1) ≡ k = omega arith in e)

items_more : (e : Entry) (es : List Entry) → 1 ≤ e.item → e.item ≤ item_count
    → set (sheet_of es).items (e.item - 1) (filled e.bench (length es + 1) ((item_at (sheet_of es) e.item).times + 1) e.value) ≡ (sheet_of (e ∷ es)).items
items_more e es some known =
    let held : (item_at (sheet_of es) e.item).times ≡ times_of es e.item = ap (λ (i : Item). i.times) (item-at es e.item some known) ∙ held-times es e.item in
    let new : ℕ → Item = λ n. filled e.bench (length es + 1) n e.value in
    let at : 1 + (e.item - 1) ≡ e.item = omega arith in
    let other : (i : ℕ) → (i ≡ 1 + (e.item - 1) → ⊥) → last_of es i ≡ last_of (e ∷ es) i = λ i n. rw (ne_eqb i e.item (λ p. n (omega arith))) in
    let here : new (times_of es e.item + 1) ≡ last_of (e ∷ es) (1 + (e.item - 1))
    = rw (at, eq-eqb e.item e.item refl, add-one (length es), add-one (times_of es e.item)) in
    ap (λ m. set (sheet_of es).items (e.item - 1) (new (m + 1))) held ∙ ap (λ x. set (sheet_of es).items (e.item - 1) x) here ∙ items-set item_count 1 (e.item - 1) (last_of es) (last_of (e ∷ es)) other

sheet-eq : {is js : List Item} {n m : ℕ} → is ≡ js → n ≡ m → ◌≡◌ {A = Sheet} (record { items = is; count = n }) (record { items = js; count = m })
sheet-eq p q = cc

-- one entry more
sheet-more : (e : Entry) (es : List Entry) → 1 ≤ e.item → e.item ≤ item_count → with_entry (sheet_of es) e.bench e.item e.value ≡ sheet_of (e ∷ es)
sheet-more e es some known = sheet-eq (items_more e es some known) (add-one (length es))

-- ---- all sheets

-- the sheets of the entries of all benches, each of its own benches' entries
abbrev pub sheets_of : List Entry → List Sheet
sheets_of es = sheet_of (entries_of 0 es) ∷ sheet_of (entries_of 1 es) ∷ []

pub sheet-at : (es : List Entry) (s : ℕ) → s < sheet_count → get_or (sheets_of es) s no_sheet ≡ sheet_of (entries_of s es)
sheet-at es zero h = refl
sheet-at es (suc zero) h = refl
sheet-at es (suc (suc s)) h = absurd (omega arith)

-- one entry more is on its bench's sheet, and on no other
pub sheets-more : (e : Entry) (es : List Entry) → e.bench < bench_count → 1 ≤ e.item → e.item ≤ item_count
    → set (sheets_of es) (sheet_of_bench e.bench) (with_entry (get_or (sheets_of es) (sheet_of_bench e.bench) no_sheet) e.bench e.item e.value) ≡ sheets_of (e ∷ es)
sheets-more e es b some known = go (sheet_of_bench e.bench) refl (sheet-in e.bench b)
  where
    go : (s : ℕ) → sheet_of_bench e.bench ≡ s → s < sheet_count
        → set (sheets_of es) s (with_entry (get_or (sheets_of es) s no_sheet) e.bench e.item e.value) ≡ sheets_of (e ∷ es)
    go zero p h = rw p (ap (λ (x : Sheet). x ∷ sheet_of (entries_of 1 es) ∷ []) (sheet-more e (entries_of 0 es) some known))
    go (suc zero) p h = rw p (ap (λ (x : Sheet). sheet_of (entries_of 0 es) ∷ x ∷ []) (sheet-more e (entries_of 1 es) some known))
    go (suc (suc s)) p h = absurd (omega arith)
