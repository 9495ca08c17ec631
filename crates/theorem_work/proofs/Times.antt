-- How many entries name an item: what the item holds, and how many records of the log's bytes name it.
-- Assumes nothing.
use mathlib.Core.Path.{◌≡◌, refl, sym, ap, ap₂, ◌∙◌}
use mathlib.Core.Bool.{Bool, true, false, cond, ◌&&◌}
use mathlib.Core.List.{List, [], ◌∷◌, ◌++◌, append_assoc, append-nil}
use Prim.Native.Nat.{ℕ, zero, suc, ◌+◌, ◌-◌, ◌*◌, ◌≤◌, ◌<◌}
use native.Mathlib.Nat.{add-zero, add-suc, suc-add, zero-add}
use native.Mathlib.Omega.{arith}
use lib.Dec.{eqb}
use lib.ListN.{length, drop, length-append}
use lib.Seq.{drop_at}
use Rattle.desk_log.specs.Record.{record_length, record_most, record_of, length_told}
use Rattle.desk_log.proofs.Records.{record-length}
use Rattle.desk_state.specs.Desks.{bench_count, sheet_count, sheet_of_bench}
use Rattle.desk_entries.proofs.Camps.{sheet-in}
use Rattle.theorem_work.specs.Work.{Entry, records_of, on_sheet, entries_of, times_of, last_of}
use Rattle.theorem_work.specs.Logged.{naming_first, records_naming}

-- the number that an item holds
pub held-times : (es : List Entry) (item : ℕ) → (last_of es item).times ≡ times_of es item
held-times [] item = refl
held-times (e ∷ es) item = go (eqb item e.item) refl (held-times es item)
  where
    go : (b : Bool) → eqb item e.item ≡ b → (last_of es item).times ≡ times_of es item → (last_of (e ∷ es) item).times ≡ times_of (e ∷ es) item
    go true b r = rw b
    go false b r = rw b r

-- six bytes at least for each entry
pub six : (es : List Entry) → 6 * length es ≤ length (records_of es)
six [] = omega arith
six (e ∷ es) = let h = six es in simp length-append (omega arith)

-- the length of each entry's record has two bytes
abbrev pub Fitting : List Entry → Type 0
Fitting [] = Unit {0}
Fitting (e ∷ es) = (record_length e.value ≤ record_most) × Fitting es

-- one record, with bytes behind it
one-record : (n sheet item bench k : ℕ) (v xs : List ℕ) → record_length v ≤ record_most
    → naming_first (suc n) sheet item (record_of bench k v ++ xs)
    ≡ cond (on_sheet sheet bench && eqb item k) (suc (naming_first n sheet item xs)) (naming_first n sheet item xs)
unfolding length_told
one-record n sheet item bench k v xs h =
    let r = record_of bench k v in
    let told : length_told (r ++ xs) ≡ record_length v = omega arith in
    let rest : drop (length_told (r ++ xs)) (r ++ xs) ≡ xs = ap (λ m. drop m (r ++ xs)) told ∙ drop_at r xs (record_length v) (record-length bench k v) in
    ap (λ ys. cond (on_sheet sheet bench && eqb item k) (suc (naming_first n sheet item ys)) (naming_first n sheet item ys)) rest

-- the newest entry is counted after the others, if it is of the sheet
times_more : (sheet item : ℕ) (e : Entry) (es : List Entry) (m : ℕ)
    → times_of (entries_of sheet es) item + cond (on_sheet sheet e.bench && eqb item e.item) (suc m) m ≡ times_of (entries_of sheet (e ∷ es)) item + m
times_more sheet item e es m = go (on_sheet sheet e.bench) (eqb item e.item) refl refl
  where
    go : (x y : Bool) → on_sheet sheet e.bench ≡ x → eqb item e.item ≡ y
        → times_of (entries_of sheet es) item + cond (on_sheet sheet e.bench && eqb item e.item) (suc m) m ≡ times_of (entries_of sheet (e ∷ es)) item + m
    go true true p q = rw (p, q) (omega arith)
    go true false p q = rw (p, q)
    go false y p q = rw p

-- all records, with bytes behind them
naming-more : (sheet item : ℕ) (es : List Entry) (n : ℕ) (xs : List ℕ) → Fitting es
    → naming_first (length es + n) sheet item (records_of es ++ xs) ≡ times_of (entries_of sheet es) item + naming_first n sheet item xs
naming-more sheet item [] n xs f = ap (λ m. naming_first m sheet item xs) (zero-add n) ∙ sym (zero-add (naming_first n sheet item xs))
naming-more sheet item (e ∷ es) n xs f =
    let r = record_of e.bench e.item e.value in
    ap₂ (λ m ys. naming_first m sheet item ys) (suc-add (length es) n ∙ sym (add-suc (length es) n)) (append_assoc (records_of es) r xs)
    ∙ naming-more sheet item es (suc n) (r ++ xs) f.1
    ∙ ap (λ m. times_of (entries_of sheet es) item + m) (one-record n sheet item e.bench e.item e.value xs f.0)
    ∙ times_more sheet item e es (naming_first n sheet item xs)

naming-none : (n sheet item : ℕ) → naming_first n sheet item [] ≡ 0
naming-none zero sheet item = refl
naming-none (suc n) sheet item = refl

-- the sheet's records that name an item are as many as its entries that name it
pub records-naming : (sheet item : ℕ) (es : List Entry) → Fitting es → records_naming sheet item (records_of es) ≡ times_of (entries_of sheet es) item
records-naming sheet item es f =
    let n = length (records_of es) - length es in
    let m : length (records_of es) ≡ length es + n = omega (arith, six es) in
    ap₂ (λ k ys. naming_first k sheet item ys) m (sym (append-nil (records_of es)))
    ∙ naming-more sheet item es n [] f ∙ ap (λ k. times_of (entries_of sheet es) item + k) (naming-none n sheet item) ∙ add-zero (times_of (entries_of sheet es) item)

-- a log of three records, byte by byte: bench 0 named item 4, bench 1 item 6, bench 2 item 4 again
abbrev three-records : List ℕ
three-records =
    7 ∷ 0 ∷ 1 ∷ 0 ∷ 0 ∷ 4 ∷ 48 ∷
    7 ∷ 0 ∷ 1 ∷ 0 ∷ 1 ∷ 6 ∷ 49 ∷
    8 ∷ 0 ∷ 1 ∷ 0 ∷ 2 ∷ 4 ∷ 50 ∷ 51 ∷ []

-- bench 2 is of the other sheet: the two records of item 4 are of two sheets
pub named-in-three : (records_naming 0 4 three-records ≡ 1) × (records_naming 0 6 three-records ≡ 1) × (records_naming 0 1 three-records ≡ 0)
    × (records_naming 1 4 three-records ≡ 1) × (records_naming 1 6 three-records ≡ 0)
unfolding sheet_of_bench length_told
named-in-three = (refl, refl, refl, refl, refl)

-- ---- "the sum of both counts"

-- every entry is of a bench that is there
abbrev pub Benches : List Entry → Type 0
Benches [] = Unit {0}
Benches (e ∷ es) = (e.bench < bench_count) × Benches es

pub both-counts : (es : List Entry) → Benches es → length (entries_of 0 es) + length (entries_of 1 es) ≡ length es
both-counts [] h = refl
both-counts (e ∷ es) h = go (sheet_of_bench e.bench) refl (sheet-in e.bench h.0) (both-counts es h.1)
  where
    go : (s : ℕ) → sheet_of_bench e.bench ≡ s → s < sheet_count → length (entries_of 0 es) + length (entries_of 1 es) ≡ length es
        → length (entries_of 0 (e ∷ es)) + length (entries_of 1 (e ∷ es)) ≡ length (e ∷ es)
    go zero p l r = rw p (omega arith)
    go (suc zero) p l r = rw p (omega arith)
    go (suc (suc s)) p l r = absurd (omega arith)
