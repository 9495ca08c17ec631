-- Owners (document 02, No. 8): the number by tests says what specs/Owning.antt says, and where each entry was its bench's to make an item's bench is its owner.
-- Assumes nothing.
use Rattle.line_reader.specs.Line.{entry_at}
use mathlib.Core.Path.{◌≡◌, refl, sym, ap, ◌∙◌, subst}
use mathlib.Core.Bool.{Bool, true, false, cond, false≢true}
use mathlib.Core.Logic.{◌↔◌}
use mathlib.Core.List.{List, [], ◌∷◌, ◌++◌}
use Prim.Native.Nat.{ℕ, suc, ◌≤◌}
use native.Mathlib.Omega.{arith}
use borrow.Author.Tests.{eqb-true, eqb-false, eq-eqb, ne_eqb}
use lib.Dec.{eqb}
use Rattle.desk_state.specs.Sheets.{empty_item}
use Rattle.desk_state.specs.Desks.{sheet_of_bench}
use Rattle.theorem_work.specs.Work.{Entry, Work, typed_by, on_sheet, entries_of, times_of, last_of, owner_of, may_write, accepts, with_entry_of, key_answer, key_work}
use Rattle.theorem_work.specs.Owning.{Owns, OwnedByAnother, AllOf}
use Rattle.theorem_work.proofs.EntryWords.{enter-accepts, accepted-only}

-- ---- the owner by tests

-- of an item that no entry names, the bench that asks
none-owns : (es : List Entry) (item bench : ℕ) → times_of es item ≡ 0 → owner_of es item bench ≡ bench
none-owns [] item bench h = refl
none-owns (e ∷ es) item bench h = go (none-owns es item bench) (eqb item e.item) refl
  where
    go : (times_of es item ≡ 0 → owner_of es item bench ≡ bench) → (b : Bool) → eqb item e.item ≡ b → owner_of (e ∷ es) item bench ≡ bench
    go ih true b = let z : suc (times_of es item) ≡ 0 = rw b at h in absurd (omega arith)
    go ih false b = ap (λ c. owner_of es item (cond c e.bench bench)) b ∙ ih (rw b at h)

first-owns : (later : List Entry) (first : Entry) (before : List Entry) (item x : ℕ) → first.item ≡ item → times_of before item ≡ 0
    → owner_of (later ++ (first ∷ before)) item x ≡ first.bench
first-owns [] first before item x n z = ap (λ b. owner_of before item (cond b first.bench x)) (eq-eqb item first.item (sym n)) ∙ none-owns before item first.bench z
first-owns (l ∷ later) first before item x n z = first-owns later first before item (cond (eqb item l.item) l.bench x) n z

-- whoever asks
pub owner-is : {es : List Entry} {item bench : ℕ} → Owns es item bench → (x : ℕ) → owner_of es item x ≡ bench
owner-is {es} {item} o x = ap (λ fs. owner_of fs item x) o.parts ∙ first-owns o.later o.first o.before item x o.names o.none_before ∙ o.of_bench

-- so an item has at most one owner
pub one-owns : {es : List Entry} {item a b : ℕ} → Owns es item a → Owns es item b → a ≡ b
one-owns o p = sym (owner-is o 0) ∙ owner-is p 0

-- no entry names the item, or one is the first
pub data Named (es : List Entry) (item : ℕ) : Type 0 where
  unnamed : times_of es item ≡ 0 → Named es item
  owned : (bench : ℕ) → Owns es item bench → Named es item

pub named : (es : List Entry) (item : ℕ) → Named es item
named [] item = unnamed refl
named (e ∷ es) item = go (eqb item e.item) refl (named es item)
  where
    go : (b : Bool) → eqb item e.item ≡ b → Named es item → Named (e ∷ es) item
    go b q (owned bench o) = owned bench (record {
      later = e ∷ o.later;
      first = o.first;
      before = o.before;
      parts = ap (λ fs. e ∷ fs) o.parts;
      names = o.names;
      of_bench = o.of_bench;
      none_before = o.none_before;
    })
    go true q (unnamed z) = owned e.bench (record {
      later = [];
      first = e;
      before = es;
      parts = refl;
      names = sym (eqb-true item e.item q);
      of_bench = refl;
      none_before = z;
    })
    go false q (unnamed z) = unnamed (rw q z)

-- the test in the document's words
pub may-so : (es : List Entry) (bench item : ℕ) → (may_write es item bench ≡ false) ↔ OwnedByAnother es bench item
may-so es bench item = (by-test (named es item), λ h. ne_eqb (owner_of es item bench) bench (λ q. h.other (sym (owner-is h.owns bench) ∙ q)))
  where
    by-test : Named es item → may_write es item bench ≡ false → OwnedByAnother es bench item
    by-test (unnamed z) e = absurd (false≢true (sym e ∙ eq-eqb (owner_of es item bench) bench (none-owns es item bench z)))
    by-test (owned b o) e = record { owner = b; owns = o; other = λ q. eqb-false (owner_of es item bench) bench e (owner-is o bench ∙ q) }

-- ---- entries that were their bench's to make

abbrev pub Rightful : List Entry → Type 0
Rightful [] = Unit {0}
Rightful (e ∷ es) = (may_write es e.item e.bench ≡ true) × Rightful es

pub all_of : (es : List Entry) → Rightful es → (item x : ℕ) → AllOf es item (owner_of es item x)
all_of [] h item x = tt
all_of (e ∷ es) h item x = (own, all_of es h.1 item (cond (eqb item e.item) e.bench x))
  where
    own : e.item ≡ item → e.bench ≡ owner_of (e ∷ es) item x
    own q = rw (eq-eqb item e.item (sym q)) (sym (rw q at (eqb-true (owner_of es e.item e.bench) e.bench h.0)))

-- on every sheet
abbrev pub AllRightful : List Entry → Type 0
AllRightful es = (sheet : ℕ) → Rightful (entries_of sheet es)

-- an accepted Enter is one that its bench may make
new-rightful : (sheet bench : ℕ) (t : List ℕ) (es : List Entry) (item start : ℕ) → may_write (entries_of (sheet_of_bench bench) es) item bench ≡ true
    → Rightful (entries_of sheet es) → Rightful (entries_of sheet (with_entry_of (entry_at item start) bench t es))
new-rightful sheet bench t es item start m h = go (on_sheet sheet bench) refl
  where
    go : (x : Bool) → on_sheet sheet bench ≡ x → Rightful (entries_of sheet (with_entry_of (entry_at item start) bench t es))
    go true x = rw x (rw (eqb-true (sheet_of_bench bench) sheet x) at m, h)
    go false x = rw x h

pub key-rightful : (len : ℕ) (w : Work) (bench byte : ℕ) → AllRightful w.entries → AllRightful (key_work (key_answer len w bench byte) bench byte w).entries
key-rightful len w bench byte h sheet = go (accepts (key_answer len w bench byte)) (eqb byte 10) refl refl
  where
    go : (x y : Bool) → accepts (key_answer len w bench byte) ≡ x → eqb byte 10 ≡ y → Rightful (entries_of sheet (key_work (key_answer len w bench byte) bench byte w).entries)
    go false y p q = rw p (h sheet)
    go true false p q = rw (p, q) (h sheet)
    go true true p q =
        let t = typed_by w bench in
        let a = accepted-only (key_answer len w bench byte) p in
        let c = enter-accepts len w.entries t bench (rw (eqb-true byte 10 q) at a) in
        rw (p, q, c.class-is) (new-rightful sheet bench t w.entries c.item c.start c.allowed (h sheet))

-- ---- one bench alone

abbrev pub OneBench : ℕ → List Entry → Type 0
OneBench bench [] = Unit {0}
OneBench bench (e ∷ es) = (e.bench ≡ bench) × OneBench bench es

-- a bench may write every item where all entries are its own: alone it never gets 9
pub one-bench-may : (es : List Entry) (item bench : ℕ) → OneBench bench es → may_write es item bench ≡ true
one-bench-may es item bench h = eq-eqb (owner_of es item bench) bench (owner es h)
  where
    asks : (b : Bool) (x : ℕ) → x ≡ bench → cond b x bench ≡ bench
    asks true x q = q
    asks false x q = refl

    owner : (es : List Entry) → OneBench bench es → owner_of es item bench ≡ bench
    owner [] h = refl
    owner (e ∷ es) h = ap (owner_of es item) (asks (eqb item e.item) e.bench h.0) ∙ owner es h.1

-- its entries are then those of its own sheet
pub one-bench-sheet : (es : List Entry) (bench : ℕ) → OneBench bench es → entries_of (sheet_of_bench bench) es ≡ es
one-bench-sheet [] bench h = refl
one-bench-sheet (e ∷ es) bench h = rw (eq-eqb (sheet_of_bench e.bench) (sheet_of_bench bench) (ap sheet_of_bench h.0)) (ap (λ (r : List Entry). e ∷ r) (one-bench-sheet es bench h.1))

pub one-bench-elsewhere : (es : List Entry) (bench sheet : ℕ) → (sheet_of_bench bench ≡ sheet → ⊥) → OneBench bench es → entries_of sheet es ≡ []
one-bench-elsewhere [] bench sheet n h = refl
one-bench-elsewhere (e ∷ es) bench sheet n h =
    rw (ne_eqb (sheet_of_bench e.bench) sheet (λ q. n (ap sheet_of_bench (sym h.0) ∙ q))) (one-bench-elsewhere es bench sheet n h.1)

-- ---- one owner

pub held-bench : (es : List Entry) (item bench : ℕ) → AllOf es item bench → (times_of es item ≡ 0 → ⊥) → (last_of es item).bench ≡ bench
held-bench [] item bench a n = absurd (n refl)
held-bench (e ∷ es) item bench a n = go (held-bench es item bench a.1) (eqb item e.item) refl
  where
    go : ((times_of es item ≡ 0 → ⊥) → (last_of es item).bench ≡ bench) → (b : Bool) → eqb item e.item ≡ b → (last_of (e ∷ es) item).bench ≡ bench
    go ih true b = rw b (a.0 (sym (eqb-true item e.item b)))
    go ih false b = rw b (ih (λ z. n (rw b z)))

pub held-empty : (es : List Entry) (item : ℕ) → times_of es item ≡ 0 → last_of es item ≡ empty_item
held-empty [] item z = refl
held-empty (e ∷ es) item z = go (held-empty es item) (eqb item e.item) refl
  where
    go : (times_of es item ≡ 0 → last_of es item ≡ empty_item) → (b : Bool) → eqb item e.item ≡ b → last_of (e ∷ es) item ≡ empty_item
    go ih true b = let x : suc (times_of es item) ≡ 0 = rw b at z in absurd (omega arith)
    go ih false b = rw b (ih (rw b at z))

-- an item that has an owner is named
pub owned-named : {es : List Entry} {item bench : ℕ} → Owns es item bench → times_of es item ≡ 0 → ⊥
owned-named {es} {item} {bench} o z =
    let a = sym (none-owns es item (suc bench) z) ∙ owner-is o (suc bench) in
    omega arith
