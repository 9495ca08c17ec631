-- A part is answered by its table, and its place is where the record starts.
-- Assumes nothing.
use mathlib.Core.Path.{◌≡◌, refl, sym, ap, subst, subst⁻¹, ◌∙◌}
use mathlib.Core.Bool.{Bool, true, false, false≢true}
use mathlib.Core.List.{List, [], ◌∷◌, ◌++◌}
use mathlib.Core.Logic.{◌↔◌, ◌⊎◌, inl, inr}
use Prim.Native.Nat.{ℕ, ◌+◌, ◌≤◌}
use native.Mathlib.Omega.{arith}
use borrow.Author.Tests.{ltb-true, lt-ltb, le-ltb, eqb-true, eqb-false, eq-eqb, ne_eqb}
use lib.Dec.{ltb, eqb}
use lib.ListN.{length, take, drop, take-append-drop, drop_of_length-le}
use lib.Seq.{take_all, length-take-le}
use Rattle.text.proofs.Bools.{or-either, fails}
use Rattle.desk_log.specs.Record.{head_length, length_told, bench_told, item_told, value_told}
use Rattle.desk_state.specs.declared.sheet.Item.{Item}
use Rattle.desk_state.specs.declared.desk.Desk.{Desk}
use Rattle.desk_entries.specs.Entry.{with_entry_on, open_to, own_item}
use Rattle.reader_cuts.specs.Reading.{length_least, length_most, bad_length, undecided, Reading, ended, place_for, short as short_of}
use Rattle.reader_cuts.proofs.Laws.{good_length, length-good, length_front, read-bad, read-refused, front-taken, every-reading}
use Rattle.reader_cuts.proofs.Firsts.{read-undecided, undecided-cases}
use Rattle.reader_cuts.proofs.Told.{answers-known}
use Rattle.reader_memory.specs.Memory.{kept_in, stands_at}
use Rattle.reader_records.specs.Shape.{shaped}
use Rattle.reader_records.specs.Wording.{IsRecord}
use Rattle.reader_records.proofs.Wording.{Tells, shape_is, shape-taken}
use Rattle.reader_entries.specs.Judged.{refusal_of, store_of, read_on}
use Rattle.reader_entries.proofs.Judged.{refusal-known, taken-shaped, taken-open, judged-shapeless, judged-foreign, judged-taken}
use Rattle.reader_left.specs.Left.{Left}
use Rattle.reader_feed.specs.Feed.{sound_reader}
use Rattle.theorem_refusals.specs.Table.{Answers, ◌when◌}
use Rattle.theorem_refusals.specs.Key.{HeldByAnother}
use Rattle.theorem_refusals.proofs.Firsts.{First, this, next, answers}
use Rattle.theorem_reader.specs.Parts.{Between, LogPart, fed}
use Rattle.theorem_reader.specs.Table.{Comes, here, later, ComesTo, BadLength, short, long, WholeRecord, BadShape, bad_length as of_bad_length, fault, ForeignOverwrite, EndInside, fewer_than_six, fewer_than_length, feed_table, At, Placed}
use Rattle.theorem_reader.specs.Sound.{SoundReader}
use Rattle.theorem_reader.proofs.Sounds.{reader-so}
use Rattle.theorem_reader.proofs.Agree.{never-20, unsound-changes-nothing, reads}

-- ---- an item that is open to a bench

open-so : (i : Item) (bench : ℕ) → open_to i bench ≡ true → HeldByAnother bench i → ⊥
unfolding open_to
open-so i bench e h =
    let a : eqb i.len 0 ≡ false = ne_eqb i.len 0 (λ z. omega (arith, z, h.0)) in
    let b : eqb i.bench bench ≡ false = ne_eqb i.bench bench h.1 in
    let z = simp (a, b) at e in
    false≢true z

closed-so : (i : Item) (bench : ℕ) → open_to i bench ≡ false → HeldByAnother bench i
unfolding open_to
closed-so i bench e = go (eqb i.len 0) (eqb i.bench bench) refl refl
  where
    go : (a b : Bool) → eqb i.len 0 ≡ a → eqb i.bench bench ≡ b → HeldByAnother bench i
    go true b p q = let z = simp p at e in absurd (false≢true (sym z))
    go false true p q = let z = simp (p, q) at e in absurd (false≢true (sym z))
    go false false p q = (let n = eqb-false i.len 0 p in omega (arith, n), eqb-false i.bench bench q)

-- what is not held by another is open
open-taken : (i : Item) (bench : ℕ) → (HeldByAnother bench i → ⊥) → open_to i bench ≡ true
open-taken i bench h = go (open_to i bench) refl
  where
    go : (b : Bool) → open_to i bench ≡ b → open_to i bench ≡ true
    go true e = e
    go false e = absurd (h (closed-so i bench e))

-- ---- records that are taken

-- a record in the request's words, by what the tests say of it
told-path : (d : Desk) (r : List ℕ) (bench item : ℕ) (v : List ℕ) → bench_told r ≡ bench → item_told r ≡ item → value_told r ≡ v → store_of r d ≡ with_entry_on d bench item v
unfolding store_of
told-path d r bench item v a b c =
    ap (λ (x : ℕ). with_entry_on d x (item_told r) (value_told r)) a ∙ ap (λ (x : ℕ). with_entry_on d bench x (value_told r)) b ∙ ap (λ (x : List ℕ). with_entry_on d bench item x) c

word-open : (d : Desk) (r : List ℕ) (bench item : ℕ) → bench_told r ≡ bench → item_told r ≡ item → open_to (own_item d (bench_told r) (item_told r)) (bench_told r) ≡ open_to (own_item d bench item) bench
word-open d r bench item a b = ap (λ (x : ℕ). open_to (own_item d x (item_told r)) x) a ∙ ap (λ (x : ℕ). open_to (own_item d bench x) bench) b

module _ (last : Bool) (d : Desk) (at : ℕ) (r bs : List ℕ) (bench item : ℕ) (v : List ℕ) (w : IsRecord at r bench item v) where
  tells : Tells at r bench item v
  tells = shape-taken at r bench item v w

  whole : take (length_told r) r ≡ r
  whole = take_all (length_told r) r (omega (arith, tells.length-told))

  pub record-taken : (HeldByAnother bench (own_item d bench item) → ⊥) → read_on last d at (r ++ bs) ≡ read_on last (with_entry_on d bench item v) (at + length r) bs
  record-taken h =
      let k = tells in
      let q = word-open d r bench item k.of_bench k.of-item ∙ open-taken (own_item d bench item) bench h in
      let z : refusal_of at r d ≡ 0 = sym (judged-taken at r d k.shape q) in
      let z' : eqb (refusal_of at (take (length_told r) r) d) 0 ≡ true = rw whole (eq-eqb (refusal_of at r d) 0 z) in
      let none : drop (length_told r) r ≡ [] = drop_of_length-le r {i = length_told r} (omega (arith, k.length-told)) in
      front-taken refusal_of store_of last d at r bs (omega (arith, w.least)) (ap bad_length k.length-told ∙ k.good) (omega (arith, k.length-told)) z'
      ∙ ap (λ (x : List ℕ). read_on last (store_of x d) (at + length_told r) (drop (length_told r) r ++ bs)) whole
      ∙ ap (λ (x : List ℕ). read_on last (store_of r d) (at + length_told r) (x ++ bs)) none
      ∙ ap (λ (n : ℕ). read_on last (store_of r d) (at + n) bs) k.length-told
      ∙ ap (λ (e : Desk). read_on last e (at + length r) bs) (told-path d r bench item v k.of_bench k.of-item k.of-value)

-- reading from some bytes is reading from those that it comes to
comes-reads : (last : Bool) {d e : Desk} {at place : ℕ} {bs cs : List ℕ} → Comes d at bs e place cs → read_on last d at bs ≡ read_on last e place cs
comes-reads last here = refl
comes-reads last (later {d = d} {at = at} {r = r} {bs = bs} {bench = bench} {item = item} {value = v} w h c) = record-taken last d at r bs bench item v w h ∙ comes-reads last c

-- ---- each condition gives its number

module _ (last : Bool) (d : Desk) (at : ℕ) (cs : List ℕ) where
  gives-bad : BadLength cs → (read_on last d at cs).answer ≡ 18
  gives-bad (short h l) = ap (λ (r : Reading Desk). r.answer) (read-bad refusal_of store_of last d at cs h (simp (lt-ltb (length_told cs) length_least l)))
  gives-bad (long h l) =
      ap (λ (r : Reading Desk). r.answer) (read-bad refusal_of store_of last d at cs h (simp (le-ltb (length_told cs) length_least (omega (arith, l)), lt-ltb length_most (length_told cs) l)))

  refused-so : (w : WholeRecord cs) → (a : ℕ) → (a ≡ 0 → ⊥) → refusal_of at (take (length_told cs) cs) d ≡ a → (read_on last d at cs).answer ≡ a
  refused-so w a ne e =
      ap (λ (r : Reading Desk). r.answer)
      (read-refused refusal_of store_of last d at cs w.head (length-good (length_told cs) w.least w.most) w.bytes (ne_eqb _ 0 (λ z. ne (sym e ∙ z)))) ∙ e

  -- a whole record's own length is what it tells
  told-whole : WholeRecord cs → (length_told (take (length_told cs) cs) ≡ length (take (length_told cs) cs)) × (bad_length (length (take (length_told cs) cs)) ≡ false)
  told-whole w =
      let n : ℕ = length_told cs in
      let l : length (take n cs) ≡ n = length-take-le n cs w.bytes in
      let q : length_told (take n cs) ≡ n = sym (length_front (take n cs) (drop n cs) (omega (arith, l, w.least))) ∙ ap length_told (take-append-drop n cs) in
      (q ∙ sym l, ap bad_length l ∙ length-good n w.least w.most)

  gives-fault : WholeRecord cs → ((bench item : ℕ) (value : List ℕ) → IsRecord at (take (length_told cs) cs) bench item value → ⊥) → (read_on last d at cs).answer ≡ 18
  gives-fault w none = refused-so w 18 (λ z. omega (arith, z)) (go (shaped at (take (length_told cs) cs)) refl)
    where
      go : (b : Bool) → shaped at (take (length_told cs) cs) ≡ b → refusal_of at (take (length_told cs) cs) d ≡ 18
      go true e = let t = told-whole w in absurd (none _ _ _ (shape_is at (take (length_told cs) cs) t.0 t.1 e))
      go false e = sym (judged-shapeless at (take (length_told cs) cs) d e)

  gives-18 : BadShape d at cs → (read_on last d at cs).answer ≡ 18
  gives-18 (of_bad_length b) = gives-bad b
  gives-18 (fault w none) = gives-fault w none

  gives-19 : ForeignOverwrite d at cs → (read_on last d at cs).answer ≡ 19
  gives-19 f =
      let r : List ℕ = take (length_told cs) cs in
      let k = shape-taken at r f.bench f.item f.value f.is in
      let closed : open_to (own_item d (bench_told r) (item_told r)) (bench_told r) ≡ false = word-open d r f.bench f.item k.of_bench k.of-item ∙ shut (open_to (own_item d f.bench f.item) f.bench) refl in
      refused-so f.all_there 19 (λ z. omega (arith, z)) (sym (judged-foreign at r d k.shape closed))
    where
      shut : (b : Bool) → open_to (own_item d f.bench f.item) f.bench ≡ b → open_to (own_item d f.bench f.item) f.bench ≡ false
      shut true e = absurd (open-so (own_item d f.bench f.item) f.bench e f.held)
      shut false e = e

inside-undecided : (d : Desk) (at : ℕ) (cs : List ℕ) → EndInside d at cs → (undecided cs ≡ true) × (1 ≤ length cs)
unfolding undecided
inside-undecided d at cs (fewer_than_six s h) = (rw (lt-ltb (length cs) head_length h), s)
inside-undecided d at cs (fewer_than_length h lo hi l) =
    (rw (le-ltb (length cs) head_length h, length-good (length_told cs) lo hi, lt-ltb (length cs) (length_told cs) l), omega (arith, h))

gives-20 : (d : Desk) (at : ℕ) (cs : List ℕ) → EndInside d at cs → (read_on true d at cs).answer ≡ 20
gives-20 d at cs e = let u = inside-undecided d at cs e in ap (λ (r : Reading Desk). r.answer) (read-undecided refusal_of store_of true d at cs u.0) ∙ go cs u.1
  where
    go : (bs : List ℕ) → 1 ≤ length bs → (short_of true d at bs).answer ≡ 20
    go [] l = absurd (omega (arith, l))
    go (b ∷ bs) l = refl

-- ---- and each number has its condition

undecided-inside : (d : Desk) (at : ℕ) (cs : List ℕ) → 1 ≤ length cs → undecided cs ≡ true → EndInside d at cs
undecided-inside d at cs some e =
    undecided-cases cs e (fewer_than_six some) (λ h q l. let k = good_length (length_told cs) q in fewer_than_length h k.0 k.1 l)

bad-so : (cs : List ℕ) → head_length ≤ length cs → bad_length (length_told cs) ≡ true → BadLength cs
bad-so cs h e = go (or-either (ltb (length_told cs) length_least) (ltb length_most (length_told cs)) e)
  where
    go : (ltb (length_told cs) length_least ≡ true) ⊎ (ltb length_most (length_told cs) ≡ true) → BadLength cs
    go (inl p) = short h (ltb-true (length_told cs) length_least p)
    go (inr p) = long h (ltb-true length_most (length_told cs) p)

-- what the answer of a reading says of the bytes, and of where they start
pub record Found (last : Bool) (d : Desk) (at : ℕ) (bs : List ℕ) (r : Reading Desk) : Type 0 where
  pub of_18 : r.answer ≡ 18 → ComesTo d at bs (At r.at BadShape)
  pub of_19 : r.answer ≡ 19 → ComesTo d at bs (At r.at ForeignOverwrite)
  pub of_20 : r.answer ≡ 20 → (last ≡ true) × ComesTo d at bs (At r.at EndInside)

-- it is so of the first record
at_once : {P : Desk → ℕ → List ℕ → Type 0} (d : Desk) (at : ℕ) (bs : List ℕ) → P d at bs → ComesTo d at bs (At at P)
at_once d at bs p = record { desk = d; place = at; rest = bs; comes = here; so = (refl, p) }

-- what is so wherever it starts
unplaced : {P : Desk → ℕ → List ℕ → Type 0} {d : Desk} {at : ℕ} {bs : List ℕ} {place : ℕ} → ComesTo d at bs (At place P) → ComesTo d at bs P
unplaced c = record { desk = c.desk; place = c.place; rest = c.rest; comes = c.comes; so = c.so.1 }

found-short : (last : Bool) (d : Desk) (at : ℕ) (bs : List ℕ) → undecided bs ≡ true → Found last d at bs (short_of last d at bs)
found-short false d at bs u = record { of_18 = λ e. absurd (omega (arith, e)); of_19 = λ e. absurd (omega (arith, e)); of_20 = λ e. absurd (omega (arith, e)) }
found-short true d at [] u = record { of_18 = λ e. absurd (omega (arith, e)); of_19 = λ e. absurd (omega (arith, e)); of_20 = λ e. absurd (omega (arith, e)) }
found-short true d at (b ∷ bs) u = record {
  of_18 = λ e. absurd (omega (arith, e));
  of_19 = λ e. absurd (omega (arith, e));
  of_20 = λ e. (refl, at_once d at (b ∷ bs) (undecided-inside d at (b ∷ bs) (omega arith) u));
}

module _ (last : Bool) (d : Desk) (at : ℕ) (bs : List ℕ) (six : head_length ≤ length bs) where
  found-bad : bad_length (length_told bs) ≡ true → Found last d at bs (ended 18 d at)
  found-bad e = record {
    of_18 = λ z. at_once d at bs (of_bad_length (bad-so bs six e));
    of_19 = λ z. absurd (omega (arith, z));
    of_20 = λ z. absurd (omega (arith, z));
  }

  module _ (good : bad_length (length_told bs) ≡ false) (bytes : length_told bs ≤ length bs) where
    there : WholeRecord bs
    there = let k = good_length (length_told bs) good in record { head = six; least = k.0; most = k.1; bytes = bytes }

    is-record : shaped at (take (length_told bs) bs) ≡ true
        → IsRecord at (take (length_told bs) bs) (bench_told (take (length_told bs) bs)) (item_told (take (length_told bs) bs)) (value_told (take (length_told bs) bs))
    is-record e = let t = told-whole last d at bs there in shape_is at (take (length_told bs) bs) t.0 t.1 e

    found-refused : Found last d at bs (ended (refusal_of at (take (length_told bs) bs) d) d at)
    found-refused = record { of_18 = at-18; of_19 = at-19; of_20 = λ z. absurd (never-20 at (take (length_told bs) bs) d z) }
      where
        at-18 : refusal_of at (take (length_told bs) bs) d ≡ 18 → ComesTo d at bs (At at BadShape)
        at-18 z = at_once d at bs (fault there none)
          where
            none : (bench item : ℕ) (value : List ℕ) → IsRecord at (take (length_told bs) bs) bench item value → ⊥
            none bench item value w = pick (open_to (own_item d (bench_told (take (length_told bs) bs)) (item_told (take (length_told bs) bs))) (bench_told (take (length_told bs) bs))) refl
              where
                s : shaped at (take (length_told bs) bs) ≡ true
                s = (shape-taken at (take (length_told bs) bs) bench item value w).shape

                pick : (b : Bool) → open_to (own_item d (bench_told (take (length_told bs) bs)) (item_told (take (length_told bs) bs))) (bench_told (take (length_told bs) bs)) ≡ b → ⊥
                pick true q = omega (arith, judged-taken at (take (length_told bs) bs) d s q, z)
                pick false q = omega (arith, judged-foreign at (take (length_told bs) bs) d s q, z)

        at-19 : refusal_of at (take (length_told bs) bs) d ≡ 19 → ComesTo d at bs (At at ForeignOverwrite)
        at-19 z = go (shaped at (take (length_told bs) bs)) (open_to (own_item d (bench_told (take (length_told bs) bs)) (item_told (take (length_told bs) bs))) (bench_told (take (length_told bs) bs))) refl refl
          where
            go : (a b : Bool) → shaped at (take (length_told bs) bs) ≡ a
                → open_to (own_item d (bench_told (take (length_told bs) bs)) (item_told (take (length_told bs) bs))) (bench_told (take (length_told bs) bs)) ≡ b → ComesTo d at bs (At at ForeignOverwrite)
            go false b p q = absurd (omega (arith, judged-shapeless at (take (length_told bs) bs) d p, z))
            go true true p q = absurd (omega (arith, judged-taken at (take (length_told bs) bs) d p q, z))
            go true false p q = at_once d at bs (record {
              all_there = there;
              bench = bench_told (take (length_told bs) bs);
              item = item_told (take (length_told bs) bs);
              value = value_told (take (length_told bs) bs);
              is = is-record p;
              held = closed-so (own_item d (bench_told (take (length_told bs) bs)) (item_told (take (length_told bs) bs))) (bench_told (take (length_told bs) bs)) q;
            })

    -- what is so behind a record that is taken
    behind : {P : Desk → ℕ → List ℕ → Type 0} → refusal_of at (take (length_told bs) bs) d ≡ 0
        → ComesTo (store_of (take (length_told bs) bs) d) (at + length_told bs) (drop (length_told bs) bs) P → ComesTo d at bs P
    unfolding store_of
    behind z c =
        let r : List ℕ = take (length_told bs) bs in
        let l : length r ≡ length_told bs = length-take-le (length_told bs) bs bytes in
        let far : Comes (with_entry_on d (bench_told r) (item_told r) (value_told r)) (at + length r) (drop (length_told bs) bs) c.desk c.place c.rest
        = subst (λ (n : ℕ). Comes (with_entry_on d (bench_told r) (item_told r) (value_told r)) (at + n) (drop (length_told bs) bs) c.desk c.place c.rest) (sym l) c.comes in
        let all : Comes d at (r ++ drop (length_told bs) bs) c.desk c.place c.rest
        = later (is-record (taken-shaped at r d z)) (open-so (own_item d (bench_told r) (item_told r)) (bench_told r) (taken-open at r d z)) far in
        record {
          desk = c.desk;
          place = c.place;
          rest = c.rest;
          comes = subst (λ (x : List ℕ). Comes d at x c.desk c.place c.rest) (take-append-drop (length_told bs) bs) all;
          so = c.so;
        }

    found-taken : (r : Reading Desk) → refusal_of at (take (length_told bs) bs) d ≡ 0
        → Found last (store_of (take (length_told bs) bs) d) (at + length_told bs) (drop (length_told bs) bs) r → Found last d at bs r
    found-taken r z f = record {
      of_18 = λ e. behind z (f.of_18 e);
      of_19 = λ e. behind z (f.of_19 e);
      of_20 = λ e. let k = f.of_20 e in (k.0, behind z k.1);
    }

pub found : (last : Bool) (d : Desk) (at : ℕ) (bs : List ℕ) → Found last d at bs (read_on last d at bs)
found last d at bs =
    every-reading refusal_of store_of last (Found last) (found-short last) (λ t k cs h b. found-bad last t k cs h b) (λ t k cs h g w e. found-refused last t k cs h g w)
    (λ t k cs r h g w e f. found-taken last t k cs h g w r (eqb-true _ 0 e) f) d at bs

-- ---- the table

module _ (last : Bool) (d : Desk) (at : ℕ) (bs : List ℕ) where
  so-18 : ComesTo d at bs BadShape → (read_on last d at bs).answer ≡ 18
  so-18 c = ap (λ (r : Reading Desk). r.answer) (comes-reads last c.comes) ∙ gives-18 last c.desk c.place c.rest c.so

  so-19 : ComesTo d at bs ForeignOverwrite → (read_on last d at bs).answer ≡ 19
  so-19 c = ap (λ (r : Reading Desk). r.answer) (comes-reads last c.comes) ∙ gives-19 last c.desk c.place c.rest c.so

  so-20 : (last ≡ true) × ComesTo d at bs EndInside → (read_on last d at bs).answer ≡ 20
  so-20 p =
      let c = p.1 in
      ap (λ (r : Reading Desk). r.answer) (comes-reads last c.comes) ∙ ap (λ (l : Bool). (read_on l c.desk c.place c.rest).answer) p.0
      ∙ gives-20 c.desk c.place c.rest c.so

  read_table : (Sound : Type 0) → Sound → Answers (feed_table Sound d at bs last) (read_on last d at bs).answer
  read_table Sound s = answers (feed_table Sound d at bs last) a refl (next sound-here (go (answers-known refusal_of store_of refusal-known last d at bs).known))
    where
      sound-here : (Sound → ⊥) → ⊥
      sound-here never = never s

      a : ℕ
      a = (read_on last d at bs).answer

      rows : ℕ → Type 0
      rows n = First (18 when ComesTo d at bs BadShape ∷ 19 when ComesTo d at bs ForeignOverwrite ∷ 20 when ((last ≡ true) × ComesTo d at bs EndInside) ∷ []) n

      go : (a ≡ 0) ⊎ ((18 ≤ a) × (a ≤ 20)) → rows a
      go (inl z) =
          next (λ c. omega (arith, so-18 c, z)) (next (λ c. omega (arith, so-19 c, z)) (next (λ c. omega (arith, so-20 c, z)) z))
      go (inr h) = pick (eqb a 18) (eqb a 19) refl refl
        where
          pick : (x y : Bool) → eqb a 18 ≡ x → eqb a 19 ≡ y → rows a
          pick true y p q = let e = eqb-true a 18 p in this (unplaced ((found last d at bs).of_18 e)) e
          pick false true p q = let e = eqb-true a 19 q in next (λ c. eqb-false a 18 p (so-18 c)) (this (unplaced ((found last d at bs).of_19 e)) e)
          pick false false p q =
              let n = eqb-false a 18 p in
              let m = eqb-false a 19 q in
              let e : a ≡ 20 = omega (arith, h.0, h.1, n, m) in
              next (λ c. n (so-18 c)) (next (λ c. m (so-19 c)) (let k = (found last d at bs).of_20 e in this (k.0, unplaced k.1) e))

  -- the place of a reading
  read-placed : Placed d at bs (read_on last d at bs).answer (place_for (read_on last d at bs).answer (read_on last d at bs).at)
  read-placed = record {
    of_18 = λ e. subst⁻¹ (λ (n : ℕ). ComesTo d at bs (At n BadShape)) (there 18 refl e) ((found last d at bs).of_18 e);
    of_19 = λ e. subst⁻¹ (λ (n : ℕ). ComesTo d at bs (At n ForeignOverwrite)) (there 19 refl e) ((found last d at bs).of_19 e);
    of_20 = λ e. subst⁻¹ (λ (n : ℕ). ComesTo d at bs (At n EndInside)) (there 20 refl e) ((found last d at bs).of_20 e).1;
    of_others = λ x y z. none x y z (answers-known refusal_of store_of refusal-known last d at bs).known;
  }
    where
      a : ℕ
      a = (read_on last d at bs).answer

      place : ℕ
      place = (read_on last d at bs).at

      there : (n : ℕ) → eqb n 0 ≡ false → a ≡ n → place_for a place ≡ place
      there n f e = ap (λ (m : ℕ). place_for m place) e ∙ rw f

      none : (a ≡ 18 → ⊥) → (a ≡ 19 → ⊥) → (a ≡ 20 → ⊥) → (a ≡ 0) ⊎ ((18 ≤ a) × (a ≤ 20)) → place_for a place ≡ 0
      none x y z (inl e) = ap (λ (m : ℕ). place_for m place) e
      none x y z (inr h) = absurd (omega (arith, x, y, z, h.0, h.1))

module _ (b : Between) (c : LogPart) (going : stands_at b.state ≡ 0) where
  abbrev bytes : List ℕ
  bytes = kept_in b.kept b.state ++ c.0

  -- the table for whatever says that desk and reader are sound
  pub feed-answers : (Sound : Type 0) → (sound_reader b.desk b.used b.kept b.state ≡ true) ↔ Sound
      → Answers (feed_table Sound b.desk b.used bytes c.1) (fed b c).answer
  feed-answers Sound so = go (sound_reader b.desk b.used b.kept b.state) refl
    where
      go : (s : Bool) → sound_reader b.desk b.used b.kept b.state ≡ s → Answers (feed_table Sound b.desk b.used bytes c.1) (fed b c).answer
      go true e =
          subst⁻¹ (Answers (feed_table Sound b.desk b.used bytes c.1)) (ap (λ (l : Left). l.answer) (reads b c e going))
          (read_table c.1 b.desk b.used bytes Sound (so.0 e))
      go false e =
          answers (feed_table Sound b.desk b.used bytes c.1) (fed b c).answer refl
          (this (λ s. fails e (so.1 s)) (unsound-changes-nothing b c e).0)

  -- "Refusals: 2 first ..; then 18 .., 19 .., 20 ..": of every reader that goes on
  pub feed-table : Answers (feed_table (SoundReader b.desk b.used b.kept b.state) b.desk b.used bytes c.1) (fed b c).answer
  feed-table = feed-answers (SoundReader b.desk b.used b.kept b.state) (reader-so b.desk b.used b.kept b.state)

  -- "each with the byte where the record starts, the log's first being 0; else that number is 0"
  pub feed-places : Placed b.desk b.used bytes (fed b c).answer (fed b c).place
  feed-places = go (sound_reader b.desk b.used b.kept b.state) refl
    where
      go : (s : Bool) → sound_reader b.desk b.used b.kept b.state ≡ s → Placed b.desk b.used bytes (fed b c).answer (fed b c).place
      go true e =
          subst⁻¹ (λ (l : Left). Placed b.desk b.used bytes l.answer l.place) (reads b c e going)
          (read-placed c.1 b.desk b.used bytes)
      go false e =
          let u = unsound-changes-nothing b c e in
          record {
            of_18 = λ z. absurd (omega (arith, z, u.0));
            of_19 = λ z. absurd (omega (arith, z, u.0));
            of_20 = λ z. absurd (omega (arith, z, u.0));
            of_others = λ x y z. u.1;
          }
