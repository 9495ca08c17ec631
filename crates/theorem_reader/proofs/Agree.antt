-- The theorems about parts: every cut, never 2, what a part stores, and what comes after the last.
-- Assumes nothing.
use mathlib.Core.Path.{◌≡◌, refl, sym, ap, subst, ◌∙◌}
use mathlib.Core.Bool.{Bool, true, false}
use mathlib.Core.List.{List, [], ◌∷◌, ◌++◌, append_assoc}
use mathlib.Core.Logic.{◌⊎◌, inl, inr}
use Prim.Native.Nat.{ℕ, zero, suc, ◌+◌, ◌-◌, ◌≤◌, ◌<◌}
use native.Mathlib.Omega.{arith}
use borrow.Author.Tests.{eqb-true, eqb-false, eq-eqb, ne_eqb}
use lib.Dec.{eqb}
use lib.ListN.{length, get_or, set, take, replicate, length-set}
use lib.Seq.{get_or-set_same, get_or-set_other}
use Rattle.line_items.specs.Items.{item_count}
use Rattle.desk_state.specs.Desks.{sheet_count, sheet_of_bench, no_sheet, sheet_at, with_sheet, fresh_desk}
use Rattle.desk_state.specs.declared.sheet.Sheet.{Sheet}
use Rattle.desk_state.specs.declared.desk.Desk.{Desk}
use Rattle.desk_soundness.specs.Sound.{every, sound_line, sound_empty, sound_item, sound_lines, sound_sheet, sound_desk}
use Rattle.desk_soundness.specs.SoundLog.{counts_of, sound_log}
use Rattle.text.specs.Run as run
use Rattle.text.proofs.Bools.{and_both}
use Rattle.desk_entries.specs.Entry.{with_entry, open_to, own_item}
use Rattle.reader_cuts.specs.Reading.{length_least, length_most, Reading, waiting, ended, place_for, place_answered}
use Rattle.reader_cuts.specs.Called.{Called, called_with, all_bytes, calls_of, call, after_calls, answers_so_far}
use Rattle.reader_cuts.proofs.Laws.{undecided-few}
use Rattle.reader_cuts.proofs.Cuts.{feed-over, next-part, whole-over}
use Rattle.reader_cuts.proofs.Agreement.{agrees, Good, read-good, after-good, call-good}
use Rattle.reader_cuts.proofs.Told.{Known, answers-known, before-refused, no-20-before}
use Rattle.reader_memory.specs.Memory.{kept_in, stands_at}
use Rattle.desk_log.specs.Record.{bench_told, item_told, value_told}
use Rattle.reader_records.specs.Shape.{shaped}
use Rattle.reader_entries.specs.Judged.{refusal_of, store_of, sound_at, read_on}
use Rattle.desk_entries.proofs.Camps.{sheet-in}
use Rattle.reader_records.proofs.Shapes.{shaped-parts}
use Rattle.reader_entries.proofs.Judged.{refusal-known, taken-shaped}
use Rattle.reader_entries.proofs.Keeps.{Whole, keeps}
use Rattle.reader_left.specs.Left.{Left, left_as}
use Rattle.reader_feed.specs.Feed.{sound_reader, again, unsound, feed_of}
use Rattle.theorem_reader.specs.Parts.{Between, left_for, fresh, LogPart, fed, after_parts, part_answers, whole, so_far, told_so_far, PartsAgree, NeverUnsound, StoresBefore, RefusedBefore, ChangesNothing, SheetsThere, Ends, with_refusal, with_last, Repeats}
use Rattle.theorem_reader.proofs.Follow.{view, left_called, follows, call_known, after-known, follows-after, follows-answers}

-- ---- what a record that is taken keeps

pub record Fine (d : Desk) (at : ℕ) : Type 0 where
  pub all_there : Whole d
  pub sound : sound_at d at ≡ true

set-whole : (d : Desk) (s : ℕ) (x : Sheet) → length x.items ≡ item_count → Whole d → Whole (with_sheet d s x)
set-whole d s x l w = record { sheets = length-set d.sheets s x ∙ w.sheets; items = λ j h. go j h (eqb j s) refl }
  where
    go : (j : ℕ) → j < sheet_count → (b : Bool) → eqb j s ≡ b → length (get_or (set d.sheets s x) j no_sheet).items ≡ item_count
    go j h true e =
        let p : j ≡ s = eqb-true j s e in
        let same : get_or (set d.sheets s x) j no_sheet ≡ x
        = ap (λ (k : ℕ). get_or (set d.sheets s x) k no_sheet) p ∙ get_or-set_same d.sheets s x no_sheet (omega (arith, p, h, w.sheets)) in
        ap (λ (y : Sheet). length y.items) same ∙ l
    go j h false e = ap (λ (y : Sheet). length y.items) (get_or-set_other d.sheets s j x no_sheet (eqb-false j s e)) ∙ w.items j h

store-whole : (d : Desk) (at : ℕ) (r : List ℕ) → refusal_of at r d ≡ 0 → Whole d → Whole (store_of r d)
unfolding store_of
store-whole d at r z w =
    let s : ℕ = sheet_of_bench (bench_told r) in
    let on = sheet-in (bench_told r) (shaped-parts at r (taken-shaped at r d z)).bench_in in
    set-whole d s (with_entry (sheet_at d s) (bench_told r) (item_told r) (value_told r)) (length-set (sheet_at d s).items (item_told r - 1) _ ∙ w.items s on) w

fine-sound : (d : Desk) (at : ℕ) → Fine d at → sound_at d at ≡ true
fine-sound d at f = f.sound

fine-kept : (d : Desk) (at : ℕ) (r : List ℕ) → Fine d at → length_least ≤ length r → length r ≤ length_most → refusal_of at r d ≡ 0 → Fine (store_of r d) (at + length r)
fine-kept d at r f lo hi z = record { all_there = store-whole d at r z f.all_there; sound = keeps d at r f.all_there f.sound lo z }

fresh-items : (s : ℕ) → s < sheet_count → length (sheet_at fresh_desk s).items ≡ item_count
fresh-items zero h = refl
fresh-items (suc zero) h = refl
fresh-items (suc (suc s)) h = absurd (omega arith)

pub fresh-sound : sound_at fresh_desk 0 ≡ true
unfolding sound_at sound_desk sound_lines sound_sheet sound_item sound_empty sound_line every run.all run.between sound_log counts_of
fresh-sound = refl

fresh-fine : Fine fresh_desk 0
fresh-fine = record { all_there = record { sheets = refl; items = fresh-items }; sound = fresh-sound }

-- ---- every cut

abbrev start : Reading Desk
start = waiting fresh_desk 0 []

start-known : Known refusal_of store_of start
start-known = record { going = λ e. refl; known = inl refl; waits = undecided-few [] (omega arith) }

so-far : (bs : List ℕ) (ps : List (List ℕ)) → answers_so_far refusal_of store_of sound_at fresh_desk bs ps ≡ told_so_far bs ps
so-far bs [] = refl
so-far bs (p ∷ ps) = ap (λ (l : List (ℕ × ℕ)). ((read_on false fresh_desk 0 (bs ++ p)).answer, place_answered (read_on false fresh_desk 0 (bs ++ p))) ∷ l) (so-far (bs ++ p) ps)

-- "However it is cut, with parts of no bytes too, the sheets and the final answer agree with reading it whole"
pub parts-agree : (ps : List (List ℕ)) (p : List ℕ) (more : List LogPart) → PartsAgree ps p more
parts-agree ps p more =
    let a = agrees refusal_of store_of sound_at Fine fine-sound fine-kept fresh_desk fresh-fine p more ps in
    let end : List (ℕ × ℕ) = ((whole (all_bytes ps ++ p)).answer, place_answered (whole (all_bytes ps ++ p))) ∷ replicate (length more) ((whole (all_bytes ps ++ p)).answer, place_answered (whole (all_bytes ps ++ p))) in
    record {
      left_so = follows-after start start-known (calls_of ps p more) ∙ ap (λ (r : Reading Desk). view r) a.reading;
      told_so = follows-answers start start-known (calls_of ps p more) ∙ a.told_so ∙ ap (λ (l : List (ℕ × ℕ)). l ++ end) (so-far [] ps);
    }

-- ---- every part of a log that is read with 0

-- the first bytes of such a log are read with 0
front-0 : (xs ys : List ℕ) → (whole (xs ++ ys)).answer ≡ 0 → (so_far xs).answer ≡ 0
front-0 xs ys z = go (so_far xs).over refl
  where
    go : (o : Bool) → (so_far xs).over ≡ o → (so_far xs).answer ≡ 0
    go false p = (answers-known refusal_of store_of refusal-known false fresh_desk 0 xs).going p
    go true p =
        let same = sym (feed-over refusal_of store_of (so_far xs) ys true p) ∙ next-part refusal_of store_of true fresh_desk 0 xs ys in
        ap (λ (r : Reading Desk). r.answer) same ∙ z

zeros-so-far : (bs : List ℕ) (ps : List (List ℕ)) (p : List ℕ) → (whole (bs ++ (all_bytes ps ++ p))).answer ≡ 0 → told_so_far bs ps ≡ replicate (length ps) (0, 0)
zeros-so-far bs [] p z = refl
zeros-so-far bs (q ∷ ps) p z =
    let split : bs ++ ((q ++ all_bytes ps) ++ p) ≡ (bs ++ q) ++ (all_bytes ps ++ p) = simp append_assoc in
    let z' : (whole ((bs ++ q) ++ (all_bytes ps ++ p))).answer ≡ 0 = ap (λ (l : List ℕ). (whole l).answer) (sym split) ∙ z in
    let first : (so_far (bs ++ q)).answer ≡ 0 = front-0 (bs ++ q) (all_bytes ps ++ p) z' in
    ap (λ (n : ℕ). (n, place_for n (so_far (bs ++ q)).at) ∷ told_so_far (bs ++ q) ps) first
    ∙ ap (λ (l : List (ℕ × ℕ)). (0, 0) ∷ l) (zeros-so-far (bs ++ q) ps p z')

abbrev accepted : ℕ × ℕ
accepted = (0, 0)

all-accepted : (ps : List (List ℕ)) (p : List ℕ) (more : List LogPart)
    → replicate (length ps) accepted ++ (accepted ∷ replicate (length more) accepted) ≡ replicate (length (calls_of ps p more)) accepted
all-accepted [] p more = refl
all-accepted (q ∷ ps) p more = ap (λ (l : List (ℕ × ℕ)). accepted ∷ l) (all-accepted ps p more)

-- each part of it, and each after the last, gets 0 with place 0
pub parts-accepted : (ps : List (List ℕ)) (p : List ℕ) (more : List LogPart) → (whole (all_bytes ps ++ p)).answer ≡ 0
    → part_answers fresh (calls_of ps p more) ≡ replicate (length (calls_of ps p more)) (0, 0)
parts-accepted ps p more z =
    let end : List (ℕ × ℕ) → (ℕ × ℕ) → List (ℕ × ℕ) = λ l x. l ++ (x ∷ replicate (length more) x) in
    (parts-agree ps p more).told_so ∙ ap (λ (n : ℕ). end (told_so_far [] ps) (n, place_for n (whole (all_bytes ps ++ p)).at)) z
    ∙ ap (λ (l : List (ℕ × ℕ)). end l (0, 0)) (zeros-so-far [] ps p z) ∙ all-accepted ps p more

-- ---- never 2

abbrev grown : List LogPart → Reading Desk
grown cs = after_calls refusal_of store_of sound_at start cs

grown-good : (cs : List LogPart) → Good refusal_of store_of sound_at Fine fine-sound fine-kept (grown cs)
grown-good cs =
    after-good refusal_of store_of sound_at Fine fine-sound fine-kept start cs (record { fine = fresh-fine; waits = undecided-few [] (omega arith) })

-- no reading's answer is 2
pub not-2 : (a : ℕ) → (a ≡ 0) ⊎ ((18 ≤ a) × (a ≤ 20)) → a ≡ 2 → ⊥
not-2 a (inl z) q = omega (arith, z, q)
not-2 a (inr h) q = omega (arith, h.0, q)

-- "kept sound": a reader that grew from a fresh one is never refused with 2
pub never-unsound : (cs : List LogPart) (c : LogPart) → NeverUnsound cs c
never-unsound cs c e =
    let r = grown cs in
    let k = after-known start start-known cs in
    let f = ap (λ (b : Between). fed b c) (follows-after start start-known cs) ∙ follows r k c.0 c.1 in
    let g = call-good refusal_of store_of sound_at Fine fine-sound fine-kept r c.0 c.1 (grown-good cs) in
    let x = (call_known r k c.0 c.1).known in
    let y : (fed (after_parts fresh cs) c).answer ≡ (call refusal_of store_of sound_at r c.0 c.1).reading.answer
    = ap (λ (l : Left). l.answer) f ∙ ap (λ (q : Called Desk). q.answer) g ∙ sym (ap (λ (q : Called Desk). q.reading.answer) g) in
    not-2 (call refusal_of store_of sound_at r c.0 c.1).reading.answer x (sym y ∙ e)

-- a record never gets 20
pub never-20 : (start : ℕ) (r : List ℕ) (d : Desk) → refusal_of start r d ≡ 20 → ⊥
unfolding refusal_of
never-20 start r d e = go (shaped start r) (open_to (own_item d (bench_told r) (item_told r)) (bench_told r)) refl refl
  where
    go : (a b : Bool) → shaped start r ≡ a → open_to (own_item d (bench_told r) (item_told r)) (bench_told r) ≡ b → ⊥
    go true true p q = let z = rw (p, q) at e in omega (arith, z)
    go true false p q = let z = rw (p, q) at e in omega (arith, z)
    go false b p q = let z = rw p at e in omega (arith, z)

-- ---- what one part leaves

module _ (b : Between) (c : LogPart) where
  abbrev bytes : List ℕ
  bytes = kept_in b.kept b.state ++ c.0

  -- "with 2 the whole part changes nothing"
  pub unsound-changes-nothing : sound_reader b.desk b.used b.kept b.state ≡ false → ((fed b c).answer ≡ 2) × ((fed b c).place ≡ 0) × ChangesNothing b c
  unfolding feed_of
  unsound-changes-nothing e = rw e (refl, refl, refl)

  module _ (sound : sound_reader b.desk b.used b.kept b.state ≡ true) where
    -- "parts after it, or after the last part, change nothing"
    pub over-changes-nothing : (stands_at b.state ≡ 0 → ⊥) → ChangesNothing b c
    unfolding feed_of
    over-changes-nothing ne = rw (sound, ne_eqb (stands_at b.state) 0 ne)

    module _ (going : stands_at b.state ≡ 0) where
      pub reads : fed b c ≡ left_as (read_on c.1 b.desk b.used (kept_in b.kept b.state ++ c.0))
      unfolding feed_of
      reads = rw (sound, eq-eqb (stands_at b.state) 0 going)

      -- the records before the place, and nothing else, are stored
      pub stores-before : StoresBefore b c
      stores-before =
          let h = before-refused refusal_of store_of c.1 b.desk b.used (kept_in b.kept b.state ++ c.0) in
          let e = sym reads in
          record {
            later = subst (λ (l : Left). b.used ≤ l.used) e h.later;
            sheets = subst (λ (l : Left). read_on true b.desk b.used (take (l.used - b.used) (kept_in b.kept b.state ++ c.0)) ≡ ended 0 l.desk l.used) e h.sheets;
          }

      -- "20 is given only there", in the last part
      pub no-20 : c.1 ≡ false → (fed b c).answer ≡ 20 → ⊥
      no-20 unmarked e =
          no-20-before refusal_of store_of never-20 b.desk b.used (kept_in b.kept b.state ++ c.0)
          (sym (ap (λ (l : Left). l.answer) reads ∙ ap (λ (x : Bool). (read_on x b.desk b.used (kept_in b.kept b.state ++ c.0)).answer) unmarked) ∙ e)

-- "After a refusal the sheets hold the records before it": they are those of the bytes before its place
pub refused-before : (log : List ℕ) → RefusedBefore log
refused-before log =
    let h = before-refused refusal_of store_of true fresh_desk 0 log in
    let z : (whole log).at - 0 ≡ (whole log).at = omega arith in
    ap (λ (n : ℕ). whole (take n log)) (sym z) ∙ h.sheets

-- ---- after a refusal, and after the last part

module _ (b : Between) (c : LogPart) where
  abbrev sound : Bool
  sound = sound_reader b.desk b.used b.kept b.state

  -- the reading of a reader that goes on
  abbrev pub reading : Reading Desk
  reading = read_on c.1 b.desk b.used (kept_in b.kept b.state ++ c.0)

  unsound-is : sound ≡ false → fed b c ≡ unsound b.desk b.used b.kept b.state
  unfolding feed_of
  unsound-is e = rw e

  again-is : sound ≡ true → (stands_at b.state ≡ 0 → ⊥) → fed b c ≡ again b.desk b.used b.kept b.state
  unfolding feed_of
  again-is e ne = rw (e, ne_eqb (stands_at b.state) 0 ne)

  pub reading-known : Known refusal_of store_of reading
  reading-known = answers-known refusal_of store_of refusal-known c.1 b.desk b.used (kept_in b.kept b.state ++ c.0)

  module _ (there : SheetsThere b.desk) (e : sound ≡ true) (going : stands_at b.state ≡ 0) where
    fine-here : Fine b.desk b.used
    unfolding sound_reader
    fine-here = record {
      all_there = record { sheets = there.sheets; items = there.items };
      sound = (and_both (sound_at b.desk b.used) _ e).0;
    }

    is-over : Ends b c → reading.over ≡ true
    is-over (with_last p) =
        ap (λ (x : Bool). (read_on x b.desk b.used (kept_in b.kept b.state ++ c.0)).over) p
        ∙ whole-over refusal_of store_of b.desk b.used (kept_in b.kept b.state ++ c.0)
    is-over (with_refusal ne) = go reading.over refl
      where
        go : (o : Bool) → reading.over ≡ o → reading.over ≡ true
        go true p = p
        go false p = absurd (ne (ap (λ (l : Left). l.answer) (reads b c e going) ∙ reading-known.going p))

    over-repeats : Ends b c → Repeats b c
    over-repeats h next =
        let r : Reading Desk = reading in
        let good = read-good refusal_of store_of sound_at Fine fine-sound fine-kept c.1 b.desk b.used (kept_in b.kept b.state ++ c.0) fine-here in
        let called : call refusal_of store_of sound_at r next.0 next.1 ≡ called_with r
        = call-good refusal_of store_of sound_at Fine fine-sound fine-kept r next.0 next.1 good
        ∙ ap (λ (x : Reading Desk). called_with x) (feed-over refusal_of store_of r next.0 next.1 (is-over h)) in
        let same : fed (view r) next ≡ left_as r = follows r reading-known next.0 next.1 ∙ ap (λ (k : Called Desk). left_called k) called in
        let first = reads b c e going in
        ap (λ (l : Left). fed (left_for l) next) first ∙ same ∙ sym first

-- "parts after it, or after the last part, change nothing and repeat its answer"
pub repeats : (b : Between) (c : LogPart) → SheetsThere b.desk → Ends b c → Repeats b c
repeats b c there h next = go (sound b c) (eqb (stands_at b.state) 0) refl refl
  where
    go : (x y : Bool) → sound b c ≡ x → eqb (stands_at b.state) 0 ≡ y → fed (left_for (fed b c)) next ≡ fed b c
    go false y p q = let first = unsound-is b c p in ap (λ (l : Left). fed (left_for l) next) first ∙ unsound-is b next p ∙ sym first
    go true false p q =
        let ne = eqb-false (stands_at b.state) 0 q in
        let first = again-is b c p ne in
        ap (λ (l : Left). fed (left_for l) next) first ∙ again-is b next p ne ∙ sym first
    go true true p q = over-repeats b c there p (eqb-true (stands_at b.state) 0 q) h next
