-- A camp sees only its own calls: the laws of `Alone` for the work.
-- Assumes nothing.
use Rattle.std.specs.Prelude.{Result, Ok, Err}
use mathlib.Core.Path.{◌≡◌, refl, sym, ap, ap₂, ◌∙◌}
use mathlib.Core.Bool.{Bool, true, false, cond, not, false≢true}
use mathlib.Core.List.{List, [], ◌∷◌}
use Prim.Native.Nat.{ℕ, zero, suc, ◌-◌, ◌≤◌}
use native.Mathlib.Omega.{arith}
use lib.Dec.{ltb, leb, eqb}
use lib.ListN.{length, get_or, set, drop, length-append}
use borrow.Author.Tests.{eqb-true, leb-true, le-leb}
use Rattle.text.proofs.Bools.{cond-true, cond-false}
use Rattle.line_items.specs.Typed.{line_most, is_typed}
use Rattle.line_reader.specs.Line.{class_of}
use Rattle.line_reader.specs.declared.line.LineEntry.{LineEntry}
use Rattle.line_reader.specs.declared.line.NoEntry.{NoEntry}
use Rattle.line_reader.specs.declared.line.NoEntry.TheVariants as no_entry
use Rattle.desk_log.specs.Record.{record_length, record_of}
use Rattle.desk_state.specs.Desks.{bench_count, sheet_of_bench}
use Rattle.desk_state.specs.declared.sheet.Sheet.{Sheet}
use Rattle.desk_soundness.specs.SoundLog.{log_most}
use Rattle.theorem_refusals.specs.KeyNumber.{enter_number, key_number}
use Rattle.theorem_work.specs.Calls.{Call, report, who, key, ask, keyed, reported, told}
use Rattle.theorem_work.specs.Work.{Entry, Work, typed_by, records_of, on_sheet, entries_of, may_write, table_answer, accepts, text_after, with_entry_of, entries_after, key_answer, key_work, work_step}
use Rattle.theorem_work.specs.Camps.{of_camp, kept_texts, restrict, fitted}
use Rattle.theorem_work.proofs.WorkLaws.{work-eq}
use Rattle.theorem_work.proofs.Alone.{Apart}

-- ---- texts

pub kept-own : (p : ℕ → Bool) (ts : List (List ℕ)) (b : ℕ) → p b ≡ true → get_or (kept_texts p ts) b [] ≡ get_or ts b []
kept-own p [] b e = refl
kept-own p (t ∷ ts) zero e = cond-true (p zero) t [] e
kept-own p (t ∷ ts) (suc b) e = kept-own (λ b. p (suc b)) ts b e

kept-set-own : (p : ℕ → Bool) (ts : List (List ℕ)) (b : ℕ) (x : List ℕ) → p b ≡ true → kept_texts p (set ts b x) ≡ set (kept_texts p ts) b x
kept-set-own p [] b x e = refl
kept-set-own p (t ∷ ts) zero x e = ap (λ y. y ∷ kept_texts (λ b. p (suc b)) ts) (cond-true (p zero) x [] e)
kept-set-own p (t ∷ ts) (suc b) x e = ap (λ r. cond (p zero) t [] ∷ r) (kept-set-own (λ b. p (suc b)) ts b x e)

kept-set-other : (p : ℕ → Bool) (ts : List (List ℕ)) (b : ℕ) (x : List ℕ) → p b ≡ false → kept_texts p (set ts b x) ≡ kept_texts p ts
kept-set-other p [] b x e = refl
kept-set-other p (t ∷ ts) zero x e = ap (λ y. y ∷ kept_texts (λ b. p (suc b)) ts) (cond-false (p zero) x [] e ∙ sym (cond-false (p zero) t [] e))
kept-set-other p (t ∷ ts) (suc b) x e = ap (λ r. cond (p zero) t [] ∷ r) (kept-set-other (λ b. p (suc b)) ts b x e)

-- ---- entries

pub entries_twice : (s : ℕ) (es : List Entry) → entries_of s (entries_of s es) ≡ entries_of s es
entries_twice s [] = refl
entries_twice s (e ∷ es) = go (entries_twice s es) (on_sheet s e.bench) refl
  where
    go : entries_of s (entries_of s es) ≡ entries_of s es → (t : Bool) → on_sheet s e.bench ≡ t → entries_of s (entries_of s (e ∷ es)) ≡ entries_of s (e ∷ es)
    go ih true t = rw (t, t) (ap (λ r. e ∷ r) ih)
    go ih false t = rw t ih

same_entries : (s c : ℕ) (es : List Entry) → s ≡ c → entries_of s (entries_of c es) ≡ entries_of s es
same_entries s c es e = rw e (entries_twice c es)

-- an entry of a bench of the sheet, and of another bench
own_new : (s b : ℕ) (t : List ℕ) (es : List Entry) (c : Result LineEntry NoEntry) → on_sheet s b ≡ true → entries_of s (with_entry_of c b t es) ≡ with_entry_of c b t (entries_of s es)
own_new s b t es (Err why) e = refl
own_new s b t es (Ok at) e = rw e

other-new : (s b : ℕ) (t : List ℕ) (es : List Entry) (c : Result LineEntry NoEntry) → on_sheet s b ≡ false → entries_of s (with_entry_of c b t es) ≡ entries_of s es
other-new s b t es (Err why) e = refl
other-new s b t es (Ok at) e = rw e

pub own-after : (s a b k : ℕ) (t : List ℕ) (es : List Entry) → on_sheet s b ≡ true → entries_of s (entries_after a b k t es) ≡ entries_after a b k t (entries_of s es)
own-after s a b k t es e = go (accepts a) (eqb k 10)
  where
    go : (x y : Bool) → entries_of s (cond x (cond y (with_entry_of (class_of t) b t es) es) es) ≡ cond x (cond y (with_entry_of (class_of t) b t (entries_of s es)) (entries_of s es)) (entries_of s es)
    go true true = own_new s b t es (class_of t) e
    go true false = refl
    go false y = refl

pub other_after : (s a b k : ℕ) (t : List ℕ) (es : List Entry) → on_sheet s b ≡ false → entries_of s (entries_after a b k t es) ≡ entries_of s es
other_after s a b k t es e = go (accepts a) (eqb k 10)
  where
    go : (x y : Bool) → entries_of s (cond x (cond y (with_entry_of (class_of t) b t es) es) es) ≡ entries_of s es
    go true true = other-new s b t es (class_of t) e
    go true false = refl
    go false y = refl

-- a camp's records are not longer than all
own-used : (s : ℕ) (es : List Entry) → length (records_of (entries_of s es)) ≤ length (records_of es)
own-used s [] = omega arith
own-used s (e ∷ es) = go (on_sheet s e.bench) refl (own-used s es)
  where
    r : List ℕ
    r = record_of e.bench e.item e.value

    go : (t : Bool) → on_sheet s e.bench ≡ t → length (records_of (entries_of s es)) ≤ length (records_of es) → length (records_of (entries_of s (e ∷ es))) ≤ length (records_of (e ∷ es))
    go true t h = rw t (omega (arith, length-append (records_of (entries_of s es)) r, length-append (records_of es) r))
    go false t h = rw t (omega (arith, length-append (records_of es) r))

-- ---- the number by tests with more room: the same, where it is not 8

abbrev Freed : ℕ → ℕ → Type 0
Freed x y = not (eqb x 8) ≡ true → y ≡ x

module _ (may : ℕ → Bool) (free more : ℕ) (grows : free ≤ more) (t : List ℕ) where
  enter-free : (c : Result LineEntry NoEntry) → Freed (enter_number c t may free) (enter_number c t may more)
  enter-free (Err no_entry.BadForm) = λ h. refl
  enter-free (Err no_entry.UnknownName) = λ h. refl
  enter-free (Err no_entry.WrongKind) = λ h. refl
  enter-free (Ok at) = go (may at.item) (leb (record_length (drop at.start t)) free) refl
    where
      go : (x y : Bool) → leb (record_length (drop at.start t)) free ≡ y → Freed (cond x (cond y 0 8) 9) (cond x (cond (leb (record_length (drop at.start t)) more) 0 8) 9)
      go true true e =
          let n = leb-true (record_length (drop at.start t)) free e in
          λ h. rw (le-leb (record_length (drop at.start t)) more (omega arith))
      go true false e = λ h. absurd (false≢true h)
      go false y e = λ h. refl

  table-free : (sound : Bool) (b k : ℕ) → Freed (key_number sound t (length t) may free b k) (key_number sound t (length t) may more b k)
  table-free sound b k = go (ltb b bench_count) sound (is_typed k) (eqb k 8) (eqb k 24) (eqb k 10)
    where
      X : ℕ
      X = cond (ltb (length t) line_most) 0 4

      go : (p q r u v w : Bool)
          → Freed (cond p (cond q (cond r X (cond u 0 (cond v 0 (cond w (enter_number (class_of t) t may free) 3)))) 2) 1)
          (cond p (cond q (cond r X (cond u 0 (cond v 0 (cond w (enter_number (class_of t) t may more) 3)))) 2) 1)
      go false q r u v w = λ h. refl
      go true false r u v w = λ h. refl
      go true true true u v w = λ h. refl
      go true true false true v w = λ h. refl
      go true true false false true w = λ h. refl
      go true true false false false false = λ h. refl
      go true true false false false true = enter-free (class_of t)

-- ---- the laws

module _ {Rows : Type 0} (rows_of : ℕ → Sheet → Rows) (no_rows : Rows) (len camp : ℕ) where
  own-answer : (b k : ℕ) (w : Work) → on_sheet camp b ≡ true → not (eqb (key_answer len w b k) 8) ≡ true → key_answer len (restrict camp w) b k ≡ key_answer len w b k
  unfolding table_answer
  own-answer b k w e h =
      let es = w.entries in
      let own = entries_of camp es in
      ap₂ (λ gs t. key_number (leb len log_most) t (length t) (λ item. may_write gs item b) (len - length (records_of own)) b k)
      (same_entries (sheet_of_bench b) camp es (eqb-true (sheet_of_bench b) camp e)) (kept-own (on_sheet camp) w.typed b e)
      ∙ table-free (λ item. may_write (entries_of (sheet_of_bench b) es) item b) (len - length (records_of es)) (len - length (records_of own)) (omega (arith, own-used camp es))
      (typed_by w b) (leb len log_most) b k h

  own-work : (x y b k : ℕ) (w : Work) → on_sheet camp b ≡ true → x ≡ y → key_work x b k (restrict camp w) ≡ restrict camp (key_work y b k w)
  own-work x y b k w e p =
      let l = kept-own (on_sheet camp) w.typed b e in
      let es = w.entries in
      work-eq
      (ap₂ (λ z t. set (kept_texts (on_sheet camp) w.typed) b (text_after z k t)) p l ∙ sym (kept-set-own (on_sheet camp) w.typed b (text_after y k (typed_by w b)) e))
      (ap₂ (λ z t. entries_after z b k t (entries_of camp es)) p l ∙ sym (own-after camp y b k (typed_by w b) es e))

  other-work : (x b k : ℕ) (w : Work) → on_sheet camp b ≡ false → restrict camp (key_work x b k w) ≡ restrict camp w
  other-work x b k w e = work-eq (kept-set-other (on_sheet camp) w.typed b (text_after x k (typed_by w b)) e) (other_after camp x b k (typed_by w b) w.entries e)

  -- on the same log: with fewer records there is more room, and what fitted fits
  pub camp-apart : Apart (work_step rows_of no_rows len) (work_step rows_of no_rows len) (restrict camp) camp
  camp-apart = record { answer = answer; state = state; other = other }
    where
      answer : (c : Call) (w : Work) → of_camp camp c ≡ true → fitted (work_step rows_of no_rows len c w).0 ≡ true
          → (work_step rows_of no_rows len c (restrict camp w)).0 ≡ (work_step rows_of no_rows len c w).0
      answer (key b k) w e h = ap keyed (own-answer b k w e h)
      answer (ask (report s p)) w e h = asked-same (eqb-true s camp e)
        where
          asked-same : s ≡ camp → (work_step rows_of no_rows len (ask (report s p)) (restrict camp w)).0 ≡ (work_step rows_of no_rows len (ask (report s p)) w).0
          asked-same p = rw (same_entries s camp w.entries p)
      answer (ask (who s i)) w e h = rw (same_entries s camp w.entries (eqb-true s camp e))

      state : (c : Call) (w : Work) → of_camp camp c ≡ true → fitted (work_step rows_of no_rows len c w).0 ≡ true
          → (work_step rows_of no_rows len c (restrict camp w)).1 ≡ restrict camp (work_step rows_of no_rows len c w).1
      state (key b k) w e h = own-work (key_answer len (restrict camp w) b k) (key_answer len w b k) b k w e (own-answer b k w e h)
      state (ask (report s p)) w e h = refl
      state (ask (who s i)) w e h = refl

      other : (c : Call) (w : Work) → of_camp camp c ≡ false → restrict camp (work_step rows_of no_rows len c w).1 ≡ restrict camp w
      other (key b k) w e = other-work (key_answer len w b k) b k w e
      other (ask (report s p)) w e = refl
      other (ask (who s i)) w e = refl
