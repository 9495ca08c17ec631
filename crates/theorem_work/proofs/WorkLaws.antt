-- The work meets the laws of `Gathering`: keys of two benches, one of them no Enter, and questions, do not see each other.
-- Assumes nothing.
use mathlib.Core.Path.{◌≡◌, refl, sym, ap, ap₂, ◌∙◌}
use mathlib.Core.Bool.{false, cond}
use mathlib.Core.List.{List, []}
use Prim.Native.Nat.{ℕ}
use lib.Dec.{eqb}
use lib.ListN.{get_or, set}
use lib.Seq.{get_or-set_other, set_comm, set-get_or}
use Rattle.text.proofs.Bools.{cond_same, cond-false}
use Rattle.line_reader.specs.Line.{class_of}
use Rattle.desk_state.specs.declared.sheet.Sheet.{Sheet}
use Rattle.theorem_work.specs.Calls.{Question, report, who, key, ask, keyed}
use Rattle.theorem_work.specs.Work.{Entry, Work, typed_by, table_answer, accepts, edited_text, text_after, with_entry_of, entries_after, key_answer, key_work, work_step}
use Rattle.theorem_work.proofs.Gathering.{Swap, Laws}

pub work-eq : {l m : List (List ℕ)} {s t : List Entry} → l ≡ m → s ≡ t → ◌≡◌ {A = Work} (record { typed = l; entries = s }) (record { typed = m; entries = t })
work-eq p q = cc

-- a key other than Enter neither reads nor changes the entries
plain-entries : (x : ℕ) (a j : ℕ) (t : List ℕ) (es : List Entry) → eqb j 10 ≡ false → entries_after x a j t es ≡ es
plain-entries x a j t es e = rw e (cond_same (accepts x) es)

-- a refused key changes nothing
refused-text : (x : ℕ) (j : ℕ) (t : List ℕ) → accepts x ≡ false → text_after x j t ≡ t
refused-text x j t e = cond-false (accepts x) (edited_text j t) t e

refused-entries : (x : ℕ) (a j : ℕ) (t : List ℕ) (es : List Entry) → accepts x ≡ false → entries_after x a j t es ≡ es
refused-entries x a j t es e = cond-false (accepts x) (cond (eqb j 10) (with_entry_of (class_of t) a t es) es) es e

pub refused-work : (x : ℕ) (a j : ℕ) (w : Work) → accepts x ≡ false → key_work x a j w ≡ w
refused-work x a j w e =
    work-eq (ap (set w.typed a) (refused-text x j (typed_by w a) e) ∙ set-get_or w.typed a []) (refused-entries x _ j (typed_by w a) w.entries e)

-- a key other than Enter reads neither the room of the log nor who owns an item
plain-answer : (len : ℕ) (es fs : List Entry) (a j : ℕ) (t : List ℕ) → eqb j 10 ≡ false → table_answer len es t a j ≡ table_answer len fs t a j
unfolding table_answer
plain-answer len es fs a j t e = rw e

module _ {Rows : Type 0} (rows_of : ℕ → Sheet → Rows) (no_rows : Rows) (len : ℕ) where
  swaps : (b i a j : ℕ) → (a ≡ b → ⊥) → eqb j 10 ≡ false → (w : Work) → Swap (work_step rows_of no_rows len) (key b i) (key a j) w
  swaps b i a j n e w =
      let t = w.typed in
      let lb = get_or t b [] in
      let la = get_or t a [] in
      let es = w.entries in
      let xb = table_answer len es lb b i in
      let xa = table_answer len es la a j in
      let tb = text_after xb i lb in
      let ta = text_after xa j la in
      let fs = entries_after xb b i lb es in
      let apart : b ≡ a → ⊥ = λ x. n (sym x) in
      let b-line = get_or-set_other t a b ta [] apart in
      let a-line = get_or-set_other t b a tb [] n in
      let same = plain-entries xa a j la es e in
      let a-answer = plain-answer len fs es a j la e in
      let b-text = ap₂ (λ l gs. text_after (table_answer len gs l b i) i l) b-line same in
      let a-text = ap (λ l. text_after (table_answer len fs l a j) j l) a-line ∙ ap (λ x. text_after x j la) a-answer in
      record {
        first = ap₂ (λ l gs. keyed (table_answer len gs l b i)) b-line same;
        second = ap (λ l. keyed (table_answer len fs l a j)) a-line ∙ ap keyed a-answer;
        state = work-eq
            (ap (λ x. set (set t b tb) a x) a-text ∙ set_comm t b a tb ta apart ∙ ap (λ x. set (set t a ta) b x) (sym b-text))
            (plain-entries (table_answer len fs (get_or (set t b tb) a []) a j) a j (get_or (set t b tb) a []) fs e ∙ sym (ap₂ (λ l gs. entries_after (table_answer len gs l b i) b i l gs) b-line same));
      }

  pub work-laws : Laws (work_step rows_of no_rows len) (λ w. Unit {0})
  work-laws = record { keep = λ c w h. tt; ask-state = ask-same; ask-answer = ask-entries; swap = λ b i a j n e w h. swaps b i a j n e w }
    where
      ask-same : (q : Question) (w : Work) → Unit {0} → (work_step rows_of no_rows len (ask q) w).1 ≡ w
      ask-same (report s p) w h = refl
      ask-same (who s i) w h = refl

      ask-entries : (q : Question) (a j : ℕ) → eqb j 10 ≡ false → (w : Work) → Unit {0}
          → (work_step rows_of no_rows len (ask q) (work_step rows_of no_rows len (key a j) w).1).0 ≡ (work_step rows_of no_rows len (ask q) w).0
      ask-entries (report s p) a j e w h = ap (λ es. (work_step rows_of no_rows len (ask (report s p)) (record { typed = w.typed; entries = es })).0) (plain-entries (key_answer len w a j) a j (typed_by w a) w.entries e)
      ask-entries (who s i) a j e w h = ap (λ es. (work_step rows_of no_rows len (ask (who s i)) (record { typed = w.typed; entries = es })).0) (plain-entries (key_answer len w a j) a j (typed_by w a) w.entries e)
