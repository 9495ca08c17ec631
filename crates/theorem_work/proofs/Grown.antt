-- What holds of every work that a sequence of calls leaves, and that its keys are answered by the table.
-- Assumes nothing.
use mathlib.Core.Path.{◌≡◌, refl, subst}
use mathlib.Core.Bool.{Bool, true, false, cond, ◌&&◌}
use mathlib.Core.List.{List, [], ◌∷◌, ◌++◌}
use Prim.Native.Nat.{ℕ, zero, suc, ◌-◌, ◌≤◌, ◌<◌}
use native.Mathlib.Omega.{arith}
use borrow.Author.Tests.{ltb-true, leb-true, le-leb, eqb-true}
use lib.Dec.{ltb, leb, eqb}
use lib.ListN.{length, get_or, take, drop, set, length-append, length-take, length-drop}
use Rattle.text.specs.Run.{all, between}
use Rattle.text.proofs.Bools.{and_both, cond-first, and-true-true, cond-keeps}
use Rattle.text.proofs.Runs.{all_append, all_take}
use Rattle.line_items.specs.Typed.{line_most, is_typed}
use Rattle.line_reader.specs.Line.{class_of}
use Rattle.desk_state.specs.Desks.{bench_count, sheet_of_bench}
use Rattle.desk_state.specs.declared.sheet.Sheet.{Sheet}
use Rattle.desk_soundness.specs.SoundLog.{log_most}
use Rattle.theorem_refusals.specs.Table.{Answers}
use Rattle.theorem_refusals.specs.KeyNumber.{byte_number}
use Rattle.theorem_refusals.proofs.KeyAnswers.{Fits, number-answers}
use Rattle.theorem_work.specs.Calls.{Call, key, ask, report, who, final}
use Rattle.theorem_work.specs.Work.{Entry, Work, no_work, typed_by, records_of, entries_of, may_write, table_answer, accepts, edited_text, text_after, with_entry_of, key_answer, key_work, work_step}
use Rattle.theorem_work.specs.Owning.{OwnedByAnother}
use Rattle.theorem_work.specs.WorkTable.{work_table}
use Rattle.theorem_work.proofs.Times.{Fitting, Benches}
use Rattle.theorem_work.proofs.EntryWords.{enter-accepts, accepted-only}
use Rattle.theorem_work.proofs.OwnerLaws.{AllRightful, may-so, key-rightful}
use Rattle.theorem_work.proofs.OwnKeys.{none-typed}

pub record Grown (w : Work) : Type 0 where
  -- what a bench has typed is at most 200 bytes, all 32 to 126
  pub ready : (bench : ℕ) → Fits (typed_by w bench)
  -- each entry's record has a length of two bytes, its bench is there, and was allowed to make it
  pub fitting : Fitting w.entries
  pub benches : Benches w.entries
  pub rightful : AllRightful w.entries

-- ---- texts

fits-short : (t : List ℕ) → Fits t → length t ≤ line_most
fits-short t f = leb-true (length t) line_most (and_both (leb (length t) line_most) (all is_typed t) f).0

fits-of : (t : List ℕ) → length t ≤ line_most → all is_typed t ≡ true → Fits t
fits-of t s h = and-true-true (leb (length t) line_most) (all is_typed t) (le-leb (length t) line_most s) h

none-fits : Fits []
unfolding all
none-fits = refl

edited-fits : (byte : ℕ) (t : List ℕ) → (is_typed byte ≡ true → length t < line_most) → Fits t → Fits (edited_text byte t)
unfolding all
edited-fits byte t room f =
    let h = (and_both (leb (length t) line_most) (all is_typed t) f).1 in
    cond-keeps Fits (is_typed byte) _ _
    (λ p. let r = room p in fits-of (t ++ (byte ∷ [])) (simp length-append (omega arith)) (all_append is_typed t (byte ∷ []) h (and-true-true (is_typed byte) true p refl)))
    (λ p. cond-keeps Fits (eqb byte 8) _ _ (λ q. let s = fits-short t f in fits-of (take (length t - 1) t) (simp length-take (omega arith)) (all_take is_typed (length t - 1) t h)) (λ q. none-fits))

-- a byte that is accepted has room on its line
typed-room : (len : ℕ) (es : List Entry) (t : List ℕ) (bench byte : ℕ) → table_answer len es t bench byte ≡ 0 → is_typed byte ≡ true → length t < line_most
unfolding table_answer
typed-room len es t bench byte h p =
    let a = byte_number t (length t) (λ item. may_write (entries_of (sheet_of_bench bench) es) item bench) (len - length (records_of es)) byte in
    let no-bench : ◌≡◌ {A = ℕ} 1 0 → ⊥ = λ q. omega arith in
    let not_sound : ◌≡◌ {A = ℕ} 2 0 → ⊥ = λ q. omega arith in
    let full : ◌≡◌ {A = ℕ} 4 0 → ⊥ = λ q. omega arith in
    let h1 = (cond-first (ltb bench bench_count) (cond (leb len log_most) a 2) 1 0 no-bench h).1 in
    let h2 = (cond-first (leb len log_most) a 2 0 not_sound h1).1 in
    let h3 : ◌≡◌ {A = ℕ} (cond (ltb (length t) line_most) 0 4) 0 = rw p at h2 in
    ltb-true (length t) line_most (cond-first (ltb (length t) line_most) 0 4 0 full h3).0

-- nothing is typed at a bench that is not there
fits-set : (ts : List (List ℕ)) (i j : ℕ) (x : List ℕ) → Fits x → Fits (get_or ts j []) → Fits (get_or (set ts i x) j [])
fits-set [] i j x f g = none-fits
fits-set (t ∷ ts) zero zero x f g = f
fits-set (t ∷ ts) zero (suc j) x f g = g
fits-set (t ∷ ts) (suc i) zero x f g = g
fits-set (t ∷ ts) (suc i) (suc j) x f g = fits-set ts i j x f g

-- ---- a call

-- an accepted key is of a bench that is there
accepted-bench : (len : ℕ) (es : List Entry) (t : List ℕ) (bench byte : ℕ) → table_answer len es t bench byte ≡ 0 → bench < bench_count
unfolding table_answer
accepted-bench len es t bench byte h =
    let no-bench : ◌≡◌ {A = ℕ} 1 0 → ⊥ = λ q. omega arith in
    ltb-true bench bench_count (cond-first (ltb bench bench_count) _ 1 0 no-bench h).0

module _ (len : ℕ) (w : Work) (g : Grown w) (bench byte : ℕ) where
  abbrev t : List ℕ
  t = typed_by w bench

  abbrev a : ℕ
  a = key_answer len w bench byte

  -- what holds of the entries, and of them with an accepted one, holds of those after the key
  of-entries : (P : List Entry → Type 0) → P w.entries
      → ((item start : ℕ) → bench < bench_count → P (record { bench = bench; item = item; value = drop start t; line = t } ∷ w.entries))
      → P (key_work a bench byte w).entries
  of-entries P p new = go (accepts a) (eqb byte 10) refl refl
    where
      go : (x y : Bool) → accepts a ≡ x → eqb byte 10 ≡ y → P (key_work a bench byte w).entries
      go false y e f = rw e p
      go true false e f = rw (e, f) p
      go true true e f =
          let z = accepted-only a e in
          let c = enter-accepts len w.entries t bench (rw (eqb-true byte 10 f) at z) in
          rw (e, f, c.class-is) (new c.item c.start (accepted-bench len w.entries t bench byte z))

  pub key-grown : Grown (key_work a bench byte w)
  key-grown =
      let short = fits-short t (g.ready bench) in
      record {
        ready = λ b. fits-set w.typed bench b (text_after a byte t)
            (cond-keeps Fits (accepts a) _ _ (λ e. edited-fits byte t (typed-room len w.entries t bench byte (accepted-only a e)) (g.ready bench)) (λ e. g.ready bench)) (g.ready b);
        fitting = of-entries Fitting g.fitting (λ item start b. (simp length-drop (omega arith), g.fitting));
        benches = of-entries Benches g.benches (λ item start b. (b, g.benches));
        rightful = key-rightful len w bench byte g.rightful;
      }

  -- a key is answered by the table
  pub work-table : Answers (work_table len w bench byte) a
  unfolding table_answer
  work-table =
      let es = entries_of (sheet_of_bench bench) w.entries in
      number-answers (len ≤ log_most) t (length t) (OwnedByAnother es bench) (len - length (records_of w.entries)) bench byte (leb len log_most)
      (λ e. leb-true len log_most e, λ h. le-leb len log_most h) (λ item. may_write es item bench) (may-so es bench) (λ h. (fits-short t (g.ready bench), g.ready bench))

pub none-grown : Grown no_work
none-grown = record { ready = λ bench. subst Fits (none_is bench) none-fits; fitting = tt; benches = tt; rightful = λ sheet. tt }
  where
    none_is : (bench : ℕ) → [] ≡ typed_by no_work bench
    none_is bench = rw (none-typed bench_count bench)

module _ {Rows : Type 0} (rows_of : ℕ → Sheet → Rows) (no_rows : Rows) (len : ℕ) where
  pub step-grown : (c : Call) (w : Work) → Grown w → Grown (work_step rows_of no_rows len c w).1
  step-grown (key bench byte) w g = key-grown len w g bench byte
  step-grown (ask (report sheet profile)) w g = g
  step-grown (ask (who sheet item)) w g = g

  pub all_grown : (cs : List Call) (w : Work) → Grown w → Grown (final (work_step rows_of no_rows len) w cs)
  all_grown [] w g = g
  all_grown (c ∷ cs) w g = all_grown cs (work_step rows_of no_rows len c w).1 (step-grown c w g)
