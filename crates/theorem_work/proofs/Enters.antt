-- The entries of a work are the Enters with answer 0, each with the line that its bench had typed.
-- Assumes nothing.
use mathlib.Core.Path.{◌≡◌, refl, ap, ◌∙◌}
use mathlib.Core.Bool.{Bool, true, false, cond, ◌&&◌}
use mathlib.Core.List.{List, [], ◌∷◌, map, cons≢nil}
use Prim.Native.Nat.{ℕ}
use borrow.Author.Tests.{eqb-true}
use lib.Dec.{eqb}
use lib.ListN.{drop}
use Rattle.text.specs.Run.{between}
use Rattle.desk_state.specs.declared.sheet.Sheet.{Sheet}
use Rattle.theorem_work.specs.Calls.{Call, key, ask, report, who, answered, final}
use Rattle.theorem_work.specs.Work.{Entry, Work, typed_by, accepts, with_entry_of, key_answer, key_work, work_step}
use Rattle.theorem_work.specs.Entered.{Entered, entered_first, entered_by}
use Rattle.theorem_work.proofs.EntryWords.{entry-worded, enter-accepts, accepted-only}

-- an Enter that is accepted
pub enter-entered : (len : ℕ) (w : Work) (bench : ℕ) → key_answer len w bench 10 ≡ 0 → Entered bench w (key_work (key_answer len w bench 10) bench 10 w)
unfolding between
enter-entered len w bench h =
    let t = typed_by w bench in
    let c = enter-accepts len w.entries t bench h in
    let x = entry-worded t c.item c.start c.class-is in
    let new : Entry = record { bench = bench; item = c.item; value = drop c.start t; line = t } in
    record {
      new = new;
      added = rw h (ap (λ k. with_entry_of k bench t w.entries) c.class-is);
      of_bench = refl;
      line = refl;
      name = x.name;
      parts = x.parts;
      item = x.item;
      emptied = rw h;
    }

abbrev benches : List Entry → List ℕ
benches es = map (λ (e : Entry). e.bench) es

module _ (len : ℕ) (w : Work) (bench byte : ℕ) where
  key-benches : benches (key_work (key_answer len w bench byte) bench byte w).entries
      ≡ cond (eqb byte 10 && accepts (key_answer len w bench byte)) (bench ∷ benches w.entries) (benches w.entries)
  key-benches = go (eqb byte 10) (accepts (key_answer len w bench byte)) refl refl
    where
      go : (x y : Bool) → eqb byte 10 ≡ x → accepts (key_answer len w bench byte) ≡ y
          → benches (key_work (key_answer len w bench byte) bench byte w).entries
          ≡ cond (eqb byte 10 && accepts (key_answer len w bench byte)) (bench ∷ benches w.entries) (benches w.entries)
      go false false p q = rw (q, p)
      go false true p q = rw (q, p)
      go true false p q = rw (q, p)
      go true true p q =
          let t = typed_by w bench in
          let e = eqb-true byte 10 p in
          let a = accepted-only (key_answer len w bench byte) q in
          let c = enter-accepts len w.entries t bench (rw e at a) in
          rw (q, p, c.class-is)

  key-adds-none : cond (eqb byte 10 && accepts (key_answer len w bench byte)) (bench ∷ []) [] ≡ []
      → (key_work (key_answer len w bench byte) bench byte w).entries ≡ w.entries
  key-adds-none h = go (eqb byte 10) (accepts (key_answer len w bench byte)) refl refl
    where
      go : (x y : Bool) → eqb byte 10 ≡ x → accepts (key_answer len w bench byte) ≡ y → (key_work (key_answer len w bench byte) bench byte w).entries ≡ w.entries
      go false false p q = rw q
      go false true p q = rw (q, p)
      go true false p q = rw q
      go true true p q = absurd (cons≢nil (rw (p, q) at h))

module _ {Rows : Type 0} (rows_of : ℕ → Sheet → Rows) (no_rows : Rows) (len : ℕ) where
  -- a call that is no Enter with answer 0
  pub adds_none : (c : Call) (w : Work) → entered_first c (work_step rows_of no_rows len c w).0 [] ≡ [] → (work_step rows_of no_rows len c w).1.entries ≡ w.entries
  adds_none (key bench byte) w h = key-adds-none len w bench byte h
  adds_none (ask (report sheet profile)) w h = refl
  adds_none (ask (who sheet item)) w h = refl

  step-benches : (c : Call) (w : Work) → benches (work_step rows_of no_rows len c w).1.entries ≡ entered_first c (work_step rows_of no_rows len c w).0 (benches w.entries)
  step-benches (key bench byte) w = key-benches len w bench byte
  step-benches (ask (report sheet profile)) w = refl
  step-benches (ask (who sheet item)) w = refl

  -- of a whole sequence
  pub entered-benches : (cs : List Call) (w : Work) → benches (final (work_step rows_of no_rows len) w cs).entries ≡ entered_by (benches w.entries) (answered (work_step rows_of no_rows len) w cs)
  entered-benches [] w = refl
  entered-benches (c ∷ cs) w =
      entered-benches cs (work_step rows_of no_rows len c w).1 ∙ ap (λ bs. entered_by bs (answered (work_step rows_of no_rows len) (work_step rows_of no_rows len c w).1 cs)) (step-benches c w)
