-- An accepted entry is its bench's: the claim of demand 3 says so of line, record and Who (specs/Owner.antt). An item has one owner, whom it holds
-- (theorem_work/specs/Owning.antt).
-- Assumes nothing.
use mathlib.Core.Path.{◌≡◌, refl, sym, ap, ap₂, ◌∙◌, subst, subst⁻¹}
use mathlib.Core.Bool.{true}
use mathlib.Core.List.{List, [], ◌∷◌, ◌++◌}
use Prim.Native.Nat.{ℕ, ◌-◌, ◌≤◌, ◌<◌}
use borrow.Author.Tests.{le-leb, eq-eqb}
use lib.ListN.{length}
use Rattle.text.proofs.Bools.{cond-true}
use Rattle.line_items.specs.Items.{item_count}
use Rattle.line_reader.specs.Wording.{IsLine}
use Rattle.desk_log.specs.Record.{record_of}
use Rattle.desk_state.specs.Sheets.{item_at}
use Rattle.desk_state.specs.Desks.{bench_count, sheet_count, sheet_of_bench, sheet_at}
use Rattle.desk_state.specs.declared.sheet.Sheet.{Sheet}
use Rattle.desk_questions.specs.Who.{Who}
use Rattle.theorem_work.specs.Calls.{Call, key, keyed, told}
use Rattle.theorem_work.specs.Work.{Entry, records_of, on_sheet, entries_of, times_of, who_last}
use Rattle.theorem_work.specs.Owning.{OneOwner}
use Rattle.desk_entries.proofs.Camps.{sheet-in}
use Rattle.theorem_work.proofs.Times.{Benches}
use Rattle.theorem_sequences.specs.Sequences.{state_after, answer_after, work_after}
use Rattle.theorem_sequences.specs.Owner.{entering, Owned}
use Rattle.theorem_sequences.proofs.HeldOwners.{one-owner-of}
use Rattle.theorem_sequences.proofs.DeskFollows.{item-sound}
use Rattle.theorem_sequences.proofs.Demand3.{follows, demand-3}

-- of the newest entry Who tells bench and number, and how many name its item
who-newest : (e : Entry) (es : List Entry) → 1 ≤ e.item → e.item ≤ item_count
    → who_last (e ∷ es) e.item ≡ record { answer = 0; entry = length (e ∷ es); bench = e.bench; times = times_of (e ∷ es) e.item }
who-newest e es some known = rw (le-leb 1 e.item some, le-leb e.item item_count known, eq-eqb e.item e.item refl)

-- equal parts make an equal whole
who-eq : {n n' b b' m m' : ℕ} → n ≡ n' → b ≡ b' → m ≡ m'
    → ◌≡◌ {A = Who} (record { answer = 0; entry = n; bench = b; times = m }) (record { answer = 0; entry = n'; bench = b'; times = m' })
who-eq p q r = cc

module _ {Rows : Type 0} (rows_of : ℕ → Sheet → Rows) (no_rows : Rows) (log : List ℕ) (before : List Call) (bench : ℕ) where
  pub entry-owned : answer_after rows_of no_rows log before (key bench 10) ≡ keyed 0 → Owned rows_of no_rows log before bench
  entry-owned h =
      let old = demand-3 rows_of no_rows log before in
      let now = demand-3 rows_of no_rows log (entering before bench) in
      let x = now.entry before [] bench refl h in
      let e = x.new in
      let es = entries_of (sheet_of_bench bench) (work_after rows_of no_rows log before).entries in
      let s = sheet_of_bench bench in
      let there : bench < bench_count = subst (λ (b : ℕ). b < bench_count) x.of_bench
      (subst Benches x.added (follows rows_of no_rows log (entering before bench)).kept.grown.benches).0 in
      let on = sheet-in bench there in
      let own : on_sheet s e.bench ≡ true = eq-eqb (sheet_of_bench e.bench) s (ap sheet_of_bench x.of_bench) in
      let added : entries_of s (work_after rows_of no_rows log (entering before bench)).entries ≡ e ∷ es
      = ap (entries_of s) x.added ∙ cond-true (on_sheet s e.bench) (e ∷ es) es own in
      let some = x.item.first in
      let known = x.item.last in
      record {
        name = x.name;
        value = e.value;
        item = e.item;
        line = subst (λ (t : List ℕ). IsLine t x.name e.value) (x.line ∙ now.own_keys before (key bench 10 ∷ []) bench refl) x.parts;
        named = x.item;
        logged = now.used_log ∙ ap records_of x.added ∙ ap₂ (λ (r : List ℕ) b. r ++ record_of b e.item e.value) (sym old.used_log) x.of_bench;
        tells = now.who_next s e.item on
            ∙ ap told (ap (λ fs. who_last fs e.item) added ∙ who-newest e es some known
            ∙ who-eq (ap length (sym added) ∙ sym (now.count s on)) x.of_bench
            (ap (λ fs. times_of fs e.item) (sym added) ∙ sym (now.times s e.item on some known) ∙ now.logged s e.item on some known));
      }

module _ {Rows : Type 0} (rows_of : ℕ → Sheet → Rows) (no_rows : Rows) (log : List ℕ) where
  -- after every sequence all accepted entries of a sheet that name an item are of one bench, that of the first, and the item holds it
  pub one_owner : (cs : List Call) (sheet item : ℕ) → sheet < sheet_count → 1 ≤ item → item ≤ item_count
      → OneOwner (entries_of sheet (work_after rows_of no_rows log cs).entries) item (item_at (sheet_at (state_after rows_of no_rows log cs).desk sheet) item)
  one_owner cs sheet item on some known =
      let w = work_after rows_of no_rows log cs in
      let es = entries_of sheet w.entries in
      let g = (follows rows_of no_rows log cs).kept in
      subst⁻¹ (OneOwner es item) ((demand-3 rows_of no_rows log cs).items sheet item on some known)
      (one-owner-of es sheet (length es) (item - 1) item (g.grown.rightful sheet) (item-sound log w g sheet item on some known).1)
