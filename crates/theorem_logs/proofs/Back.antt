-- The used log gives back the sheets: each entry that a key makes is taken by the reader, on the sheets that the entries before it made.
-- Assumes nothing.
use mathlib.Core.Path.{◌≡◌, refl, sym, ap, ◌∙◌}
use mathlib.Core.Bool.{Bool, true, false, cond}
use mathlib.Core.List.{List, [], ◌∷◌, ◌++◌, append_assoc, append-nil}
use Prim.Native.Nat.{ℕ, ◌+◌, ◌-◌, ◌≤◌, ◌<◌}
use native.Mathlib.Omega.{arith}
use borrow.Author.Tests.{ltb-true, lt-ltb, leb-true, le-leb, eqb-true}
use lib.Dec.{ltb, leb, eqb}
use lib.ListN.{length, drop, length-append}
use Rattle.text.proofs.Bools.{cond-first}
use Rattle.line_kinds.specs.Kinds.{fits}
use Rattle.line_reader.specs.Line.{class_of, entry_at}
use Rattle.line_reader.proofs.Entries.{entry-is}
use Rattle.desk_log.specs.Record.{record_length, record_of}
use Rattle.desk_log.proofs.Records.{record-length}
use Rattle.desk_state.specs.Desks.{bench_count, sheet_of_bench, fresh_desk}
use Rattle.desk_state.specs.declared.sheet.Item.{Item}
use Rattle.desk_state.specs.declared.sheet.Sheet.{Sheet}
use Rattle.desk_state.specs.declared.desk.Desk.{Desk}
use Rattle.desk_soundness.specs.SoundLog.{log_most}
use Rattle.desk_entries.specs.Entry.{open_to, own_item}
use Rattle.desk_entries.proofs.Camps.{sheet-in}
use Rattle.line_kinds.proofs.Fitting.{fitting}
use Rattle.reader_cuts.specs.Reading.{length_most, ended}
use Rattle.reader_records.specs.Shape.{shaped}
use Rattle.reader_entries.specs.Judged.{refusal_of, store_of, read_on}
use Rattle.theorem_refusals.specs.KeyNumber.{enter_number}
use Rattle.theorem_history.specs.Histories.{Noted, record_for, records, Grown, still, entry}
use Rattle.theorem_history.proofs.Back.{read_back}
use Rattle.theorem_work.specs.Calls.{Call, key, ask, report, who, final}
use Rattle.theorem_work.specs.Work.{Entry, Work, no_work, typed_by, records_of, entries_of, may_write, table_answer, accepts, key_answer, key_work, work_step}
use Rattle.theorem_work.proofs.EntryWords.{enter-accepts, accepted-only}
use Rattle.theorem_sequences.specs.Calls.{State}
use Rattle.theorem_sequences.specs.Sequences.{state_after, work_after}
use Rattle.theorem_sequences.proofs.ItemLaws.{entry-fits}
use Rattle.theorem_sequences.proofs.HeldOwners.{open-to}
use Rattle.theorem_sequences.proofs.Sheets.{sheets_of, sheets-more}
use Rattle.theorem_sequences.proofs.DeskFollows.{Good, item-sound, desk-follows}
use Rattle.theorem_sequences.proofs.Demand3.{follows, demand-3}
use Rattle.theorem_logs.specs.GivesBack.{only_sheets, GivesBack}
use Rattle.theorem_logs.specs.History.{note, oldest_first}

-- ---- records in order

records-append : (es fs : List Noted) → records (es ++ fs) ≡ records es ++ records fs
records-append [] fs = refl
records-append (e ∷ es) fs = ap (λ (l : List ℕ). record_for e ++ l) (records-append es fs) ∙ sym (append_assoc (record_for e) (records es) (records fs))

-- the work's records are those of the history
pub records-in-order : (es : List Entry) → records (oldest_first es) ≡ records_of es
records-in-order [] = refl
records-in-order (e ∷ es) =
    records-append (oldest_first es) (note e ∷ []) ∙ ap (λ (l : List ℕ). l ++ records (note e ∷ [])) (records-in-order es)
    ∙ ap (λ (l : List ℕ). records_of es ++ l) (append-nil (record_of e.bench e.item e.value))

-- one entry more at the end of a history
grown-more : {s t u : Desk} {at : ℕ} {es : List Noted} (e : Noted) → Grown refusal_of store_of s at es t → 1 ≤ length e.value → record_length e.value ≤ length_most
    → refusal_of (at + length (records es)) (record_for e) t ≡ 0 → store_of (record_for e) t ≡ u → Grown refusal_of store_of s at (es ++ (e ∷ [])) u
grown-more {u = u} {at = at} e (still {s = s}) a b c d =
    let n : at + 0 ≡ at = omega arith in
    entry {t = u} {e = e} {es = []} a b (rw n at c) (rw d still)
grown-more {at = at} e (entry {e = f} {es = es} a' b' c' g) a b c d =
    let n : at + length (record_for f ++ records es) ≡ at + record_length f.value + length (records es)
    = omega (arith, length-append (record_for f) (records es), record-length f.bench f.item f.value) in
    entry a' b' c' (grown-more e g a b (rw n at c) d)

-- ---- an entry that a key makes

-- what an accepted Enter says of its entry
pub record Made (len : ℕ) (es : List Entry) (bench item : ℕ) (v : List ℕ) : Type 0 where
  pub bench_in : bench < bench_count
  pub fit : fits item v ≡ true
  pub may : may_write (entries_of (sheet_of_bench bench) es) item bench ≡ true
  pub most : len ≤ log_most
  pub room : record_length v ≤ len - length (records_of es)

made : (len : ℕ) (es : List Entry) (t : List ℕ) (bench item start : ℕ) → class_of t ≡ entry_at item start → table_answer len es t bench 10 ≡ 0 → Made len es bench item (drop start t)
unfolding table_answer Rattle.text.specs.Run.between
made len es t bench item start c h =
    let may : ℕ → Bool = λ k. may_write (entries_of (sheet_of_bench bench) es) k bench in
    let free = len - length (records_of es) in
    let a = enter_number (class_of t) t may free in
    let no-bench : ◌≡◌ {A = ℕ} 1 0 → ⊥ = λ q. omega (arith, q) in
    let not_sound : ◌≡◌ {A = ℕ} 2 0 → ⊥ = λ q. omega (arith, q) in
    let foreign : ◌≡◌ {A = ℕ} 9 0 → ⊥ = λ q. omega (arith, q) in
    let full : ◌≡◌ {A = ℕ} 8 0 → ⊥ = λ q. omega (arith, q) in
    let h1 = cond-first (ltb bench bench_count) (cond (leb len log_most) a 2) 1 0 no-bench h in
    let h2 = cond-first (leb len log_most) a 2 0 not_sound h1.1 in
    let h3 : enter_number (entry_at item start) t may free ≡ 0 = rw c at h2.1 in
    let h4 = cond-first (may item) (cond (leb (record_length (drop start t)) free) 0 8) 9 0 foreign h3 in
    let h5 = cond-first (leb (record_length (drop start t)) free) 0 8 0 full h4.1 in
    record {
      bench_in = ltb-true bench bench_count h1.0;
      fit = entry-fits t item start (entry-is t item start c);
      may = h4.0;
      most = leb-true len log_most h2.0;
      room = leb-true (record_length (drop start t)) free h5.0;
    }

-- the reader takes its record, and stores what the desk stored
module _ (log : List ℕ) (w : Work) (g : Good log w) (e : Entry) (m : Made (length log) w.entries e.bench e.item e.value) where
  is_open : open_to (own_item (only_sheets (sheets_of w.entries)) e.bench e.item) e.bench ≡ true
  is_open =
      let s = sheet_of_bench e.bench in
      let own = entries_of s w.entries in
      let f = fitting e.item e.value m.fit in
      let x = item-sound log w g s e.item (sheet-in e.bench m.bench_in) f.some f.known in
      ap (λ (i : Item). open_to i e.bench) x.0 ∙ open-to own s (length own) (e.item - 1) e.item e.bench (g.grown.rightful s) x.1 ∙ m.may

  taken : (at : ℕ) → at ≡ length (records_of w.entries) → refusal_of at (record_for (note e)) (only_sheets (sheets_of w.entries)) ≡ 0
  unfolding refusal_of shaped
  taken at p =
      let l = record-length e.bench e.item e.value in
      simp (lt-ltb e.bench bench_count m.bench_in, m.fit, is_open, le-leb (at + length (record_for (note e))) log_most (omega (arith, p, l, m.most, m.room, g.room)))

  stored : store_of (record_for (note e)) (only_sheets (sheets_of w.entries)) ≡ only_sheets (sheets_of (e ∷ w.entries))
  unfolding store_of
  stored = let f = fitting e.item e.value m.fit in ap only_sheets (sheets-more e w.entries m.bench_in f.some f.known)

-- ---- any calls

-- the history leads from a fresh desk to the work's sheets
abbrev pub Back : Work → Type 0
Back w = Grown refusal_of store_of fresh_desk 0 (oldest_first w.entries) (only_sheets (sheets_of w.entries))

back_none : Back no_work
back_none = still

module _ (log : List ℕ) (w : Work) (g : Good log w) (h : Back w) where
  back-entry : (e : Entry) → Made (length log) w.entries e.bench e.item e.value
      → Grown refusal_of store_of fresh_desk 0 (oldest_first (e ∷ w.entries)) (only_sheets (sheets_of (e ∷ w.entries)))
  back-entry e m =
      let f = fitting e.item e.value m.fit in
      let at : 0 + length (records (oldest_first w.entries)) ≡ length (records_of w.entries) = omega (arith, ap length (records-in-order w.entries)) in
      grown-more (note e) h f.long (omega (arith, f.short)) (taken log w g e m (0 + length (records (oldest_first w.entries))) at) (stored log w g e m)

  back-key : (bench byte : ℕ) → Back (key_work (key_answer (length log) w bench byte) bench byte w)
  back-key bench byte = go (accepts (key_answer (length log) w bench byte)) (eqb byte 10) refl refl
    where
      go : (x y : Bool) → accepts (key_answer (length log) w bench byte) ≡ x → eqb byte 10 ≡ y → Back (key_work (key_answer (length log) w bench byte) bench byte w)
      go false y p q = rw p h
      go true false p q = rw (p, q) h
      go true true p q =
          let t = typed_by w bench in
          let z : table_answer (length log) w.entries t bench 10 ≡ 0 = rw (eqb-true byte 10 q) at (accepted-only (key_answer (length log) w bench byte) p) in
          let c = enter-accepts (length log) w.entries t bench z in
          let k = made (length log) w.entries t bench c.item c.start c.class-is z in
          rw (p, q, c.class-is) (back-entry (record { bench = bench; item = c.item; value = drop c.start t; line = t }) k)

module _ {Rows : Type 0} (rows_of : ℕ → Sheet → Rows) (no_rows : Rows) (log : List ℕ) where
  back_step : (c : Call) (w : Work) → Good log w → Back w → Back (work_step rows_of no_rows (length log) c w).1
  back_step (key bench byte) w g h = back-key log w g h bench byte
  back_step (ask (report sheet profile)) w g h = h
  back_step (ask (who sheet item)) w g h = h

  back_from : (cs : List Call) (w : Work) → Good log w → Back w → Back (final (work_step rows_of no_rows (length log)) w cs)
  back_from [] w g h = h
  back_from (c ∷ cs) w g h = back_from cs (work_step rows_of no_rows (length log) c w).1 ((desk-follows rows_of no_rows log).keep c w g) (back_step c w g h)

  pub back-after : (cs : List Call) → Back (work_after rows_of no_rows log cs)
  back-after cs = back_from cs no_work (follows rows_of no_rows log []).kept back_none

  -- after every sequence of calls, from a fresh desk and any log
  pub gives_back : (cs : List Call) → GivesBack rows_of no_rows log cs
  gives_back cs =
      let es = (work_after rows_of no_rows log cs).entries in
      let end = (follows rows_of no_rows log cs).end in
      let bytes = (demand-3 rows_of no_rows log cs).used_log ∙ sym (records-in-order es) in
      let used : (state_after rows_of no_rows log cs).used ≡ 0 + length (records (oldest_first es)) = ap (λ (s : State). s.used) end ∙ omega (arith, ap length (records-in-order es)) in
      ap (read_on true fresh_desk 0) bytes ∙ read_back refusal_of store_of (back-after cs)
      ∙ ap (λ (ss : List Sheet). ended 0 (only_sheets ss) (0 + length (records (oldest_first es)))) (sym (ap (λ (s : State). s.desk.sheets) end))
      ∙ ap (λ (n : ℕ). ended 0 (only_sheets (state_after rows_of no_rows log cs).desk.sheets) n) (sym used)
