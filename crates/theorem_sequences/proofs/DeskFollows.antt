-- Desk and log follow the work, call by call: they are a function of it.
-- Assumes nothing.
use Rattle.std.specs.Prelude.{Result, Ok, Err}
use mathlib.Core.Path.{◌≡◌, refl, sym, ap, ◌∙◌}
use mathlib.Core.Bool.{Bool, true, false, cond, ◌&&◌, and-true}
use mathlib.Core.List.{List, [], ◌∷◌, ◌++◌, map, append_assoc}
use Prim.Native.Nat.{ℕ, suc, ◌+◌, ◌-◌, ◌*◌, ◌≤◌, ◌<◌}
use native.Mathlib.Nat.{zero-add}
use native.Mathlib.Omega.{arith}
use borrow.Author.Tests.{ltb-true, leb-true, le-leb, ne_eqb, eqb-true}
use lib.Dec.{ltb, leb, eqb}
use lib.ListN.{length, take, drop, set, length-append, length-drop, length-map}
use lib.Seq.{take_at, drop-append-add, drop-drop}
use Rattle.text.specs.Run.{between}
use Rattle.text.proofs.Bools.{and_both, cond_sim, cond-true}
use Rattle.line_items.specs.Items.{item_count, is_item}
use Rattle.line_items.specs.Typed.{line_most, is_typed}
use Rattle.line_reader.specs.Line.{class_of, entry_at}
use Rattle.line_reader.specs.declared.line.LineEntry.{LineEntry}
use Rattle.line_reader.specs.declared.line.NoEntry.{NoEntry}
use Rattle.line_reader.specs.declared.line.NoEntry.TheVariants as no_entry
use Rattle.line_reader.proofs.Entries.{entry-is}
use Rattle.desk_log.specs.Record.{record_length, record_of}
use Rattle.desk_log.proofs.Records.{record-length}
use Rattle.desk_state.specs.Lines.{typed, line_of, empty_line, appended, erased}
use Rattle.desk_state.specs.Sheets.{no_item, item_at}
use Rattle.desk_state.specs.Desks.{bench_count, sheet_count, sheet_of_bench, is_sheet, no_line, line_at, no_sheet, sheet_at}
use Rattle.rows.specs.Rows.{is_profile}
use Rattle.desk_soundness.specs.Sound.{sound_item, sound_sheet, sound_lines, sound_sheets, sound_desk}
use Rattle.desk_soundness.specs.SoundLog.{log_most, counts_of, entry_count, sound_log}
use Rattle.desk_state.specs.declared.line.Line.{Line}
use Rattle.desk_state.specs.declared.sheet.Item.{Item}
use Rattle.desk_state.specs.declared.sheet.Sheet.{Sheet}
use Rattle.desk_state.specs.declared.desk.Desk.{Desk}
use Rattle.desk_soundness.proofs.Everys.{every-each}
use Rattle.desk_entries.specs.Entry.{open_to, own_item}
use Rattle.desk_keys.specs.Key.{After, refused, edited, entered, stored, stored_if_open, entered_as, key_step, key_of}
use Rattle.desk_questions.specs.Who.{Who, nobody, told_of, who_of}
use Rattle.theorem_work.specs.Calls.{Call, key, ask, report, who, Reply, keyed, reported, told}
use Rattle.theorem_sequences.specs.Calls.{State, left_by_key, report_of, step}
use Rattle.theorem_refusals.specs.KeyNumber.{enter_number, byte_number}
use Rattle.theorem_work.specs.Work.{Entry, Work, typed_by, records_of, entries_of, times_of, last_of, sheet_of, may_write, table_answer, accepts, edited_text, key_answer, key_work, last_told, who_last, who_on, report_on, work_step}
use Rattle.theorem_sequences.specs.Shaped.{Shaped}
use Rattle.theorem_sequences.proofs.Lists.{map-set, get_d_map}
use Rattle.theorem_sequences.proofs.LineLaws.{sound-canonical, typed-line_of, appended-line_of, erased-line_of, shorter}
use Rattle.theorem_sequences.proofs.ItemLaws.{filled-some}
use Rattle.theorem_sequences.proofs.Kept.{Keeps, key-keeps, line-sound}
use Rattle.theorem_work.proofs.WorkLaws.{refused-work}
use Rattle.desk_entries.proofs.Camps.{sheet-in}
use Rattle.theorem_work.proofs.Times.{six, both-counts}
use Rattle.theorem_work.proofs.Grown.{Grown, key-grown}
use Rattle.theorem_sequences.proofs.HeldOwners.{open-to}
use Rattle.theorem_sequences.proofs.Sheets.{item-at, sheets_of, sheet-at, sheets-more}
use Rattle.theorem_work.proofs.Simulation.{Follows}

-- ---- the desk, the used number and the log of a work

abbrev pub desk_of : Work → Desk
desk_of w = record { lines = map line_of w.typed; sheets = sheets_of w.entries }

abbrev pub log_of : List ℕ → List Entry → List ℕ
log_of log es = records_of es ++ drop (length (records_of es)) log

abbrev pub work_state : List ℕ → Work → State
work_state log w = record { desk = desk_of w; used = length (records_of w.entries); log = log_of log w.entries }

-- an answer, and what goes with a work
abbrev after_work : List ℕ → ℕ → Work → After
after_work log a w = record { answer = a; desk = desk_of w; used = length (records_of w.entries); log = log_of log w.entries }

-- what holds of every work that a sequence leaves
pub record Good (log : List ℕ) (w : Work) : Type 0 where
  pub shape : Shaped (desk_of w)
  pub sound : sound_desk (desk_of w) ≡ true
  pub room : length (records_of w.entries) ≤ length log
  pub grown : Grown w

pub log_length : (log : List ℕ) (es : List Entry) → length (records_of es) ≤ length log → length (log_of log es) ≡ length log
log_length log es h = simp (length-append, length-drop) (omega arith)

-- of the log's part of soundness only its length is in question
pub log_sound : (log : List ℕ) (w : Work) → Good log w
    → sound_log (desk_of w) (length (log_of log w.entries)) (length (records_of w.entries)) ≡ leb (length log) log_most
unfolding sound_log counts_of
log_sound log w g =
    let u = length (records_of w.entries) in
    let counted : 6 * entry_count (desk_of w) ≤ u = omega (arith, both-counts w.entries g.grown.benches, six w.entries) in
    rw (log_length log w.entries g.room, le-leb u (length log) g.room, le-leb (6 * entry_count (desk_of w)) u counted)
    (and-true (leb (length log) log_most))

-- ---- the sheets

-- each sheet holds, at each item, the last of its own entries that names it, which is a sound item
pub item-sound : (log : List ℕ) (w : Work) → Good log w → (s item : ℕ) → s < sheet_count → 1 ≤ item → item ≤ item_count
    → (item_at (sheet_at (desk_of w) s) item ≡ last_of (entries_of s w.entries) item)
    × (sound_item s (length (entries_of s w.entries)) (item - 1) (last_of (entries_of s w.entries) item) ≡ true)
unfolding sound_desk sound_sheet
item-sound log w g s item on some known =
    let es = entries_of s w.entries in
    let at = item-at es item some known in
    let on-desk = sheet-at w.entries s on in
    let sheet : sound_sheet (0 + s) (sheet_at (desk_of w) s) ≡ true = every-each sound_sheet (sheets_of w.entries) 0 s no_sheet (and_both (sound_lines (desk_of w)) (sound_sheets (desk_of w)) g.sound).1 on in
    let own : sound_sheet s (sheet_of es) ≡ true = rw (zero-add s, on-desk) at sheet in
    let sound = every-each (sound_item s (length es)) (sheet_of es).items 0 (item - 1) no_item own (omega arith) in
    (ap (λ (x : Sheet). item_at x item) on-desk ∙ at, rw (zero-add (item - 1), at) at sound)

-- ---- equal parts make equal wholes

desk-eq : {ls ms : List Line} {ss ts : List Sheet} → ls ≡ ms → ss ≡ ts → ◌≡◌ {A = Desk} (record { lines = ls; sheets = ss }) (record { lines = ms; sheets = ts })
desk-eq p q = cc

after-eq : {a : ℕ} {d e : Desk} {u v : ℕ} {l m : List ℕ} → d ≡ e → u ≡ v → l ≡ m
    → ◌≡◌ {A = After} (record { answer = a; desk = d; used = u; log = l }) (record { answer = a; desk = e; used = v; log = m })
after-eq p q r = cc

-- a record after the used part of the log
log-more : (r v log : List ℕ) (n : ℕ) → length v ≡ n
    → take (length r) (r ++ drop (length r) log) ++ (v ++ drop (length r + n) (r ++ drop (length r) log)) ≡ (r ++ v) ++ drop (length (r ++ v)) log
log-more r v log n e =
    rw (take_at r (drop (length r) log) (length r) refl, drop-append-add r (drop (length r) log) n, drop-drop, length-append, e, append_assoc)

-- ---- a key

-- Enter's byte is none of the others
enter-byte : (byte : ℕ) (t : List ℕ) → eqb byte 10 ≡ true → edited_text byte t ≡ []
unfolding between
enter-byte byte t e = rw (eqb-true byte 10 e)

typed_byte : (byte : ℕ) → is_typed byte ≡ true → eqb byte 10 ≡ false
unfolding between
typed_byte byte p =
    let k = leb-true 32 byte (and_both (leb 32 byte) (leb byte 126) p).0 in
    ne_eqb byte 10 (λ e. omega arith)

other_byte : (byte m : ℕ) → eqb byte m ≡ true → (m ≡ 10 → ⊥) → eqb byte 10 ≡ false
other_byte byte m e n = let k = eqb-true byte m e in ne_eqb byte 10 (λ q. n (omega arith))

module _ (log : List ℕ) (w : Work) (bench byte : ℕ) where
  abbrev t : List ℕ
  t = typed_by w bench

  abbrev U : ℕ
  U = length (records_of w.entries)

  abbrev L : List ℕ
  L = log_of log w.entries

  abbrev D : Desk
  D = desk_of w

  abbrev may : ℕ → Bool
  may item = may_write (entries_of (sheet_of_bench bench) w.entries) item bench

  -- everything that a key leaves, by the work and the answer
  abbrev after_of : ℕ → After
  after_of a = after_work log a (key_work a bench byte w)

  refused-follows : (a : ℕ) → accepts a ≡ false → refused a D U L ≡ after_of a
  refused-follows a e = ap (after_work log a) (sym (refused-work a bench byte w e))

  -- an accepted key other than Enter
  edited-follows : (l : Line) (s : List ℕ) → eqb byte 10 ≡ false → edited_text byte t ≡ s → l ≡ line_of s → edited D U L bench l ≡ after_of 0
  edited-follows l s plain text e =
      rw (plain, text) (after-eq (desk-eq (ap (λ (x : Line). set (map line_of w.typed) bench x) e ∙ map-set line_of w.typed bench s) refl) refl refl)

  module _ (room : U ≤ length log) (b : bench < bench_count) (enter-key : eqb byte 10 ≡ true) where
    stored-follows : (item start : ℕ) → class_of t ≡ entry_at item start
        → stored D U L bench item (drop start t) ≡ after_of (cond (leb (record_length (drop start t)) (length log - U)) 0 8)
    unfolding stored
    stored-follows item start e =
        let v = drop start t in
        let n = record_length v in
        let es = w.entries in
        let new : Entry = record { bench = bench; item = item; value = v; line = t } in
        let next : After = record {
          answer = 0;
          desk = entered D bench item v;
          used = U + n;
          log = take U L ++ (record_of bench item v ++ drop (U + n) L);
        } in
        let m = record-length bench item v in
        ap (λ (k : ℕ). cond (leb n (k - U)) next (refused 8 D U L)) (log_length log es room)
        ∙ cond_sim (λ (x : After). x) after_of (leb n (length log - U)) next (refused 8 D U L) 0 8
        (λ p. rw (enter-key, enter-byte byte t enter-key, e) (after-eq
        (desk-eq (map-set line_of w.typed bench []) (sheets-more new es b (entry-is t item start e).some (entry-is t item start e).known))
        (ap (λ (k : ℕ). U + k) (sym m) ∙ sym (length-append (records_of es) (record_of bench item v)))
        (log-more (records_of es) (record_of bench item v) log n m)))
        (λ p. refused-follows 8 refl)

    -- the item is not another bench's, by desk and by entries
    open-follows : ((item : ℕ) → 1 ≤ item → item ≤ item_count → open_to (own_item D bench item) bench ≡ may item) → (item start : ℕ) → class_of t ≡ entry_at item start
        → stored_if_open D U L bench item (drop start t) ≡ after_of (enter_number (entry_at item start) t may (length log - U))
    unfolding stored_if_open
    open-follows same item start e =
        let h = entry-is t item start e in
        let next = stored D U L bench item (drop start t) in
        ap (λ (b : Bool). cond b next (refused 9 D U L)) (same item h.some h.known)
        ∙ cond_sim (λ (x : After). x) after_of (may item) next (refused 9 D U L) (cond (leb (record_length (drop start t)) (length log - U)) 0 8) 9
        (λ p. stored-follows item start e) (λ p. refused-follows 9 refl)

    enter-follows : ((item : ℕ) → 1 ≤ item → item ≤ item_count → open_to (own_item D bench item) bench ≡ may item) → (c : Result LineEntry NoEntry) → class_of t ≡ c
        → entered_as c D U L bench t ≡ after_of (enter_number c t may (length log - U))
    enter-follows same (Err no_entry.BadForm) e = refused-follows 5 refl
    enter-follows same (Err no_entry.UnknownName) e = refused-follows 6 refl
    enter-follows same (Err no_entry.WrongKind) e = refused-follows 7 refl
    enter-follows same (Ok at) e = open-follows same at.item at.start e

  module _ (g : Good log w) where
    -- each item of the desk is the last entry's, and sound
    item-open : bench < bench_count → (item : ℕ) → 1 ≤ item → item ≤ item_count → open_to (own_item D bench item) bench ≡ may item
    item-open b item some known =
        let s = sheet_of_bench bench in
        let es = entries_of s w.entries in
        let x = item-sound log w g s item (sheet-in bench b) some known in
        ap (λ (i : Item). open_to i bench) x.0 ∙ open-to es s (length es) (item - 1) item bench (g.grown.rightful s) x.1

    module _ (b : bench < bench_count) where
      four : bench < length w.typed
      four = omega (arith, g.shape.lines, length-map w.typed line_of)

      line-is : line_at D bench ≡ line_of t
      line-is = get_d_map line_of w.typed bench [] no_line four

      short : length t ≤ line_most
      short =
          let c = sound-canonical (line_at D bench) (g.shape.line_bytes bench b) (line-sound D U L g.shape g.sound bench b) in
          let e : typed (line_at D bench) ≡ t = ap typed line-is ∙ typed-line_of t in
          omega (arith, c.short, ap length e)

      step_follows : key_step D U L bench byte ≡ after_of (byte_number t (length t) may (length log - U) byte)
      unfolding key_step
      step_follows =
          let same : After → After = λ x. x in
          cond_sim same after_of (is_typed byte) _ _ _ _
          (λ p.
          ap (λ (l : Line). cond (ltb l.len line_most) (edited D U L bench (appended l byte)) (refused 4 D U L)) line-is
          ∙ cond_sim same after_of (ltb (length t) line_most) _ _ _ _
          (λ q. edited-follows _ (t ++ (byte ∷ [])) (typed_byte byte p) (rw p) (appended-line_of t byte (ltb-true (length t) line_most q)))
          (λ q. refused-follows 4 refl))
          (λ p. cond_sim same after_of (eqb byte 8) _ _ _ _
          (λ q. edited-follows _ (shorter t) (other_byte byte 8 q (λ e. omega arith)) (rw (p, q)) (ap erased line-is ∙ erased-line_of t short))
          (λ q. cond_sim same after_of (eqb byte 24) _ _ _ _
          (λ r. edited-follows empty_line [] (other_byte byte 24 r (λ e. omega arith)) (rw (p, q)) refl)
          (λ r. cond_sim same after_of (eqb byte 10) _ _ _ _
          (λ z.
          ap (λ (l : Line). entered_as (class_of (typed l)) D U L bench (typed l)) line-is
          ∙ ap (λ (x : List ℕ). entered_as (class_of x) D U L bench x) (typed-line_of t)
          ∙ enter-follows g.room b z (item-open b) (class_of t) refl)
          (λ z. refused-follows 3 refl))))

    -- the desk, which tests the soundness of everything, answers by the table, which tests the log's length
    key-follows : key_of D U L bench byte ≡ after_of (key_answer (length log) w bench byte)
    unfolding key_of table_answer
    key-follows =
        let same : After → After = λ x. x in
        let test : (sound_desk D && sound_log D (length L) U) ≡ leb (length log) log_most = rw g.sound (log_sound log w g) in
        cond_sim same after_of (ltb bench bench_count) _ _ _ _
        (λ b.
        ap (λ (x : Bool). cond x (key_step D U L bench byte) (refused 2 D U L)) test
        ∙ cond_sim same after_of (leb (length log) log_most) _ _ _ _ (λ n. step_follows (ltb-true bench bench_count b)) (λ n. refused-follows 2 refl))
        (λ b. refused-follows 1 refl)

    key-good : Good log (key_work (key_answer (length log) w bench byte) bench byte w)
    key-good =
        let k : Keeps D U L (after_of (key_answer (length log) w bench byte)) = rw key-follows at (key-keeps D U L g.shape g.sound bench byte) in
        let w' = key_work (key_answer (length log) w bench byte) bench byte w in
        let r = records_of w'.entries in
        let n = k.log_length ∙ log_length log w.entries g.room in
        record {
          shape = k.shape;
          sound = k.sound;
          room = omega (arith, length-append r (drop (length r) log), n);
          grown = key-grown (length log) w g.grown bench byte;
        }

-- ---- questions

told-last : (es : List Entry) (s n k item : ℕ) → sound_item s n k (last_of es item) ≡ true → told_of (last_of es item) ≡ last_told es item
unfolding told_of
told-last [] s n k item h = refl
told-last (e ∷ es) s n k item h = go (told-last es s n k item) (eqb item e.item) refl h
  where
    go : (sound_item s n k (last_of es item) ≡ true → told_of (last_of es item) ≡ last_told es item) → (x : Bool) → eqb item e.item ≡ x
        → sound_item s n k (last_of (e ∷ es) item) ≡ true → told_of (last_of (e ∷ es) item) ≡ last_told (e ∷ es) item
    go ih true x g = let y = filled-some s n k e.bench (length es) (suc (times_of es item)) e.value (rw x at g) in rw (x, y)
    go ih false x g = rw x (ih (rw x at g))

who-follows : (log : List ℕ) (w : Work) → Good log w → (sheet item : ℕ) → who_of (desk_of w) sheet item ≡ who_on sheet w.entries item
unfolding who_of
who-follows log w g sheet item =
    let es = entries_of sheet w.entries in
    let same : Who → Who = λ x. x in
    cond_sim same same (is_sheet sheet) _ (nobody 12) (who_last es item) (nobody 12)
    (λ s.
    let on = ltb-true sheet sheet_count s in
    cond-true (sound_desk (desk_of w)) _ (nobody 2) g.sound
    ∙ cond_sim same same (is_item item) (told_of (item_at (sheet_at (desk_of w) sheet) item)) (nobody 6) (last_told es item) (nobody 6)
    (λ p.
    let h = and_both (leb 1 item) (leb item item_count) p in
    let x = item-sound log w g sheet item on (leb-true 1 item h.0) (leb-true item item_count h.1) in
    ap told_of x.0 ∙ told-last es sheet (length es) (item - 1) item x.1)
    (λ p. refl))
    (λ s. refl)

-- ---- all calls

module _ {Rows : Type 0} (rows_of : ℕ → Sheet → Rows) (no_rows : Rows) (log : List ℕ) where
  report-follows : (w : Work) → Good log w → (sheet profile : ℕ) → report_of rows_of no_rows (desk_of w) sheet profile ≡ report_on rows_of no_rows sheet profile w.entries
  unfolding report_of
  report-follows w g sheet profile =
      let same : Reply Rows → Reply Rows = λ x. x in
      let rows : Sheet → Reply Rows = λ s. cond (is_profile profile) (reported 0 (rows_of profile s)) (reported 21 no_rows) in
      cond_sim same same (is_sheet sheet) _ (reported 12 no_rows) (rows (sheet_of (entries_of sheet w.entries))) (reported 12 no_rows)
      (λ s. ap (λ (x : Reply Rows). cond (is_profile profile) x (reported 21 no_rows)) (cond-true (sound_desk (desk_of w)) _ (reported 2 no_rows) g.sound)
      ∙ ap rows (sheet-at w.entries sheet (ltb-true sheet sheet_count s)))
      (λ s. refl)

  pub desk-follows : Follows (step rows_of no_rows) (work_step rows_of no_rows (length log)) (work_state log) (Good log)
  desk-follows = record { keep = keeps; answer = answers; state = states }
    where
      keeps : (c : Call) (w : Work) → Good log w → Good log (work_step rows_of no_rows (length log) c w).1
      keeps (key bench byte) w g = key-good log w bench byte g
      keeps (ask (report sheet profile)) w g = g
      keeps (ask (who sheet item)) w g = g

      answers : (c : Call) (w : Work) → Good log w → (step rows_of no_rows c (work_state log w)).0 ≡ (work_step rows_of no_rows (length log) c w).0
      answers (key bench byte) w g = ap (λ (a : After). keyed a.answer) (key-follows log w bench byte g)
      answers (ask (report sheet profile)) w g = report-follows w g sheet profile
      answers (ask (who sheet item)) w g = ap told (who-follows log w g sheet item)

      states : (c : Call) (w : Work) → Good log w → (step rows_of no_rows c (work_state log w)).1 ≡ work_state log (work_step rows_of no_rows (length log) c w).1
      states (key bench byte) w g = ap left_by_key (key-follows log w bench byte g)
      states (ask (report sheet profile)) w g = refl
      states (ask (who sheet item)) w g = refl
