-- Soundness is kept: from a desk that is sound with its log, every key call leaves one that is.
-- Assumes nothing.
use Rattle.std.specs.Prelude.{Result, Ok, Err}
use mathlib.Core.Path.{◌≡◌, refl, ap, ◌∙◌, subst⁻¹}
use mathlib.Core.Bool.{Bool, true, false, ◌&&◌}
use mathlib.Core.List.{List, [], ◌∷◌, ◌++◌}
use Prim.Native.Nat.{ℕ, ◌+◌, ◌-◌, ◌*◌, ◌≤◌, ◌<◌}
use native.Mathlib.Omega.{arith}
use borrow.Author.Tests.{ltb-true, leb-true, eqb-true, eqb-false}
use lib.Dec.{ltb, leb, eqb}
use lib.ListN.{length, get_or, take, drop, set, length-set, length-append, length-take, length-drop}
use lib.Seq.{get_or-set_same, get_or-set_other}
use Rattle.text.specs.Run.{all}
use Rattle.text.proofs.Bools.{and_both, and-true-true, cond-keeps}
use Rattle.line_items.specs.Items.{item_count}
use Rattle.line_items.specs.Typed.{line_most, is_typed}
use Rattle.line_reader.specs.Line.{class_of}
use Rattle.line_kinds.specs.Kinds.{fits}
use Rattle.line_reader.specs.declared.line.LineEntry.{LineEntry}
use Rattle.line_reader.specs.declared.line.NoEntry.{NoEntry}
use Rattle.line_reader.specs.declared.line.NoEntry.TheVariants as no_entry
use Rattle.line_reader.proofs.Entries.{entry-is}
use Rattle.desk_log.specs.Record.{record_length, record_fits, record_of, with_record}
use Rattle.desk_log.proofs.Records.{record-length}
use Rattle.desk_state.specs.Lines.{typed, line_of, empty_line, appended, erased}
use Rattle.desk_state.specs.Sheets.{filled, no_item, item_at}
use Rattle.desk_state.specs.Desks.{bench_count, sheet_count, sheet_of_bench, no_line, line_at, with_line, no_sheet, sheet_at}
use Rattle.desk_soundness.specs.Sound.{sound_line, sound_lines, sound_sheets, sound_desk}
use Rattle.desk_soundness.specs.SoundLog.{log_most, entry_count, sound_log}
use Rattle.desk_state.specs.declared.line.Line.{Line}
use Rattle.desk_state.specs.declared.sheet.Item.{Item}
use Rattle.desk_state.specs.declared.sheet.Sheet.{Sheet}
use Rattle.desk_state.specs.declared.desk.Desk.{Desk}
use Rattle.desk_soundness.proofs.Everys.{every-each, every_set}
use Rattle.desk_entries.specs.Entry.{with_entry, with_entry_on, open_to, own_item}
use Rattle.desk_entries.proofs.Camps.{sheet-in}
use Rattle.line_kinds.proofs.Fitting.{fitting}
use Rattle.desk_entries.proofs.Sounds.{keeps-sound, keeps-log}
use Rattle.desk_entries.proofs.Stores.{padded-length}
use Rattle.desk_keys.specs.Key.{After, refused, edited, entered, stored, stored_if_open, entered_as, append_key, key_step, key_of}
use Rattle.theorem_sequences.specs.Shaped.{Shaped}
use Rattle.theorem_sequences.proofs.LineLaws.{Canonical, sound-canonical, line_of-sound, appended-line_of, erased-line_of, shorter, more-typed, fewer-typed, shorter-short}
use Rattle.theorem_sequences.proofs.ItemLaws.{entry-fits}

-- what a key call on a sound desk leaves
pub record Keeps (d : Desk) (used : ℕ) (log : List ℕ) (a : After) : Type 0 where
  pub shape : Shaped a.desk
  pub sound : sound_desk a.desk ≡ true
  pub log_length : length a.log ≡ length log
  pub log_sound : sound_log d (length log) used ≡ true → sound_log a.desk (length a.log) a.used ≡ true

-- after a store, elements keep what they had
at_set : {A : Type 0} (P : A → Type 0) (s : List A) (n i : ℕ) (x d : A) → length s ≡ n → P x → ((j : ℕ) → j < n → P (get_or s j d)) → (j : ℕ) → j < n → P (get_or (set s i x) j d)
at_set P s n i x d l p f j h = go (eqb j i) refl
  where
    go : (t : Bool) → eqb j i ≡ t → P (get_or (set s i x) j d)
    go true e =
        let same : j ≡ i = eqb-true j i e in
        let k : i < length s = omega arith in
        rw (same, get_or-set_same s i x d k) p
    go false e = rw (get_or-set_other s i j x d (eqb-false j i e)) (f j h)

module _ (d : Desk) (used : ℕ) (log : List ℕ) (shape : Shaped d) (sound : sound_desk d ≡ true) (bench : ℕ) where
  refused-keeps : (a : ℕ) → Keeps d used log (refused a d used log)
  refused-keeps a = record { shape = shape; sound = sound; log_length = refl; log_sound = λ h. h }

  -- a line on which a text is typed
  lines_keep : (t : List ℕ) → length t ≤ line_most → all is_typed t ≡ true → sound_lines (with_line d bench (line_of t)) ≡ true
  unfolding sound_lines sound_desk
  lines_keep t short h =
      every_set (λ (k : ℕ) (l : Line). sound_line l) d.lines 0 bench (line_of t) (and_both (sound_lines d) (sound_sheets d) sound).0 (line_of-sound t short h)

  line-keeps : (l : Line) (t : List ℕ) → l ≡ line_of t → length t ≤ line_most → all is_typed t ≡ true → Keeps d used log (edited d used log bench l)
  unfolding sound_desk sound_log
  line-keeps l t e short h =
      rw e (record {
        shape = record {
          lines = length-set d.lines bench (line_of t) ∙ shape.lines;
          line_bytes = at_set (λ (x : Line). length x.bytes ≡ line_most) d.lines bench_count bench (line_of t) no_line shape.lines (padded-length t short) shape.line_bytes;
          sheets = shape.sheets;
          items = shape.items;
          item_bytes = shape.item_bytes;
        };
        sound = and-true-true (sound_lines (with_line d bench (line_of t))) (sound_sheets d) (lines_keep t short h) (and_both (sound_lines d) (sound_sheets d) sound).1;
        log_length = refl;
        log_sound = λ h. h;
      })

  module _ (b : bench < bench_count) where
    pub line-sound : sound_line (line_at d bench) ≡ true
    unfolding sound_desk sound_lines
    line-sound = every-each (λ (k : ℕ) (l : Line). sound_line l) d.lines 0 bench no_line (and_both (sound_lines d) (sound_sheets d) sound).0 (omega (arith, shape.lines))

    canonical : Canonical (line_at d bench)
    canonical = sound-canonical (line_at d bench) (shape.line_bytes bench b) line-sound

    append-keeps : (byte : ℕ) → is_typed byte ≡ true → Keeps d used log (append_key d used log bench byte)
    append-keeps byte p =
        let l = line_at d bench in
        let t = typed l in
        let c = canonical in
        cond-keeps (Keeps d used log) (ltb l.len line_most) (edited d used log bench (appended l byte)) (refused 4 d used log)
        (λ q.
        let len : l.len ≡ length t = ap (λ (x : Line). x.len) c.is-line in
        let room : length t < line_most = omega (arith, ltb-true l.len line_most q) in
        line-keeps (appended l byte) (t ++ (byte ∷ [])) (ap (λ (x : Line). appended x byte) c.is-line ∙ appended-line_of t byte room)
        (simp length-append (omega arith)) (more-typed t byte c.bytes-typed p))
        (λ q. refused-keeps 4)

    erase-keeps : Keeps d used log (edited d used log bench (erased (line_at d bench)))
    erase-keeps =
        let t = typed (line_at d bench) in
        let c = canonical in
        line-keeps (erased (line_at d bench)) (shorter t) (ap erased c.is-line ∙ erased-line_of t c.short) (omega (arith, c.short, shorter-short t)) (fewer-typed t c.bytes-typed)

-- an empty line, on any sound desk
clear-keeps : (d : Desk) (used : ℕ) (log : List ℕ) → Shaped d → sound_desk d ≡ true → (bench : ℕ) → Keeps d used log (edited d used log bench empty_line)
unfolding all
clear-keeps d used log shape sound bench = line-keeps d used log shape sound bench empty_line [] refl (omega arith) refl

-- one entry more, that its item can hold
module _ (d : Desk) (shape : Shaped d) (sound : sound_desk d ≡ true) (bench : ℕ) (b : bench < bench_count) (item : ℕ) (v : List ℕ) (h : fits item v ≡ true) where
  abbrev S : ℕ
  S = sheet_of_bench bench

  abbrev D : Desk
  D = with_entry_on d bench item v

  on : S < sheet_count
  on = sheet-in bench b

  own : S < length d.sheets
  own = subst⁻¹ (λ (n : ℕ). S < n) shape.sheets on

  entry-sound : sound_desk D ≡ true
  entry-sound = keeps-sound bench item v b h d own (shape.items S on) sound

  entry-shape : Shaped D
  entry-shape =
      let more : Sheet = with_entry (sheet_at d S) bench item v in
      let new : Item = filled bench ((sheet_at d S).count + 1) ((item_at (sheet_at d S) item).times + 1) v in
      let of-sheets : (P : Sheet → Type 0) → P more → ((s : ℕ) → s < sheet_count → P (sheet_at d s)) → (s : ℕ) → s < sheet_count → P (sheet_at D s)
      = λ P. at_set P d.sheets sheet_count S more no_sheet shape.sheets in
      record {
        lines = shape.lines;
        line_bytes = shape.line_bytes;
        sheets = length-set d.sheets S more ∙ shape.sheets;
        items = of-sheets (λ (s : Sheet). length s.items ≡ item_count) (length-set (sheet_at d S).items (item - 1) new ∙ shape.items S on) shape.items;
        item_bytes = of-sheets (λ (s : Sheet). (i : ℕ) → i < item_count → length (get_or s.items i no_item).value ≡ line_most)
            (at_set (λ (x : Item). length x.value ≡ line_most) (sheet_at d S).items item_count (item - 1) new no_item
            (shape.items S on) (padded-length v (fitting item v h).short) (shape.item_bytes S on))
            shape.item_bytes;
      }

module _ (d : Desk) (used : ℕ) (log : List ℕ) (shape : Shaped d) (sound : sound_desk d ≡ true) (bench : ℕ) (b : bench < bench_count) where
  no : (a : ℕ) → Keeps d used log (refused a d used log)
  no = refused-keeps d used log shape sound bench

  stored-keeps : (item : ℕ) (v : List ℕ) → fits item v ≡ true → used ≤ length log → Keeps d used log (stored d used log bench item v)
  unfolding stored sound_log
  stored-keeps item v h within =
      let n = record_length v in
      let r = record_of bench item v in
      let D = with_entry_on d bench item v in
      let next : After = record { answer = 0; desk = entered d bench item v; used = used + n; log = with_record used log bench item v } in
      cond-keeps (Keeps d used log) (record_fits (length log - used) v) next (refused 8 d used log)
      (λ q.
      let room : n ≤ length log - used = leb-true n (length log - used) q in
      let m = record-length bench item v in
      let same : length (with_record used log bench item v) ≡ length log = simp (length-append, length-take, length-drop) (omega arith) in
      let line = clear-keeps D used log (entry-shape d shape sound bench b item v h) (entry-sound d shape sound bench b item v h) bench in
      record {
        shape = line.shape;
        sound = line.sound;
        log_length = same;
        log_sound = λ k. rw same (keeps-log bench item v b h d (own d shape sound bench b item v h) (length log) used (used + n) k (omega arith) (omega arith));
      })
      (λ q. no 8)

  open-keeps : (item : ℕ) (v : List ℕ) → Keeps d used log (stored d used log bench item v) → Keeps d used log (stored_if_open d used log bench item v)
  unfolding stored_if_open
  open-keeps item v h = cond-keeps (Keeps d used log) (open_to (own_item d bench item) bench) _ _ (λ p. h) (λ p. no 9)

  enter-keeps : used ≤ length log → (c : Result LineEntry NoEntry) (t : List ℕ) → class_of t ≡ c → Keeps d used log (entered_as c d used log bench t)
  enter-keeps within (Err no_entry.BadForm) t e = no 5
  enter-keeps within (Err no_entry.UnknownName) t e = no 6
  enter-keeps within (Err no_entry.WrongKind) t e = no 7
  enter-keeps within (Ok at) t e =
      let item = at.item in
      let start = at.start in
      let h = entry-is t item start e in
      open-keeps item (drop start t)
      (stored-keeps item (drop start t) (entry-fits t item start h) within)

  step_keeps : used ≤ length log → (byte : ℕ) → Keeps d used log (key_step d used log bench byte)
  unfolding key_step
  step_keeps within byte =
      let P = Keeps d used log in
      let t = typed (line_at d bench) in
      cond-keeps P (is_typed byte) _ _ (append-keeps d used log shape sound bench b byte)
      (λ p. cond-keeps P (eqb byte 8) _ _ (λ q. erase-keeps d used log shape sound bench b)
      (λ q. cond-keeps P (eqb byte 24) _ _ (λ r. clear-keeps d used log shape sound bench)
      (λ r. cond-keeps P (eqb byte 10) _ _ (λ z. enter-keeps within (class_of t) t refl) (λ z. no 3))))

-- every key call on a sound desk
pub key-keeps : (d : Desk) (used : ℕ) (log : List ℕ) → Shaped d → sound_desk d ≡ true → (bench byte : ℕ) → Keeps d used log (key_of d used log bench byte)
unfolding key_of sound_log
key-keeps d used log shape sound bench byte =
    let P = Keeps d used log in
    let no = refused-keeps d used log shape sound bench in
    cond-keeps P (ltb bench bench_count) _ _
    (λ b. cond-keeps P (sound_desk d && sound_log d (length log) used) _ _
    (λ s.
    let k1 = and_both (leb (length log) log_most) (leb used (length log) && leb (6 * entry_count d) used) (and_both (sound_desk d) (sound_log d (length log) used) s).1 in
    let k2 = and_both (leb used (length log)) (leb (6 * entry_count d) used) k1.1 in
    step_keeps d used log shape sound bench (ltb-true bench bench_count b) (leb-true used (length log) k2.0) byte)
    (λ s. no 2))
    (λ b. no 1)

-- Soundness is kept.
pub kept : (d : Desk) (used : ℕ) (log : List ℕ) → Shaped d → sound_desk d ≡ true → sound_log d (length log) used ≡ true → (bench byte : ℕ)
    → let a = key_of d used log bench byte in
    (sound_desk a.desk ≡ true) × (sound_log a.desk (length a.log) a.used ≡ true)
kept d used log shape sound log_sound bench byte = let k = key-keeps d used log shape sound bench byte in (k.sound, k.log_sound log_sound)
