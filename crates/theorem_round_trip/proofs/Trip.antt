-- The round trip of document 02, No. 1: the claim `RoundTrip` of specs/RoundTrip.antt holds of every file that is written.
-- Assumes nothing.
use mathlib.Core.Path.{◌≡◌, refl, sym, ap, ◌∙◌, subst⁻¹}
use mathlib.Core.Bool.{Bool, true, false}
use mathlib.Core.List.{List, [], map}
use Prim.Native.Nat.{ℕ, ◌+◌, ◌*◌, ◌-◌, ◌≤◌, ◌<◌}
use native.Mathlib.Nat.{zero-add}
use native.Mathlib.Omega.{arith}
use borrow.Author.Tests.{ltb-true, ltb-false}
use lib.Dec.{ltb}
use lib.ListN.{length, get_or, set, replicate, get_or-replicate, get_or-eq_default}
use lib.Seq.{set-get_or}
use Rattle.text_copies.specs.Each.{lines_from}
use Rattle.text.proofs.Bools.{and_both}
use Rattle.line_items.specs.Typed.{line_most}
use Rattle.desk_log.specs.Record.{head_length}
use Rattle.line_items.specs.Items.{item_count}
use Rattle.desk_state.specs.Sheets.{item_at, value_in, empty_sheet}
use Rattle.desk_state.specs.Desks.{bench_count, sheet_count, sheet_of_bench, no_sheet, sheet_at}
use Rattle.desk_soundness.specs.Sound.{every, sound_item, sound_lines, sound_sheet, sound_sheets, sound_desk}
use Rattle.desk_soundness.specs.SoundLog.{log_most}
use Rattle.desk_soundness.proofs.Everys.{every-each}
use Rattle.desk_state.specs.declared.sheet.Sheet.{Sheet}
use Rattle.desk_state.specs.declared.desk.Desk.{Desk}
use Rattle.file_cif.specs.File.{item_line}
use Rattle.file_cif.specs.Answers.{file_step}
use Rattle.rows.specs.Rows.{no_rows}
use Rattle.rows_sheet.specs.Sheet.{rows_of}
use Rattle.theorem_work.specs.Calls.{Call, keyed, typing}
use Rattle.theorem_work.specs.Work.{Entry, Work, no_work, entries_of, last_of, sheet_of}
use Rattle.desk_entries.proofs.Camps.{sheet-in}
use Rattle.theorem_work.proofs.OwnerLaws.{one-bench-sheet, one-bench-elsewhere}
use Rattle.theorem_sequences.specs.Calls.{State}
use Rattle.theorem_sequences.specs.Sequences.{work_after}
use Rattle.theorem_sequences.proofs.Sheets.{sheet-at}
use Rattle.theorem_sequences.proofs.Demand3.{follows}
use Rattle.theorem_sequences.proofs.Desk.{desk-sequences}
use Rattle.theorem_round_trip.specs.RoundTrip.{filed_bytes, room_for, filled_count, replies, end_of, own_sheet, RoundTrip}
use Rattle.theorem_round_trip.proofs.Lines.{is-written, written-lines}
use Rattle.theorem_round_trip.proofs.Plays.{work_of, Plays}
use Rattle.theorem_round_trip.proofs.Items.{with_items, items-play, items-alone, items-count, item-values}
use Rattle.theorem_round_trip.proofs.Room.{room_most}

-- a sheet with all its items is one of the desk's, and so sound
sound-items : (d : Desk) (sheet : ℕ) → sound_desk d ≡ true → length (sheet_at d sheet).items ≡ item_count → every (sound_item sheet (sheet_at d sheet).count) 0 (sheet_at d sheet).items ≡ true
unfolding sound_desk sound_sheet
sound-items d sheet h all_items = go (ltb sheet (length d.sheets)) refl
  where
    go : (b : Bool) → ltb sheet (length d.sheets) ≡ b → every (sound_item sheet (sheet_at d sheet).count) 0 (sheet_at d sheet).items ≡ true
    go true e =
        rw (zero-add sheet) at (every-each sound_sheet d.sheets 0 sheet no_sheet (and_both (sound_lines d) (sound_sheets d) h).1 (ltb-true sheet (length d.sheets) e))
    go false e =
        let none : sheet_at d sheet ≡ no_sheet = get_or-eq_default d.sheets no_sheet (ltb-false sheet (length d.sheets) e) in
        let z : 0 ≡ item_count = ap (λ (s : Sheet). length s.items) (sym none) ∙ all_items in
        absurd (omega arith)

-- at the start no bench has typed anything
fresh-work : (bench : ℕ) → bench < bench_count → no_work ≡ work_of bench [] []
fresh-work bench there =
    let none : get_or (replicate bench_count []) bench [] ≡ [] = get_or-replicate bench_count bench [] [] there in
    let same = sym (set-get_or (replicate bench_count []) bench []) ∙ ap (λ (t : List ℕ). set (replicate bench_count []) bench t) none in
    ap (λ (l : List (List ℕ)). record { typed = l; entries = [] }) same

module _ (s : Sheet) (sheet bench : ℕ) (log : List ℕ) (all_items : length s.items ≡ item_count) (sound : every (sound_item sheet s.count) 0 s.items ≡ true)
    (there : bench < bench_count) (small : length log ≤ log_most) (room : room_for s.items ≤ length log) where
  abbrev keys : List Call
  keys = typing bench (lines_from item_line 1 s.items)

  abbrev es : List Entry
  es = with_items bench 1 s.items []

  plays : Plays (length log) no_work keys (work_of bench [] es)
  plays = rw (fresh-work bench there) (items-play (length log) bench there small sheet s.count s.items 0 [] tt (omega arith) sound (omega arith))

  -- all entries are of the bench's own sheet
  own-entries : entries_of (sheet_of_bench bench) es ≡ es
  own-entries = one-bench-sheet es bench (items-alone bench 1 s.items [] tt)

  left-entries : (other : ℕ) → entries_of other (work_after rows_of no_rows log keys).entries ≡ entries_of other es
  left-entries other = ap (λ (w : Work). entries_of other w.entries) plays.left

  lines-accepted : replies log keys ≡ replicate (length keys) (keyed 0)
  lines-accepted = ap (map (λ p. p.1)) (desk-sequences log keys).answers ∙ plays.accepted

  lines-values : (k : ℕ) → 1 ≤ k → k ≤ item_count → value_in (item_at (own_sheet log bench keys) k) ≡ value_in (item_at s k)
  lines-values k some known =
      let at : k ≡ 1 + (k - 1) = omega arith in
      ap value_in ((desk-sequences log keys).items (sheet_of_bench bench) k (sheet-in bench there) some known)
      ∙ ap (λ (fs : List Entry). value_in (last_of fs k)) (left-entries (sheet_of_bench bench) ∙ own-entries)
      ∙ ap (λ (m : ℕ). value_in (last_of es m)) at
      ∙ item-values bench 1 s.items [] (k - 1) (omega arith) (λ m p. refl)

  lines-count : (own_sheet log bench keys).count ≡ filled_count s.items
  lines-count =
      (desk-sequences log keys).count (sheet_of_bench bench) (sheet-in bench there) ∙ ap length (left-entries (sheet_of_bench bench) ∙ own-entries)
      ∙ items-count bench 1 s.items [] ∙ zero-add (filled_count s.items)

  lines-elsewhere : (other : ℕ) → other < sheet_count → (sheet_of_bench bench ≡ other → ⊥) → sheet_at (end_of log keys).desk other ≡ empty_sheet
  lines-elsewhere other on n =
      let on-desk = ap (λ (x : State). sheet_at x.desk other) (follows rows_of no_rows log keys).end ∙ sheet-at (work_after rows_of no_rows log keys).entries other on in
      on-desk ∙ ap sheet_of (left-entries other ∙ one-bench-elsewhere es bench other n (items-alone bench 1 s.items [] tt))

-- The premise on the length of the items holds of every sheet of the code's desks, whose array has them all.
pub round_trip : (d : Desk) (sheet : ℕ) (name out : List ℕ) (bench : ℕ) (log : List ℕ) → length (sheet_at d sheet).items ≡ item_count
    → (file_step d sheet name out).answer ≡ 0 → bench < bench_count → length log ≤ log_most → room_for (sheet_at d sheet).items ≤ length log
    → RoundTrip (sheet_at d sheet) (filed_bytes (file_step d sheet name out)) bench log
round_trip d sheet name out bench log all_items answer there small room =
    let s = sheet_at d sheet in
    let w = is-written d sheet name out answer in
    let e = written-lines d sheet name (file_step d sheet name out) w in
    let sound = sound-items d sheet w.sound all_items in
    record {
      accepted = subst⁻¹ (λ (t : List ℕ). replies log (typing bench t) ≡ replicate (length (typing bench t)) (keyed 0)) e
          (lines-accepted s sheet bench log all_items sound there small room);
      values = λ k some known. ap (λ (t : List ℕ). value_in (item_at (own_sheet log bench (typing bench t)) k)) e
          ∙ lines-values s sheet bench log all_items sound there small room k some known;
      count = ap (λ (t : List ℕ). (own_sheet log bench (typing bench t)).count) e ∙ lines-count s sheet bench log all_items sound there small room;
      elsewhere = λ other on n. ap (λ (t : List ℕ). sheet_at (end_of log (typing bench t)).desk other) e
          ∙ lines-elsewhere s sheet bench log all_items sound there small room other on n;
    }

-- A log with room for a record of the longest line for each item (3914 bytes) has room for the records of every file that is written, so that each has its round trip.
pub round-trip-roomy : (d : Desk) (sheet : ℕ) (name out : List ℕ) (bench : ℕ) (log : List ℕ) → length (sheet_at d sheet).items ≡ item_count
    → (file_step d sheet name out).answer ≡ 0 → bench < bench_count → (head_length + line_most) * item_count ≤ length log → length log ≤ log_most
    → RoundTrip (sheet_at d sheet) (filed_bytes (file_step d sheet name out)) bench log
round-trip-roomy d sheet name out bench log all_items answer there long small =
    let most = room_most sheet (sheet_at d sheet).count 0 (sheet_at d sheet).items (sound-items d sheet (is-written d sheet name out answer).sound all_items) in
    round_trip d sheet name out bench log all_items answer there small (omega arith)
