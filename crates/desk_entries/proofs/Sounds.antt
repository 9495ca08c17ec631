-- A sound desk can take one entry more, which keeps it sound, with the record's end as the number of used bytes.
-- Assumes nothing.
use mathlib.Core.Path.{◌≡◌, refl, ap, ◌∙◌}
use mathlib.Core.Bool.{true}
use mathlib.Core.List.{List, [], ◌∷◌}
use Prim.Native.Nat.{ℕ, zero, suc, ◌+◌, ◌-◌, ◌≤◌, ◌<◌}
use native.Mathlib.Nat.{zero-add, not-suc-le-zero, le_of_suc-le-suc}
use native.Mathlib.Omega.{arith}
use borrow.Author.Tests.{lt-ltb, le-leb}
use lib.ListN.{length, get_or, set}
use Rattle.text.proofs.Bools.{and_both}
use Rattle.line_items.specs.Items.{item_count}
use Rattle.line_items.specs.Typed.{line_most}
use Rattle.line_kinds.specs.Kinds.{fits}
use Rattle.line_kinds.proofs.Fitting.{fitting}
use Rattle.desk_state.specs.Sheets.{filled, no_item, item_at}
use Rattle.desk_state.specs.Desks.{bench_count, sheet_of_bench, no_sheet, sheet_at}
use Rattle.desk_state.specs.declared.sheet.Sheet.{Sheet}
use Rattle.desk_state.specs.declared.desk.Desk.{Desk}
use Rattle.desk_memory.specs.Memory.{is_desk, texts_of, numbers_of, desk_of}
use Rattle.desk_memory.proofs.Desks.{sheets-long, items-long}
use Rattle.desk_soundness.specs.Sound.{sound_item, sound_lines, sound_sheet, sound_sheets, sound_desk}
use Rattle.desk_soundness.specs.SoundLog.{log_most, counts_of, entry_count, sound_log}
use Rattle.desk_soundness.proofs.Everys.{every-each, every_set, every_more}
use Rattle.desk_items.proofs.Wording.{item-is, times-most}
use Rattle.desk_soundness.proofs.Wording.{sound-is}
use Rattle.desk_soundness.proofs.LogWording.{log_is, log-taken}
use Rattle.desk_entries.specs.Entry.{with_entry, with_entry_on, own_item}
use Rattle.desk_entries.specs.Lent.{takes}
use Rattle.desk_entries.proofs.Camps.{sheet-in, own-sheet}
use Rattle.desk_entries.proofs.Items.{item-more, filled-sound}

-- the sum of the counts, where one is one more
counts-more : (ss : List Sheet) (s : ℕ) (x : Sheet) → s < length ss → x.count ≡ (get_or ss s no_sheet).count + 1 → counts_of (set ss s x) ≡ counts_of ss + 1
unfolding counts_of
counts-more [] s x h e = absurd (not-suc-le-zero h)
counts-more (y ∷ ss) zero x h e = omega (arith, e)
counts-more (y ∷ ss) (suc s) x h e = omega (arith, counts-more ss s x (le_of_suc-le-suc h) e)

-- each count is in the sum
count-within : (ss : List Sheet) (s : ℕ) → s < length ss → (get_or ss s no_sheet).count ≤ counts_of ss
unfolding counts_of
count-within [] s h = absurd (not-suc-le-zero h)
count-within (y ∷ ss) zero h = omega arith
count-within (y ∷ ss) (suc s) h = omega (arith, count-within ss s (le_of_suc-le-suc h))

-- memory that holds a sound desk with its log can take an entry of each bench
module _ (t n : List ℕ) (len used : ℕ) (desk : is_desk t n ≡ true) (sound : sound_desk (desk_of t n) ≡ true) (log : sound_log (desk_of t n) len used ≡ true) where
  pub sound-takes : (bench item : ℕ) (v : List ℕ) → bench < bench_count → 1 ≤ item → item ≤ item_count → length v ≤ line_most → takes t n bench item v ≡ true
  unfolding takes
  sound-takes bench item v b some known short =
      let d = desk_of t n in
      let s = sheet_of_bench bench in
      let w = log_is d len used log in
      let own : s < length d.sheets = omega (arith, sheets-long t n, sheet-in bench b) in
      let ten : length (sheet_at d s).items ≡ item_count = ap (λ (x : Sheet). length x.items) (own-sheet t n bench b) ∙ items-long (texts_of t s) (numbers_of n s) in
      let few : (sheet_at d s).count < log_most = omega (arith, w.most, w.within, w.counted, count-within d.sheets s own) in
      let often : (own_item d bench item).times < log_most
      = omega (arith, few, times-most s (sheet_at d s).count item (own_item d bench item) ((sound-is d sound).items s own item some (omega arith))) in
      simp (
        desk,
        lt-ltb bench bench_count b,
        le-leb 1 item some,
        le-leb item item_count known,
        le-leb (length v) line_most short,
        lt-ltb (sheet_at d s).count log_most few,
        lt-ltb (own_item d bench item).times log_most often,
      )

module _ (bench item : ℕ) (v : List ℕ) (b : bench < bench_count) (h : fits item v ≡ true) where
  -- the bench's sheet
  entry-sheet : (x : Sheet) → length x.items ≡ item_count → sound_sheet (sheet_of_bench bench) x ≡ true → sound_sheet (sheet_of_bench bench) (with_entry x bench item v) ≡ true
  unfolding sound_sheet
  entry-sheet x ten e =
      let s = sheet_of_bench bench in
      let f = fitting item v h in
      let n = x.count in
      let m = (item_at x item).times in
      let some = f.some in
      let known = f.known in
      let place = zero-add (item - 1) in
      let old = rw place at (every-each (sound_item s n) x.items 0 (item - 1) no_item e (omega arith)) in
      let most : m ≤ n = times-most s n (item - 1 + 1) (item_at x item) (item-is s n (item - 1) (item_at x item) old) in
      every_set (sound_item s (n + 1)) x.items 0 (item - 1) (filled bench (n + 1) (m + 1) v)
      (every_more (sound_item s n) (sound_item s (n + 1)) (item-more s n) x.items 0 e)
      (rw place (filled-sound bench (n + 1) (m + 1) item v b (omega arith) (omega arith) h))

  module _ (d : Desk) (own : sheet_of_bench bench < length d.sheets) where
    -- "entry counts are per sheet": one of them is one more, and so is their sum
    pub entry-count : entry_count (with_entry_on d bench item v) ≡ entry_count d + 1
    entry-count = counts-more d.sheets (sheet_of_bench bench) (with_entry (sheet_at d (sheet_of_bench bench)) bench item v) own refl

    -- an entry that its item can hold keeps the desk sound
    pub keeps-sound : length (sheet_at d (sheet_of_bench bench)).items ≡ item_count → sound_desk d ≡ true → sound_desk (with_entry_on d bench item v) ≡ true
    unfolding sound_desk sound_lines
    keeps-sound ten e =
        let s = sheet_of_bench bench in
        let both = and_both (sound_lines d) (sound_sheets d) e in
        let old = rw (zero-add s) at (every-each sound_sheet d.sheets 0 s no_sheet both.1 own) in
        let new = every_set sound_sheet d.sheets 0 s (with_entry (sheet_at d s) bench item v) both.1 (rw (zero-add s) (entry-sheet (sheet_at d s) ten old)) in
        simp (both.0, new)

    -- and with the log, of which the entry's record, of six bytes at least, takes the next bytes
    pub keeps-log : (len used next : ℕ) → sound_log d len used ≡ true → used + 6 ≤ next → next ≤ len → sound_log (with_entry_on d bench item v) len next ≡ true
    keeps-log len used next e more within =
        let w = log_is d len used e in
        let c = entry-count in
        log-taken (with_entry_on d bench item v) len next (record { most = w.most; within = within; counted = omega (arith, w.counted, c) })
