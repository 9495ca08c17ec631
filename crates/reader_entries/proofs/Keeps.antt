-- A record that is taken keeps a desk sound, with its end as used; and a sound desk can take it.
-- Assumes nothing.
use mathlib.Core.Path.{◌≡◌, ap, ◌∙◌}
use mathlib.Core.Bool.{true}
use mathlib.Core.List.{List}
use Prim.Native.Nat.{ℕ, ◌+◌, ◌≤◌, ◌<◌}
use native.Mathlib.Omega.{arith}
use lib.ListN.{length}
use Rattle.text.proofs.Bools.{and_both}
use Rattle.line_items.specs.Items.{item_count}
use Rattle.desk_state.specs.Desks.{sheet_count, sheet_of_bench, sheet_at}
use Rattle.desk_state.specs.declared.sheet.Sheet.{Sheet}
use Rattle.desk_state.specs.declared.desk.Desk.{Desk}
use Rattle.desk_memory.specs.Memory.{is_desk, texts_of, numbers_of, desk_of, used_of}
use Rattle.desk_memory.proofs.Desks.{sheets-long, sheet-at, items-long}
use Rattle.desk_soundness.specs.Sound.{sound_desk}
use Rattle.desk_soundness.specs.SoundLog.{log_most}
use Rattle.desk_soundness.specs.SoundMemory.{sound_memory, sound_for_keys}
use Rattle.desk_entries.specs.Lent.{takes}
use Rattle.desk_entries.proofs.Camps.{sheet-in}
use Rattle.line_kinds.proofs.Fitting.{fitting}
use Rattle.desk_entries.proofs.Sounds as entries
use Rattle.reader_cuts.specs.Reading.{length_least}
use Rattle.desk_log.specs.Record.{bench_told, item_told, value_told}
use Rattle.reader_records.specs.Shape.{shaped}
use Rattle.reader_records.proofs.Shapes.{shaped-parts}
use Rattle.reader_entries.specs.Judged.{refusal_of, store_of, sound_at}
use Rattle.reader_entries.proofs.Judged.{taken-shaped}

module _ (t n : List ℕ) where
  -- soundness with the used number as the record's start, of the desk in the memory
  pub sound-desk : sound_for_keys t n log_most ≡ true → (is_desk t n ≡ true) × (sound_at (desk_of t n) (used_of n) ≡ true)
  unfolding sound_for_keys sound_memory sound_at
  sound-desk e =
      let a = and_both (sound_memory t n) _ e in
      let b = and_both (is_desk t n) _ a.0 in
      (b.0, simp (b.1, a.1))

  pub desk-sound : is_desk t n ≡ true → sound_at (desk_of t n) (used_of n) ≡ true → sound_for_keys t n log_most ≡ true
  unfolding sound_for_keys sound_memory sound_at
  desk-sound a e = let b = and_both (sound_desk (desk_of t n)) _ e in simp (a, b.0, b.1)

  pub sound-takes : (r : List ℕ) → sound_for_keys t n log_most ≡ true → shaped (used_of n) r ≡ true → takes t n (bench_told r) (item_told r) (value_told r) ≡ true
  unfolding sound_at
  sound-takes r e s =
      let here = sound-desk e in
      let both = and_both (sound_desk (desk_of t n)) _ here.1 in
      let p = shaped-parts (used_of n) r s in
      let f = fitting (item_told r) (value_told r) p.fit in
      entries.sound-takes t n log_most (used_of n) here.0 both.0 both.1 (bench_told r) (item_told r) (value_told r) p.bench_in f.some f.known f.short

-- a desk with all its sheets, and all items on each
pub record Whole (d : Desk) : Type 0 where
  pub sheets : length d.sheets ≡ sheet_count
  pub items : (s : ℕ) → s < sheet_count → length (sheet_at d s).items ≡ item_count

pub desk-whole : (t n : List ℕ) → Whole (desk_of t n)
desk-whole t n = record {
  sheets = sheets-long t n;
  items = λ s h. ap (λ (x : Sheet). length x.items) (sheet-at t n s h) ∙ items-long (texts_of t s) (numbers_of n s);
}

-- "an accepted entry keeps the desk sound", with its record's end as used
pub keeps : (d : Desk) (at : ℕ) (r : List ℕ) → Whole d → sound_at d at ≡ true → length_least ≤ length r → refusal_of at r d ≡ 0
    → sound_at (store_of r d) (at + length r) ≡ true
unfolding sound_at store_of
keeps d at r w e lo z =
    let both = and_both (sound_desk d) _ e in
    let p = shaped-parts at r (taken-shaped at r d z) in
    let s = sheet-in (bench_told r) p.bench_in in
    let own : sheet_of_bench (bench_told r) < length d.sheets = omega (arith, s, w.sheets) in
    let sound = entries.keeps-sound (bench_told r) (item_told r) (value_told r) p.bench_in p.fit d own (w.items (sheet_of_bench (bench_told r)) s) both.0 in
    let log = entries.keeps-log (bench_told r) (item_told r) (value_told r) p.bench_in p.fit d own log_most at (at + length r) both.1 (omega (arith, lo)) p.within in
    simp (sound, log)
