-- A key call whose answer is not 0 changes nothing, in the definitions and in lent memory, where it leaves every byte and every number.
-- Assumes nothing.
use Rattle.std.specs.Prelude.{Result, Ok, Err}
use mathlib.Core.Path.{◌≡◌, refl, ap, ◌∙◌}
use mathlib.Core.Bool.{Bool, true, false, cond, ◌&&◌}
use mathlib.Core.List.{List}
use Prim.Native.Nat.{ℕ, ◌-◌}
use lib.Dec.{ltb, leb, eqb}
use lib.ListN.{length, drop}
use Rattle.line_items.specs.Typed.{line_most, is_typed}
use Rattle.line_reader.specs.Line.{class_of}
use Rattle.line_reader.specs.declared.line.LineEntry.{LineEntry}
use Rattle.line_reader.specs.declared.line.NoEntry.{NoEntry}
use Rattle.line_reader.specs.declared.line.NoEntry.TheVariants as no_entry
use Rattle.desk_log.specs.Record.{record_length}
use Rattle.desk_state.specs.Lines.{typed}
use Rattle.desk_state.specs.Desks.{bench_count, line_at}
use Rattle.desk_state.specs.declared.desk.Desk.{Desk}
use Rattle.desk_memory.specs.Memory.{Sized, is_desk, desk_of, used_of}
use Rattle.desk_memory.proofs.Desks.{desk-sized}
use Rattle.desk_memory.proofs.Whole.{same-texts, same_numbers}
use Rattle.desk_soundness.specs.Sound.{sound_desk}
use Rattle.desk_soundness.specs.SoundLog.{sound_log}
use Rattle.desk_entries.specs.Entry.{open_to, own_item}
use Rattle.desk_keys.specs.Key.{After, refused, stored, stored_if_open, entered_as, key_step, key_of}
use Rattle.desk_keys.specs.Lent.{KeyLent}

module _ (d : Desk) (used : ℕ) (log : List ℕ) where
  -- accepted, or as it was
  abbrev Kept : After → Type 0
  Kept a = (a.answer ≡ 0 → ⊥) → a ≡ refused a.answer d used log

  either : (b : Bool) {x y : After} → Kept x → Kept y → Kept (cond b x y)
  either true h k = h
  either false h k = k

  module _ (bench : ℕ) where
    stored-kept : (item : ℕ) (v : List ℕ) → Kept (stored d used log bench item v)
    unfolding stored
    stored-kept item v = either (leb (record_length v) (length log - used)) (λ n. absurd (n refl)) (λ n. refl)

    open_kept : (item : ℕ) (v : List ℕ) → Kept (stored_if_open d used log bench item v)
    unfolding stored_if_open
    open_kept item v = either (open_to (own_item d bench item) bench) (stored-kept item v) (λ n. refl)

    entered-kept : (q : Result LineEntry NoEntry) (t : List ℕ) → Kept (entered_as q d used log bench t)
    entered-kept (Err no_entry.BadForm) t = λ n. refl
    entered-kept (Err no_entry.UnknownName) t = λ n. refl
    entered-kept (Err no_entry.WrongKind) t = λ n. refl
    entered-kept (Ok at) t = open_kept at.item (drop at.start t)

    step_kept : (byte : ℕ) → Kept (key_step d used log bench byte)
    unfolding key_step
    step_kept byte =
        either (is_typed byte) (either (ltb (line_at d bench).len line_most) (λ n. absurd (n refl)) (λ n. refl))
        (either (eqb byte 8) (λ n. absurd (n refl))
        (either (eqb byte 24) (λ n. absurd (n refl))
        (either (eqb byte 10) (entered-kept (class_of (typed (line_at d bench))) (typed (line_at d bench))) (λ n. refl))))

  pub refused-only : (bench byte : ℕ) → Kept (key_of d used log bench byte)
  unfolding key_of
  refused-only bench byte =
      either (ltb bench bench_count) (either (sound_desk d && sound_log d (length log) used) (step_kept bench byte) (λ n. refl)) (λ n. refl)

-- "Refused calls change nothing"
pub refused-same : {t n log : List ℕ} {bench byte a : ℕ} {t' n' log' : List ℕ} → KeyLent t n log bench byte a t' n' log' → (a ≡ 0 → ⊥)
    → (t' ≡ t) × (n' ≡ n) × (log' ≡ log)
refused-same {t} {n} {log} {bench} {byte} {a} {t'} {n'} {log'} k not-0 = go (is_desk t n) refl
  where
    go : (b : Bool) → is_desk t n ≡ b → (t' ≡ t) × (n' ≡ n) × (log' ≡ log)
    go true d =
        let r = k.desk d in
        let answer : a ≡ (key_of (desk_of t n) (used_of n) log bench byte).answer = ap (λ (s : After). s.answer) r in
        let e = r ∙ refused-only (desk_of t n) (used_of n) log bench byte (λ z. not-0 (answer ∙ z)) in
        let z = desk-sized t n d in
        let l = k.same_length in
        let z' : Sized t' n' = record { texts = l.0 ∙ z.texts; numbers = l.1 ∙ z.numbers } in
        let x = ap (λ (s : After). s.desk) e in
        let u = ap (λ (s : After). s.used) e in
        (same-texts t' n' t n z' z x u, same_numbers t' n' t n z' z x u, ap (λ (s : After). s.log) e)
    go false d = let x = k.no_desk d in (x.1, x.2, x.3)
