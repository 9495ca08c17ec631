-- Laws of the key call's definitions: what is stored, and what of the log.
-- Assumes nothing.
use mathlib.Core.Path.{◌≡◌, refl, sym, ap, ◌∙◌}
use mathlib.Core.Bool.{Bool, true, false}
use mathlib.Core.List.{List, ◌++◌, append_assoc}
use Prim.Native.Nat.{ℕ, ◌+◌, ◌-◌, ◌≤◌}
use Rattle.std.specs.Prelude.{Some, None}
use native.Mathlib.Omega.{arith}
use borrow.Author.Tests.{leb-true}
use borrow.Rule.Slice.PartMut.{put_mid, mid_of}
use lib.Dec.{leb}
use lib.ListN.{length, take, drop, take-append-drop}
use lib.Seq.{drop-drop, drop_at, take_at, length-take-le}
use Rattle.line_items.specs.Typed.{line_most}
use Rattle.desk_log.specs.Record.{head_length, record_length, record_most, head_of, record_of, with_record, has_room, written_of, free_after}
use Rattle.desk_log.proofs.Records.{free-written, tail-back, tail-lent, wrote_none, wrote-bytes, room-left}
use Rattle.desk_state.specs.declared.desk.Desk.{Desk}
use Rattle.desk_keys.specs.Key.{After, refused, entered, stored}

-- the log's tail was lent to the writer, and came back
module _ (d : Desk) (used : ℕ) (log : List ℕ) (bench item : ℕ) (v last : List ℕ) (short : length v ≤ line_most) (within : used ≤ length log)
    (back : last ≡ free_after (mid_of used (length log - used) log) bench item v) where
  room : (t : Bool) → has_room (mid_of used (length log - used) log) v ≡ t → leb (record_length v) (length log - used) ≡ t
  room t e =
      let small : record_length v ≤ record_most = omega arith in
      sym (room-left used log v small) ∙ ap (λ (f : List ℕ). has_room f v) (sym (tail-lent used log)) ∙ e

  -- it had no room, and nothing changed
  pub stored-none : written_of (mid_of used (length log - used) log) v ≡ None
      → ◌≡◌ {A = After} (record { answer = 8; desk = d; used = used; log = put_mid used (length log - used) log last }) (stored d used log bench item v)
  unfolding stored free_after
  stored-none e =
      let no = wrote_none (mid_of used (length log - used) log) v e in
      let same : put_mid used (length log - used) log last ≡ log
      = tail-back used log last ∙ ap (λ (f : List ℕ). take used log ++ f) (back ∙ simp no (tail-lent used log)) ∙ take-append-drop used log in
      simp (room false no) (ap (λ (l : List ℕ). refused 8 d used l) same)

  -- it had room: the record stands at the first unused byte
  pub stored_some : (n : ℕ) (next : Desk) → next ≡ entered d bench item v → written_of (mid_of used (length log - used) log) v ≡ Some n
      → ◌≡◌ {A = After} (record { answer = 0; desk = next; used = used + n; log = put_mid used (length log - used) log last }) (stored d used log bench item v)
  unfolding stored
  stored_some n next e w =
      let k = wrote-bytes (mid_of used (length log - used) log) v n w in
      let yes = k.0 in
      let bytes : put_mid used (length log - used) log last ≡ with_record used log bench item v
      = tail-back used log last
      ∙ ap (λ (f : List ℕ). take used log ++ f)
      (back ∙ free-written (mid_of used (length log - used) log) bench item v yes
      ∙ ap (λ (f : List ℕ). record_of bench item v ++ drop (record_length v) f) (tail-lent used log) ∙ ap (λ (f : List ℕ). record_of bench item v ++ f) (drop-drop (record_length v) used log)) in
      let l = k.1 in
      simp (room true yes) (cc)

  pub written-within : (n : ℕ) → written_of (mid_of used (length log - used) log) v ≡ Some n → (record_length v ≡ n) × (used + n ≤ length log)
  written-within n w =
      let k = wrote-bytes (mid_of used (length log - used) log) v n w in
      let l = k.1 in
      (l, omega (arith, leb-true (record_length v) (length log - used) (room true k.0)))

  -- and the value stands in it, as it is lent
  pub value_written : (n : ℕ) → written_of (mid_of used (length log - used) log) v ≡ Some n
      → take (used + n - (used + head_length)) (drop (used + head_length) (put_mid used (length log - used) log last)) ≡ v
  value_written n w =
      let k = wrote-bytes (mid_of used (length log - used) log) v n w in
      let l = k.1 in
      let e : used + n - (used + head_length) ≡ length v = omega arith in
      let rest : List ℕ = drop (record_length v) (mid_of used (length log - used) log) in
      let head : List ℕ = head_of (length v) bench item in
      ap (λ (m : ℕ). take m (drop (used + head_length) (put_mid used (length log - used) log last))) e
      ∙ ap (λ (x : List ℕ). take (length v) x)
      (ap (drop (used + head_length)) (tail-back used log last) ∙ sym (drop-drop head_length used (take used log ++ last))
      ∙ ap (drop head_length) (drop_at (take used log) last used (length-take-le used log within) ∙ back ∙ free-written (mid_of used (length log - used) log) bench item v k.0 ∙ append_assoc head v rest)
      ∙ drop_at head (v ++ rest) head_length refl)
      ∙ take_at v rest (length v) refl
