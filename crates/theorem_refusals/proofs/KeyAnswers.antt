-- A key call answers by its table: each number exactly when its condition holds and none above it does, 0 exactly when none does.
-- Assumes nothing.
use Rattle.std.specs.Prelude.{Result, Ok, Err}
use mathlib.Core.Path.{◌≡◌, refl, ap, ◌∙◌, subst⁻¹}
use mathlib.Core.Bool.{Bool, true, false, cond, ◌&&◌}
use mathlib.Core.Logic.{◌↔◌}
use mathlib.Core.List.{List}
use Prim.Native.Nat.{ℕ, ◌-◌, ◌≤◌}
use native.Mathlib.Omega.{arith}
use borrow.Author.Tests.{ltb-true, ltb-false, leb-true, leb-false, eqb-true, eqb-false, ne_eqb, le-leb}
use lib.Dec.{ltb, leb, eqb}
use lib.ListN.{length, drop, length-take, get_or-eq_default}
use Rattle.text.specs.Run.{all}
use Rattle.text.proofs.Bools.{fails, and_is, or-neither, cond-ap}
use Rattle.text.proofs.Runs.{between_is, between-taken}
use Rattle.line_items.specs.Items.{IsName}
use Rattle.line_items.specs.Typed.{line_most, is_typed}
use Rattle.line_reader.specs.Line.{class_of}
use Rattle.line_reader.specs.Wording.{IsLine}
use Rattle.line_reader.specs.declared.line.LineEntry.{LineEntry}
use Rattle.line_reader.specs.declared.line.NoEntry.{NoEntry}
use Rattle.line_reader.specs.declared.line.NoEntry.TheVariants as no_entry
use Rattle.desk_log.specs.Record.{record_length}
use Rattle.desk_state.specs.Lines.{typed}
use Rattle.desk_state.specs.Desks.{bench_count, no_line, line_at}
use Rattle.desk_soundness.specs.Sound.{sound_desk}
use Rattle.desk_soundness.specs.Wording.{Sound, SoundLine}
use Rattle.desk_soundness.specs.SoundLog.{sound_log}
use Rattle.desk_soundness.specs.Wording.{SoundWith}
use Rattle.desk_soundness.proofs.LogWording.{log_is, log-taken}
use Rattle.desk_state.specs.declared.line.Line.{Line}
use Rattle.desk_state.specs.declared.sheet.Item.{Item}
use Rattle.desk_state.specs.declared.desk.Desk.{Desk}
use Rattle.desk_memory.specs.Memory.{is_desk, desk_of, used_of}
use Rattle.desk_entries.specs.Entry.{open_to, own_item}
use Rattle.desk_keys.specs.Key.{After, stored, stored_if_open, entered_as, key_step, key_of}
use Rattle.desk_keys.specs.Lent.{KeyLent}
use Rattle.theorem_refusals.specs.Table.{Answers, from}
use Rattle.theorem_refusals.specs.KeyNumber.{enter_number, byte_number, key_number}
use Rattle.theorem_refusals.specs.Key.{Appends, IsKey, appends, erases, empties, enter, key_table, HeldByAnother, desk_table, SoundLent, lent_table}
use Rattle.theorem_refusals.proofs.Firsts.{First, this, next, answers}
use Rattle.theorem_refusals.proofs.Sounds.{desk-so, lent-so}
use Rattle.theorem_refusals.proofs.Cases.{form-so, item-so, LineCase, class-case}

-- a byte that is no key
no_key : {byte : ℕ} → (Appends byte → ⊥) → (byte ≡ 8 → ⊥) → (byte ≡ 24 → ⊥) → (byte ≡ 10 → ⊥) → IsKey byte → ⊥
no_key a e m n (appends h) = a h
no_key a e m n (erases h) = e h
no_key a e m n (empties h) = m h
no_key a e m n (enter h) = n h

not-typed : {byte : ℕ} → is_typed byte ≡ false → Appends byte → ⊥
not-typed {byte} e h = fails e (between-taken 32 126 byte h.0 h.1)

-- a text of at most 200 bytes, all 32 to 126
abbrev pub Fits : List ℕ → Type 0
Fits t = (leb (length t) line_most && all is_typed t) ≡ true

module _ (Sound : Type 0) (line : List ℕ) (size : ℕ) (OfAnother : ℕ → Type 0) (unused bench byte : ℕ) where
  -- the rows from a number on give n
  abbrev From : ℕ → ℕ → Type 0
  From row n = First (from row (key_table Sound line size OfAnother unused bench byte)) n

  -- rows 5 to 9 are of Enter
  no-enter : (byte ≡ 10 → ⊥) → From 5 0
  no-enter n = next (λ h. n h.0) (next (λ h. n h.0) (next (λ h. n h.0) (next (λ h. n h.0) (next (λ h. n h.0) refl))))

  -- Enter: rows 5 to 9
  module _ (is-enter : byte ≡ 10) (may : ℕ → Bool) (is-other : (item : ℕ) → (may item ≡ false) ↔ OfAnother item) where
    module _ (start : ℕ) {name : List ℕ} {item : ℕ} (parts : IsLine line name (drop start line)) (named : IsName name item) where
      by-room : (b : Bool) → leb (record_length (drop start line)) unused ≡ b → From 8 (cond b 0 8)
      by-room true e = next (λ h. let l = item-so parts named h.1 in let m = leb-true (record_length (drop start line)) unused e in omega arith) refl
      by-room false e =
          let long = leb-false (record_length (drop start line)) unused e in
          this (is-enter, record { name = name; value = drop start line; item = item; parts = parts; named = named; so = long }) refl

      by-owner : (b : Bool) → may item ≡ b → From 9 (cond b (cond (leb (record_length (drop start line)) unused) 0 8) 9)
      by-owner true e = next (λ h. fails ((is-other item).1 (item-so parts named h.1)) e) (by-room (leb (record_length (drop start line)) unused) refl)
      by-owner false e =
          this (is-enter, record { name = name; value = drop start line; item = item; parts = parts; named = named; so = (is-other item).0 e }) refl

    by-case : {c : Result LineEntry NoEntry} → LineCase line c → From 5 (enter_number c line may unused)
    by-case (LineCase.bad_form n) = this (is-enter, n) refl
    by-case (LineCase.no_name name value parts none) =
        next (λ h. h.1 name value parts) (this (is-enter, record { name = name; value = value; parts = parts; so = none }) refl)
    by-case (LineCase.no_kind name value item parts named wrong) =
        next (λ h. h.1 name value parts) (next (λ h. form-so parts {P = λ name value. (item : ℕ) → IsName name item → ⊥} h.1 item named)
        (this (is-enter, record { name = name; value = value; item = item; parts = parts; named = named; so = wrong }) refl))
    by-case (LineCase.entry name item start parts named passes) =
        next (λ h. h.1 name (drop start line) parts) (next (λ h. form-so parts {P = λ name value. (item : ℕ) → IsName name item → ⊥} h.1 item named)
        (next (λ h. item-so parts named h.1 passes)
        (by-owner start parts named (may item) refl)))

  -- rows 3 and 4
  module _ (may : ℕ → Bool) (is-other : (item : ℕ) → (may item ≡ false) ↔ OfAnother item) (short : size ≤ line_most) (fit : Fits line) where
    by_size : Appends byte → (b : Bool) → ltb size line_most ≡ b → From 4 (cond b 0 4)
    by_size a true e = next (λ h. let m = ltb-true size line_most e in omega arith) (no-enter (omega arith))
    by_size a false e = this (a, omega (arith, ltb-false size line_most e)) refl

    by_byte : (p q r s : Bool) → is_typed byte ≡ p → eqb byte 8 ≡ q → eqb byte 24 ≡ r → eqb byte 10 ≡ s
        → From 3 (cond p (cond (ltb size line_most) 0 4) (cond q 0 (cond r 0 (cond s (enter_number (class_of line) line may unused) 3))))
    by_byte true q r s e e8 e24 e10 =
        let a = between_is 32 126 byte e in
        next (λ k. k (appends a)) (by_size a (ltb size line_most) refl)
    by_byte false true r s e e8 e24 e10 =
        let at = eqb-true byte 8 e8 in
        next (λ h. h (erases at)) (next (λ h. not-typed e h.0) (no-enter (omega arith)))
    by_byte false false true s e e8 e24 e10 =
        let at = eqb-true byte 24 e24 in
        next (λ h. h (empties at)) (next (λ h. not-typed e h.0) (no-enter (omega arith)))
    by_byte false false false true e e8 e24 e10 =
        let at = eqb-true byte 10 e10 in
        next (λ h. h (enter at)) (next (λ h. not-typed e h.0) (by-case at may is-other (class-case line fit)))
    by_byte false false false false e e8 e24 e10 = this (no_key (not-typed e) (eqb-false byte 8 e8) (eqb-false byte 24 e24) (eqb-false byte 10 e10)) refl

  -- rows 1 and 2
  module _ (sound : Bool) (is-sound : (sound ≡ true) ↔ Sound) (may : ℕ → Bool) (is-other : (item : ℕ) → (may item ≡ false) ↔ OfAnother item)
      (ready : Sound → (size ≤ line_most) × Fits line) where
    by-sound : (b : Bool) → sound ≡ b → From 2 (cond b (byte_number line size may unused byte) 2)
    by-sound true e =
        let h = is-sound.0 e in
        let k = ready h in
        next (λ n. n h) (by_byte may is-other k.0 k.1 (is_typed byte) (eqb byte 8) (eqb byte 24) (eqb byte 10) refl refl refl refl)
    by-sound false e = this (λ h. fails e (is-sound.1 h)) refl

    by-bench : (b : Bool) → ltb bench bench_count ≡ b → From 1 (cond b (cond sound (byte_number line size may unused byte) 2) 1)
    by-bench true e = next (λ n. n (ltb-true bench bench_count e)) (by-sound sound refl)
    by-bench false e = let h = ltb-false bench bench_count e in this (λ k. omega arith) refl

    -- the number by tests is the table's, whatever says that the desk is sound
    pub number-answers : Answers (key_table Sound line size OfAnother unused bench byte) (key_number sound line size may unused bench byte)
    number-answers =
        answers (key_table Sound line size OfAnother unused bench byte) (key_number sound line size may unused bench byte) refl (by-bench (ltb bench bench_count) refl)

-- ---- a key call on a desk

-- each line of a sound desk is sound; that of a bench that is not there reads as an empty one
no-line-sound : SoundLine no_line
unfolding all
no-line-sound = record { most = omega arith; bytes = refl; unused = refl }

line-by : (d : Desk) (bench : ℕ) (b : Bool) → ltb bench (length d.lines) ≡ b → Sound d → SoundLine (line_at d bench)
line-by d bench true e h = h.lines bench (ltb-true bench (length d.lines) e)
line-by d bench false e h = subst⁻¹ SoundLine (get_or-eq_default d.lines no_line (ltb-false bench (length d.lines) e)) no-line-sound

-- an item is not open to a bench exactly when it is another bench's
open-so : (i : Item) (bench : ℕ) → (open_to i bench ≡ false) ↔ HeldByAnother bench i
unfolding open_to
open-so i bench = (
  λ e. let h = or-neither (eqb i.len 0) (eqb i.bench bench) e in let some = eqb-false i.len 0 h.0 in (omega arith, eqb-false i.bench bench h.1),
  λ h. simp (ne_eqb i.len 0 (λ z. omega (arith, h.0)), ne_eqb i.bench bench h.1),
)

-- the log's part
log-so : (d : Desk) (len used : ℕ) → (sound_log d len used ≡ true) ↔ SoundWith d len used
log-so d len used = (log_is d len used, log-taken d len used)

pub line-ready : (d : Desk) (bench : ℕ) → Sound d → ((line_at d bench).len ≤ line_most) × Fits (typed (line_at d bench))
line-ready d bench s =
    let l = line_at d bench in
    let h = line-by d bench (ltb bench (length d.lines)) refl s in
    let m = h.most in
    let few : length (typed l) ≤ line_most = simp length-take (omega arith) in
    (m, simp (le-leb (length (typed l)) line_most few, h.bytes))

module _ (d : Desk) (used : ℕ) (log : List ℕ) (bench byte : ℕ) where
  abbrev l : Line
  l = line_at d bench

  abbrev may : ℕ → Bool
  may item = open_to (own_item d bench item) bench

  number-class : (c : Result LineEntry NoEntry) → (entered_as c d used log bench (typed l)).answer ≡ enter_number c (typed l) may (length log - used)
  unfolding stored_if_open stored
  number-class (Err no_entry.BadForm) = refl
  number-class (Err no_entry.UnknownName) = refl
  number-class (Err no_entry.WrongKind) = refl
  number-class (Ok at) =
      let item = at.item in
      let start = at.start in
      cond-ap (λ (x : After). x.answer) (may item) _ _
      ∙ ap (λ (a : ℕ). cond (may item) a 9) (cond-ap (λ (x : After). x.answer) (leb (record_length (drop start (typed l))) (length log - used)) _ _)

  number_is : (key_of d used log bench byte).answer ≡ key_number (sound_desk d && sound_log d (length log) used) (typed l) l.len may (length log - used) bench byte
  unfolding key_of key_step
  number_is = simp (cond-ap (λ (x : After). x.answer), number-class)

  -- "given exactly when", "The first that applies, in this order, is the answer"
  pub key-table : Answers (desk_table d used log bench byte) (key_of d used log bench byte).answer
  key-table =
      subst⁻¹ (Answers (desk_table d used log bench byte)) number_is
      (number-answers (Sound d × SoundWith d (length log) used) (typed l) l.len (λ item. HeldByAnother bench (own_item d bench item)) (length log - used) bench byte
      (sound_desk d && sound_log d (length log) used) (and_is (desk-so d) (log-so d (length log) used)) may (λ item. open-so (own_item d bench item) bench)
      (λ h. line-ready d bench h.0))

-- ---- the same of the desk in lent memory

module _ (t n log : List ℕ) (bench byte : ℕ) where
  abbrev d : Desk
  d = desk_of t n

  abbrev line : List ℕ
  line = typed (line_at d bench)

  abbrev lent_may : ℕ → Bool
  lent_may item = open_to (own_item d bench item) bench

  module _ {a : ℕ} {t' n' log' : List ℕ} (h : KeyLent t n log bench byte a t' n' log') where
    lent_by : (b : Bool) → is_desk t n ≡ b
        → a ≡ key_number ((b && sound_desk d) && sound_log d (length log) (used_of n)) line (line_at d bench).len lent_may (length log - used_of n) bench byte
    lent_by true e = ap (λ (x : After). x.answer) (h.desk e) ∙ number_is d (used_of n) log bench byte
    lent_by false e = (h.no_desk e).0

    -- of whatever a key call on lent memory answers, by its contract
    pub lent-key-table : Answers (lent_table t n log bench byte) a
    lent-key-table =
        subst⁻¹ (Answers (lent_table t n log bench byte)) (lent_by (is_desk t n) refl)
        (number-answers (SoundLent t n × SoundWith d (length log) (used_of n)) line (line_at d bench).len (λ item. HeldByAnother bench (own_item d bench item)) (length log - used_of n) bench byte
        ((is_desk t n && sound_desk d) && sound_log d (length log) (used_of n)) (and_is (lent-so t n) (log-so d (length log) (used_of n)))
        lent_may (λ item. open-so (own_item d bench item) bench)
        (λ s. line-ready d bench s.0.1))
