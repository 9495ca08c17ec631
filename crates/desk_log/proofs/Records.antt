-- Laws of records: the head and then the value, the length, and a tail of the log that was lent and came back.
-- Assumes nothing.
use mathlib.Core.Path.{◌≡◌, ◌∙◌, ap}
use Rattle.std.specs.Prelude.{Some, None}
use mathlib.Core.Bool.{true, false, and-true, and-false}
use mathlib.Core.List.{List, [], ◌++◌, append-nil}
use Prim.Native.Nat.{ℕ, ◌+◌, ◌-◌, ◌≤◌, ◌<◌}
use native.Mathlib.Nat.{zero-add}
use native.Mathlib.Omega.{arith}
use borrow.Author.Tests.{le-leb, lt-leb}
use lib.Dec.{leb}
use borrow.Rule.Slice.PartMut.{put_mid, mid_of}
use lib.ListN.{length, take, drop, length-drop, drop_of_length-le}
use lib.Seq.{take_all, drop-append-add, drop-drop}
use Rattle.text_copies.specs.Copy.{copied}
use Rattle.text.proofs.Bools.{not-holds, cond-first}
use Rattle.text_copies.proofs.Copies.{copied-fits}
use Rattle.desk_log.specs.Record.{head_length, record_length, record_most, head_of, record_of, has_room, written_of, free_after}

pub record-length : (bench item : ℕ) (v : List ℕ) → length (record_of bench item v) ≡ record_length v
record-length bench item v = omega arith

-- a record written in two steps
pub record-written : (bench item : ℕ) (v f : List ℕ) → record_length v ≤ length f
    → copied (head_of (length v) bench item ++ drop head_length f) head_length v ≡ record_of bench item v ++ drop (record_length v) f
record-written bench item v f h =
    let head = head_of (length v) bench item in
    let l : head_length + length v ≤ length (head ++ drop head_length f) = simp length-drop (omega arith) in
    copied-fits (head ++ drop head_length f) head_length v l ∙ rw (drop-append-add head (drop head_length f) (length v), drop-drop)

-- with room, the record stands before the rest of the free part
pub free-written : (free : List ℕ) (bench item : ℕ) (v : List ℕ) → has_room free v ≡ true
    → free_after free bench item v ≡ record_of bench item v ++ drop (record_length v) free
unfolding free_after
free-written free bench item v h = simp h (ap (λ (n : ℕ). record_of bench item v ++ drop n free) (zero-add (record_length v)))

pub has-room : (free v : List ℕ) → record_length v ≤ length free → record_length v ≤ record_most → has_room free v ≡ true
unfolding has_room
has-room free v h s = simp (le-leb _ _ h, le-leb _ _ s)

pub too_long : (free v : List ℕ) → record_most < record_length v → has_room free v ≡ false
unfolding has_room
too_long free v h = rw (lt-leb (record_length v) record_most h) (and-false (leb (record_length v) (length free)))

pub too-little : (free v : List ℕ) → length free < record_length v → has_room free v ≡ false
unfolding has_room
too-little free v h = simp (lt-leb _ _ h)

-- a log whose part from `used` on was lent and came back as r
pub tail-back : (used : ℕ) (log r : List ℕ) → put_mid used (length log - used) log r ≡ take used log ++ r
tail-back used log r =
    let d : length (drop used log) ≤ length log - used = simp length-drop (omega arith) in
    let none : drop (length log - used) (drop used log) ≡ [] = drop_of_length-le (drop used log) d in
    rw (none, append-nil)

-- the part from `used` on, as it is lent
pub tail-lent : (used : ℕ) (log : List ℕ) → mid_of used (length log - used) log ≡ drop used log
tail-lent used log = take_all (length log - used) (drop used log) (simp length-drop (omega arith))

-- what the answer tells of the room
pub wrote_none : (free v : List ℕ) → written_of free v ≡ None → has_room free v ≡ false
unfolding written_of
wrote_none free v e = not-holds (has_room free v) (λ h. let q = simp h at e in let z : ◌≡◌ {A = ℕ} 0 1 = cc in omega arith)

pub wrote-bytes : (free v : List ℕ) (n : ℕ) → written_of free v ≡ Some n → (has_room free v ≡ true) × (record_length v ≡ n)
unfolding written_of
wrote-bytes free v n e =
    let h = cond-first (has_room free v) (Some (record_length v)) None (Some n) (λ q. cc) e in
    let q = h.1 in
    let l : record_length v ≡ n = cc in
    (h.0, l)

-- the room for a short value, by the unused part of the log
pub room-left : (used : ℕ) (log v : List ℕ) → record_length v ≤ record_most → has_room (drop used log) v ≡ leb (record_length v) (length log - used)
unfolding has_room
room-left used log v s = simp (le-leb _ _ s, length-drop) (and-true (leb (record_length v) (length log - used)))
