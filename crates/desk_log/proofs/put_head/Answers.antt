-- `desk_log::put_head` meets its contract: six stores, one after the other.
-- Assumes nothing.
use native.Mathlib.Omega.{arith}
use mathlib.Core.Path.{◌≡◌, ◌∙◌, ap}
use mathlib.Core.List.{List}
use Prim.Native.Nat.{ℕ, ◌+◌, ◌/◌, ◌%◌}
use lib.ListN.{get_or, length-set}
use lib.Seq.{sets-eq}
use Rattle.std.specs.Int.{to_le_bytes, w16}
use Rattle.desk_log.specs.Record.{head_length, head_of}
use Rattle.desk_log.proofs.put_head.Goals as goal

pub bounds-free-1 : goal.bounds-free-1
bounds-free-1 c = simp length-set (omega arith)

pub bounds-free-2 : goal.bounds-free-2
bounds-free-2 c = simp length-set (omega arith)

pub bounds-free-3 : goal.bounds-free-3
bounds-free-3 c = simp length-set (omega arith)

pub bounds-free-4 : goal.bounds-free-4
bounds-free-4 c = simp length-set (omega arith)

low : (m : ℕ) → get_or (to_le_bytes w16 m) 0 0 ≡ m % 256
low m = grind arith

high : (m : ℕ) → get_or (to_le_bytes w16 m) 1 0 ≡ m / 256 % 256
high m = grind arith

pub returns : goal.returns
returns c =
    let a = c.args in
    let m = head_length + a.n in
    let x = ap (λ (l : List ℕ). get_or l 0 0) c.to_le_bytes-length.ensures ∙ low m in
    let y = ap (λ (l : List ℕ). get_or l 1 0) c.to_le_bytes-length.ensures ∙ high m in
    rw (x, y) (sets-eq (head_of a.n a.bench a.item) a.free.now 0 (omega arith))
