-- `hydrogen_writer::typed_with` meets its contract: the mark takes the place of the space after the last term.
-- Assumes nothing.
use native.Mathlib.Omega.{arith}
use mathlib.Core.Path.{◌≡◌, refl}
use mathlib.Core.Logic.{inl, inr}
use Prim.Native.Nat.{◌+◌, ◌<◌}
use lib.ListN.{take, set}
use Rattle.hydrogen_writer.specs.Typed.{typed_with, typed_most, whole}
use Rattle.hydrogen_writer.proofs.Closing.{Ends, closed-off, closed}
use Rattle.hydrogen_writer.proofs.typed_with.Goals as goal
use Rattle.hydrogen_writer.proofs.typed_with.Goals.{Joined-at-gt1, then-at-gt1, else-at-gt1}

pub put_words-at-requires : goal.put_words-at-requires
put_words-at-requires c = (refl, whole refl (omega arith) refl)

pub returns-then-at-gt-TYPED_MOST : goal.returns-then-at-gt-TYPED_MOST
returns-then-at-gt-TYPED_MOST c =
    let a = c.args in
    closed-off a.n a.s.now c.put_words-at.new.out c.put_words-at.result c.put_words-at.auto.out c.if-at-gt-TYPED_MOST.true c.put_words-at.ensures

ends : (c : Joined-at-gt1) → Ends c.put_words-at.result c.if-at-gt1.end
ends c =
    elim c.if-at-gt1.branch [
      | then-at-gt1 w ↦ inl (w.if-at-gt1.true, w.end-is)
      | else-at-gt1 w ↦ inr (w.if-at-gt1.false, w.end-is)
    ]

shown : (c : Joined-at-gt1) → (take (c.if-at-gt1.end + 1) (set c.put_words-at.new.out c.if-at-gt1.end 39) ≡ typed_with c.args.n c.args.s.now)
    × (c.if-at-gt1.end < typed_most)
shown c =
    let a = c.args in
    closed a.n a.s.now c.put_words-at.new.out c.put_words-at.result c.put_words-at.auto.out c.if-at-gt-TYPED_MOST.false c.if-at-gt1.end (ends c) c.put_words-at.ensures

pub bounds-bytes-end : goal.bounds-bytes-end
bounds-bytes-end c = (shown (goal.at.bounds-bytes-end c).Joined-at-gt1).1

pub overflow_add-result : goal.overflow_add-result
overflow_add-result c = omega (arith, (shown (goal.at.overflow_add-result c).Joined-at-gt1).1)

pub returns : goal.returns
returns c = (shown (goal.at.returns c).Joined-at-gt1).0
