-- `desk_log::write_record` meets its contract: with room, the head and then the value; else nothing.
-- Assumes nothing.
use native.Mathlib.Omega.{arith}
use mathlib.Core.Path.{◌∙◌, ap, sym}
use mathlib.Core.List.{List}
use Prim.Native.Nat.{ℕ}
use Rattle.text_copies.specs.Copy.{copied}
use Rattle.desk_log.specs.Record.{head_length, written_of, free_after}
use Rattle.desk_log.proofs.Records.{record-written, free-written, has-room, too_long, too-little}
use Rattle.desk_log.proofs.write_record.Goals as goal

pub returns-then-n : goal.returns-then-n
unfolding written_of free_after
returns-then-n c =
    let a = c.args in
    let no = too_long a.free.now a.value.now (omega arith) in
    (simp no, simp no)

pub returns-then-free-n : goal.returns-then-free-n
unfolding written_of free_after
returns-then-free-n c =
    let a = c.args in
    let no = too-little a.free.now a.value.now (omega arith) in
    (simp no, simp no)

pub returns : goal.returns
unfolding written_of
returns c =
    let a = c.args in
    let yes = has-room a.free.now a.value.now (omega arith) (omega arith) in (
      simp yes,
      c.copy_in.ensures ∙ ap (λ (l : List ℕ). copied l head_length a.value.now) c.put_head.ensures
          ∙ record-written a.bench a.item a.value.now a.free.now (omega arith)
          ∙ sym (free-written a.free.now a.bench a.item a.value.now yes),
    )
