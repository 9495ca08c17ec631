-- `reader_feed::read_kept` meets its contract: each return is a case of the record whose first bytes were kept.
-- Assumes nothing.
use native.Mathlib.Omega.{arith}
use borrow.Author.Rules.{rules}
use mathlib.Core.Path.{◌≡◌, refl, ap, ◌∙◌}
use Prim.Native.Nat.{◌+◌}
use lib.ListN.{length, take}
use Rattle.std.specs.Prelude.{Ok}
use Rattle.text_copies.proofs.Copies.{length-copied}
use Rattle.desk_memory.proofs.Desks.{desk-sized}
use Rattle.reader_answers.proofs.Numbers.{refused-some}
use Rattle.reader_entries.proofs.Keeps.{sound-desk}
use Rattle.reader_steps.specs.Steps.{FirstLent}
use Rattle.reader_feed.proofs.Kepts.{begun, taken-less, taken-sound, taken-reads, none-refused, none_inside, none-held}
use Rattle.reader_feed.proofs.read_kept.Goals as goal
use Rattle.reader_feed.proofs.read_kept.Goals.{In-Ok-Some, In-Ok-None, In-Ok-None-2}

-- the record that is taken
taken : (c : In-Ok-Some) → (let a = c.args in
    FirstLent a.texts.now a.numbers.now (take (a.len + c.min-m.result) c.put.new.self.kept.now) c.in-Ok-Some.n 0 c.take_first-taken.new.texts c.take_first-taken.new.numbers)
taken c = let e = c.in-Ok-Some.is ∙ ap Ok (rw c.in-Ok-Some.is at c.in-Ok-Some.field-0-is) in rw (c.first.ensures, e) at c.take_first-taken.ensures.first

some : (c : In-Ok-Some) → c.in-Ok-Some.n ≡ 0 → ⊥
some c z = let e = c.in-Ok-Some.is ∙ ap Ok (rw c.in-Ok-Some.is at c.in-Ok-Some.field-0-is) in let p = rw e at c.take_first-taken.ensures.taken in omega (arith, p, z)

pub first-requires : goal.first-requires
first-requires c = let l = ap length c.put.ensures.kept ∙ length-copied _ _ _ in omega (arith, l, c.requires.1, c.requires.4, c.min-m.ensures)

pub overflow_sub-from : goal.overflow_sub-from
overflow_sub-from c = let a = c.args in let l = taken-less a.last _ _ _ _ _ _ _ _ (begun c.requires c.min-m.ensures c.put.ensures.kept) _ _ _ _ (taken c) (some c) in omega (arith, l)

pub bounds-numbers-158 : goal.bounds-numbers-158
bounds-numbers-158 c = let a = c.args in let d = desk-sized a.texts.now a.numbers.now (sound-desk a.texts.now a.numbers.now c.requires.0).0 in omega (arith, d.numbers, c.take_first-taken.ensures.first.same_length.1)

pub read_part-requires : goal.read_part-requires
read_part-requires c = let o = (goal.at.read_part-requires c).In-Ok-Some in (taken-sound c.args.last _ _ _ _ _ _ _ _ (begun c.requires c.min-m.ensures c.put.ensures.kept) _ _ _ _ (taken o) (some o), ap length c.put.ensures.kept ∙ length-copied _ _ _ ∙ c.requires.1, ap length c.put.ensures.state ∙ c.requires.2)

pub returns-in-Ok-Some-clause-left : goal.returns-in-Ok-Some-clause-left
returns-in-Ok-Some-clause-left c = let o = (goal.at.returns-in-Ok-Some-clause-left c).In-Ok-Some in taken-reads c.args.last _ _ _ _ _ _ _ _ (begun c.requires c.min-m.ensures c.put.ensures.kept) _ _ _ _ (taken o) (some o) c.read_part.ensures.left

pub returns-in-Ok-None-clause-left : goal.returns-in-Ok-None-clause-left
returns-in-Ok-None-clause-left c =
    let e = c.in-Ok-None.is ∙ ap Ok (rw c.in-Ok-None.is at c.in-Ok-None.field-0-is) in
    none_inside c.args.last _ _ _ _ _ _ _ _ (begun c.requires c.min-m.ensures c.put.ensures.kept) _ _ _ _ (rw (c.first.ensures, e) at c.take_first-taken.ensures.first) refl refl (search rules) (rw c.put.ensures.state at c.stop.ensures.left _)

pub returns-in-Ok-None-2-clause-left : goal.returns-in-Ok-None-2-clause-left
returns-in-Ok-None-2-clause-left c =
    let e = c.in-Ok-None-2.is ∙ ap Ok (rw c.in-Ok-None-2.is at c.in-Ok-None-2.field-0-is) in
    none-held c.args.last _ _ _ _ _ _ _ _ (begun c.requires c.min-m.ensures c.put.ensures.kept) _ _ _ _ (rw (c.first.ensures, e) at c.take_first-taken.ensures.first) refl refl _ _ (search rules) (c.put_state.ensures.kept ∙ c.keep_first.ensures.kept) (rw (c.keep_first.ensures.state, c.put.ensures.state, c.from.ensures) at c.put_state.ensures.state)

pub returns-in-Err-clause-left : goal.returns-in-Err-clause-left
returns-in-Err-clause-left c = none-refused c.args.last _ _ _ _ _ _ _ _ (begun c.requires c.min-m.ensures c.put.ensures.kept) _ _ _ _ (rw c.first.ensures at c.in-Err.ensures.first) refl (refused-some _) (rw c.put.ensures.state at c.stop-in-Err.ensures.left _)
