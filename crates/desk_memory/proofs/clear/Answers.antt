-- `desk_memory::clear` meets its contract: the two tests are the one of `copied`.
-- Assumes nothing.
use native.Mathlib.Omega.{arith}
use mathlib.Core.Path.{◌≡◌, sym, ap, ◌∙◌}
use Prim.Native.Nat.{ℕ}
use lib.ListN.{length, replicate, length-replicate, length-take, length-drop}
use Rattle.text_copies.proofs.Copies.{written-is}
use Rattle.desk_memory.proofs.Gets.{copied-not}
use Rattle.desk_memory.proofs.clear.Goals as goal

pub returns-then-t-from : goal.returns-then-t-from
returns-then-t-from c =
    let a = c.args in
    sym (copied-not a.t.now a.from (replicate a.n 0) (omega (arith, length-replicate {A = ℕ} a.n 0)))

pub returns-then-t-from-2 : goal.returns-then-t-from-2
returns-then-t-from-2 c =
    let a = c.args in
    sym (copied-not a.t.now a.from (replicate a.n 0) (omega (arith, length-replicate {A = ℕ} a.n 0)))

pub returns : goal.returns
returns c =
    let a = c.args in
    let long : length c.fill.new.self ≡ a.n = c.fill.ensures.len ∙ simp (length-take, length-drop) (omega arith) in
    let filled : c.fill.new.self ≡ replicate a.n 0 = c.fill.ensures.after (λ y h. h) ∙ ap (λ (m : ℕ). replicate m 0) (sym c.fill.ensures.len ∙ long) in
    let l = length-replicate {A = ℕ} a.n 0 in
    written-is a.t.now a.from _ (replicate a.n 0) _ filled (omega arith) (omega arith)
