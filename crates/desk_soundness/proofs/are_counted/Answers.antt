use native.Mathlib.Omega.{arith}
use mathlib.Core.Path.{sym, ap, ◌∙◌}
use Prim.Native.Nat.{ℕ, ◌*◌, ◌+◌}
use borrow.Author.Tests.{le-leb, lt-leb}
use lib.Dec.{leb}
use lib.ListN.{get_or}
use Rattle.desk_state.specs.Desks.{bench_count}
use Rattle.desk_memory.specs.Memory.{count_at, sheet_numbers, desk_of}
use Rattle.desk_soundness.specs.SoundLog.{entry_count}
use Rattle.desk_soundness.proofs.Counts.{counts_from, six-each, count-taken, counts_end, counts-turn}
use Rattle.desk_soundness.proofs.are_counted.Goals as goal

pub loop-s-init : goal.loop-s-init
loop-s-init c = let a = c.args in λ t. six-each (entry_count (desk_of t a.numbers.now)) a.used

pub returns-then-left-count : goal.returns-then-left-count
returns-then-left-count c =
    let n = c.args.numbers.now in
    let s = c.loop-s.s in
    λ t.
    let e = counts-turn t n s (omega arith) in
    sym (c.loop-s.invariant t ∙ lt-leb (counts_from t n s) c.loop-s.left (omega (arith, c.if-left-count.true)))

pub loop-s-preserved : goal.loop-s-preserved
loop-s-preserved c =
    let n = c.args.numbers.now in
    let s = c.loop-s.s in
    let count = get_or n (bench_count + s * sheet_numbers + count_at) 0 in
    λ t. c.loop-s.invariant t ∙ ap (λ (x : ℕ). leb x c.loop-s.left) (counts-turn t n s (omega arith))
    ∙ count-taken count (counts_from t n (s + 1)) c.loop-s.left c.if-left-count.false

pub returns : goal.returns
returns c =
    let n = c.args.numbers.now in
    λ t. sym (c.loop-s.invariant t ∙ ap (λ (x : ℕ). leb x c.loop-s.left) (counts_end t n c.loop-s.s (omega arith)) ∙ le-leb 0 c.loop-s.left (omega arith))
