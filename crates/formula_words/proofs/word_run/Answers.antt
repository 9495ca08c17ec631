use native.Mathlib.Omega.{arith}
use mathlib.Core.Path.{◌≡◌, subst}
use Prim.Native.Nat.{ℕ, ◌≤◌}
use borrow.Author.Tests.{eq-eqb, ne_eqb}
use lib.ListN.{length}
use Rattle.text.specs.Run.{run_of, other}
use Rattle.text.proofs.Runs.{more, stop, end}
use Rattle.formula_moiety.specs.Reading.{in_word}
use Rattle.formula_words.proofs.word_run.Goals as goal
use Rattle.formula_words.proofs.word_run.Goals.{then-b-eq32-via-then-b-eq32, then-b-eq32-via-else-b-eq32+then-b-eq41, then-b-eq32-via-else-b-eq32+else-b-eq41+then-b-eq44}

pub returns-then-b-eq32 : goal.returns-then-b-eq32
unfolding in_word other
returns-then-b-eq32 c =
    stop _ _ c.loop-i.invariant c.loop-i-test.true
    (elim c.then-b-eq32.branch [
      | then-b-eq32-via-then-b-eq32 w ↦ simp (eq-eqb _ _ w.if-b-eq32.true)
      | then-b-eq32-via-else-b-eq32+then-b-eq41 w ↦ simp (ne_eqb _ _ w.if-b-eq32.false, eq-eqb _ _ w.if-b-eq41.true)
      | then-b-eq32-via-else-b-eq32+else-b-eq41+then-b-eq44 w ↦
          simp (ne_eqb _ _ w.if-b-eq32.false, ne_eqb _ _ w.if-b-eq41.false, eq-eqb _ _ w.if-b-eq44.true)
    ])

pub loop-i-preserved : goal.loop-i-preserved
unfolding in_word other
loop-i-preserved c =
    more _ _ c.loop-i.invariant c.loop-i-test.true
    (simp (ne_eqb _ _ c.if-b-eq32.false, ne_eqb _ _ c.if-b-eq41.false, ne_eqb _ _ c.if-b-eq44.false))

pub returns : goal.returns
returns c =
    let s = c.args.s.now in
    let e : c.loop-i.i ≡ length s = omega arith in
    subst (λ (n : ℕ). (n ≡ run_of in_word s) × (n ≤ length s)) e (end _ _ c.loop-i.invariant c.loop-i-test.false)
