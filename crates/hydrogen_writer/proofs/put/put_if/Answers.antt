-- `hydrogen_writer::put::put_if` meets its contract: what is not wanted is nothing.
-- Assumes nothing.
use mathlib.Core.Path.{sym, subst}
use mathlib.Core.Bool.{Bool}
use Rattle.hydrogen_writer.specs.Typed.{spaced, Puts}
use Rattle.hydrogen_writer.proofs.Shown.{put-nothing}
use Rattle.hydrogen_writer.proofs.put.put_if.Goals as goal

pub returns-then-wanted : goal.returns-then-wanted
returns-then-wanted c =
    let a = c.args in
    subst (λ (b : Bool). Puts a.out.now a.at (spaced b a.word.now) c.put_word.new.out c.put_word.result) (sym c.if-wanted.true) c.put_word.ensures

pub returns : goal.returns
returns c =
    let a = c.args in
    subst (λ (b : Bool). Puts a.out.now a.at (spaced b a.word.now) a.out.now a.at) (sym c.if-wanted.false) (put-nothing a.out.now a.at)
