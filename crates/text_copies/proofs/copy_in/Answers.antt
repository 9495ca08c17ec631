-- `text_copies::copy_in` meets its contract: the two tests are the one of `copied`.
-- Assumes nothing.
use native.Mathlib.Omega.{arith}
use mathlib.Core.Path.{sym, ◌∙◌}
use Prim.Native.Nat.{◌+◌, ◌≤◌}
use borrow.Author.Tests.{lt-leb}
use lib.ListN.{length}
use Rattle.text_copies.proofs.Copies.{copied-fits, pasted-is}
use Rattle.text_copies.specs.Copy.{copied}
use Rattle.text_copies.proofs.copy_in.Goals as goal

pub returns-then-dst-at : goal.returns-then-dst-at
unfolding copied
returns-then-dst-at c =
    let a = c.args in
    simp (lt-leb (a.at + length a.src.now) (length a.dst.now) (omega arith))

pub returns-then-dst-at-2 : goal.returns-then-dst-at-2
unfolding copied
returns-then-dst-at-2 c =
    let a = c.args in
    simp (lt-leb (a.at + length a.src.now) (length a.dst.now) (omega arith))

pub returns : goal.returns
returns c =
    let a = c.args in
    let fits : a.at + length a.src.now ≤ length a.dst.now = omega arith in
    c.copy_fitting.ensures ∙ pasted-is a.dst.now a.at a.src.now ∙ sym (copied-fits a.dst.now a.at a.src.now fits)
