-- `desk_soundness::is_sound_line` meets its contract: each return has the tests of `sound_line` on its way.
-- Assumes nothing.
use native.Mathlib.Omega.{arith}
use mathlib.Core.Path.{sym, ◌∙◌}
use lib.ListN.{length-take}
use borrow.Author.Tests.{le-leb, lt-leb}
use Rattle.text.proofs.Parts.{rest_part}
use Rattle.line_items.specs.Typed.{line_most}
use Rattle.desk_soundness.specs.Sound.{sound_line}
use Rattle.desk_soundness.proofs.is_sound_line.Goals as goal

pub returns-then-n-gt-LINE_MOST : goal.returns-then-n-gt-LINE_MOST
unfolding sound_line
returns-then-n-gt-LINE_MOST c = simp (lt-leb _ line_most c.if-n-gt-LINE_MOST.true)

pub slice_bounds-all_between-end : goal.slice_bounds-all_between-end
slice_bounds-all_between-end c = simp length-take (omega arith)

pub returns-then-all_between : goal.returns-then-all_between
unfolding sound_line
returns-then-all_between c =
    let a = c.args in
    c.all_between-then-all_between.ensures ∙ simp (rest_part a.bytes.now a.n, le-leb _ line_most c.if-n-gt-LINE_MOST.false, sym c.all_between.ensures ∙ c.if-all_between.true)

pub returns-else-all_between : goal.returns-else-all_between
unfolding sound_line
returns-else-all_between c = simp (le-leb _ line_most c.if-n-gt-LINE_MOST.false, sym c.all_between.ensures ∙ c.if-all_between.false)
