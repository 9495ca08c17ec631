-- `desk_items::is_sound_value` meets its contract: each return has its tests on the way, that of the value as the last.
-- Assumes nothing.
use native.Mathlib.Omega.{arith}
use mathlib.Core.Path.{◌≡◌, sym, ap, ◌∙◌}
use mathlib.Core.Bool.{and-true, and-false}
use lib.ListN.{drop, length-take}
use borrow.Author.Tests.{le-leb, lt-leb}
use Rattle.text.proofs.Parts.{rest_part}
use Rattle.line_items.specs.Typed.{line_most}
use Rattle.desk_items.specs.Sound.{zeros}
use Rattle.desk_items.proofs.is_sound_value.Goals as goal
use Rattle.desk_items.proofs.is_sound_value.Goals.{After-all_between}

-- what the test of the unused bytes says of them
unused : (c : After-all_between) → (let a = c.args in zeros (drop a.n a.value.now) ≡ c.all_between.result)
unused c =
    let a = c.args in
    ap zeros (sym (rest_part a.value.now a.n)) ∙ sym c.all_between.ensures

pub returns-then-n-gt-LINE_MOST : goal.returns-then-n-gt-LINE_MOST
returns-then-n-gt-LINE_MOST c = simp (lt-leb _ line_most c.if-n-gt-LINE_MOST.true)

pub returns-then-not-all_between : goal.returns-then-not-all_between
returns-then-not-all_between c = simp ((unused (goal.at.returns-then-not-all_between c).After-all_between), c.if-not-all_between.true, and-false)

pub returns : goal.returns
returns c = c.fits_item.ensures ∙ simp (le-leb _ line_most c.if-n-gt-LINE_MOST.false, (unused (goal.at.returns c).After-all_between), c.if-not-all_between.false, and-true)

pub slice_bounds-fits_item-end : goal.slice_bounds-fits_item-end
slice_bounds-fits_item-end c = simp length-take (omega arith)
