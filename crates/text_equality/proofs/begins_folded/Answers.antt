-- `text_equality::begins_folded` meets its contract: a text shorter than p does not begin with it.
-- Assumes nothing.
use native.Mathlib.Omega.{arith}
use mathlib.Core.Path.{sym, ◌∙◌}
use borrow.Author.Tests.{lt-leb}
use lib.ListN.{length-take}
use Rattle.text_equality.specs.Same.{lower, begins_folded}
use Rattle.text_equality.proofs.Sames.{other_length}
use Rattle.text_equality.proofs.begins_folded.Goals as goal

pub returns-else-n-s : goal.returns-else-n-s
unfolding begins_folded
returns-else-n-s c = lt-leb _ _ c.if-n-s.false ∙ sym (other_length lower _ _ (λ e. omega (arith, simp length-take at e)))

pub slice_bounds-same_folded-end : goal.slice_bounds-same_folded-end
slice_bounds-same_folded-end c = simp length-take (omega arith)

pub returns-then-n-s : goal.returns-then-n-s
unfolding begins_folded
returns-then-n-s c = c.same_folded.ensures
