-- `text_equality::same` meets its contract: the library's test of two slices is `same_by exact`.
-- Assumes nothing.
use mathlib.Core.Path.{◌∙◌}
use Rattle.text_equality.proofs.Sames.{same-pointwise}
use Rattle.text_equality.proofs.same.Goals as goal

pub returns : goal.returns
returns c = c.eq.ensures ∙ same-pointwise c.args.a.now c.args.b.now
