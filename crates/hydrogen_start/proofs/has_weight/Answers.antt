-- `hydrogen_start::has_weight` meets its contract: each return is a case of `has_weight`.
-- Assumes nothing.
use mathlib.Core.Path.{ap, ◌∙◌}
use Rattle.std.specs.Option.{is_some}
use Rattle.hydrogen_start.proofs.has_weight.Goals as goal

pub returns : goal.returns
returns c = c.is_some.ensures ∙ ap is_some c.weight_of.ensures ∙ simp c.in-Some.is
