-- `rows_weight::ratio_level` meets its contract: the bounds and the weight are small.
-- Assumes nothing.
use mathlib.Core.Path.{sym, subst}
use mathlib.Core.Bool.{true, false}
use Rattle.rows_weight.proofs.Weights.{SmallRatios, ratios-small, weight-small}
use Rattle.rows_weight.proofs.ratio_level.Goals as goal

pub is_ratio_outside-requires : goal.is_ratio_outside-requires
is_ratio_outside-requires c =
    let low = subst SmallRatios (sym c.bounds_of-low.ensures) (ratios-small false) in
    let high = subst SmallRatios (sym c.bounds_of-high.ensures) (ratios-small true) in
    (low.a_small, high.a_small, weight-small _ _ c.ranges.given c.in-Ok.ensures.1 c.requires.0, c.requires.1)

pub is_ratio_outside-requires-2 : goal.is_ratio_outside-requires-2
is_ratio_outside-requires-2 c =
    let low = subst SmallRatios (sym c.bounds_of-low.ensures) (ratios-small false) in
    let high = subst SmallRatios (sym c.bounds_of-high.ensures) (ratios-small true) in
    (low.b-small, high.b-small, weight-small _ _ c.ranges.given c.in-Ok.ensures.1 c.requires.0, c.requires.1)

pub is_ratio_outside-requires-3 : goal.is_ratio_outside-requires-3
is_ratio_outside-requires-3 c =
    let low = subst SmallRatios (sym c.bounds_of-low.ensures) (ratios-small false) in
    let high = subst SmallRatios (sym c.bounds_of-high.ensures) (ratios-small true) in
    (low.c-small, high.c-small, weight-small _ _ c.ranges.given c.in-Ok.ensures.1 c.requires.0, c.requires.1)
