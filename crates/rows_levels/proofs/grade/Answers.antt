-- `rows_levels::grade` meets its contract: the three comparisons are those of `grade_of`.
-- Assumes nothing.
use mathlib.Core.Path.{sym, subst, ◌∙◌}
use mir.Syntax.{w64}
use mir.Facts.{to_z_pos}
use Rattle.rows_levels.specs.Bounds.{grade_of}
use Rattle.number_signed.proofs.Signs.{back, fits-pos}
use Rattle.rows_levels.proofs.Levels.{SmallBounds, bounds-small}
use Rattle.rows_levels.proofs.grade.Goals as goal
use Rattle.rows_levels.proofs.grade.Goals.{After-bounds_of-most}

-- the bounds are small
small : (c : After-bounds_of-most) → SmallBounds c.bounds_of-most.result
small c = subst SmallBounds (sym c.bounds_of-most.ensures) (bounds-small c.args.row)

pub overflow_cast-most : goal.overflow_cast-most
overflow_cast-most c = fits-pos _ (small (goal.at.overflow_cast-most c).After-bounds_of-most).a_small

pub overflow_cast-most-2 : goal.overflow_cast-most-2
overflow_cast-most-2 c = fits-pos _ (small (goal.at.overflow_cast-most-2 c).After-bounds_of-most).b-small

pub overflow_cast-most-3 : goal.overflow_cast-most-3
overflow_cast-most-3 c = fits-pos _ (small (goal.at.overflow_cast-most-3 c).After-bounds_of-most).c-small

pub returns : goal.returns
unfolding grade_of
returns c =
    let z = c.judged-z in
    let k = (small (goal.at.returns c).After-bounds_of-most) in
    c.level.ensures
    ∙ rw
    (to_z_pos w64 k.a_small, to_z_pos w64 k.b-small, to_z_pos w64 k.c-small, c.bounds_of-most.ensures, back z.result (record { sfits = z.type_inv }), z.ensures, back c.args.v c.ranges.v)
