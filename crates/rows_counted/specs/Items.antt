-- The items that the rules of rows 13 to 24 look at.
-- Assumes nothing.
use Rattle.std.specs.Prelude.{Bool, true, ◌&&◌, Option, Some, None}
use Rattle.line_items.specs.Items.{is_item}
use Rattle.rows_counts.specs.declared.Rule.{Rule}
use Rattle.rows_counts.specs.declared.Rule.TheVariants.{Present, PresentIfDiffer, ZeroIfAgree, NotAbove, Rising}

-- the items that a rule names are there
abbrev pub of_items : Option Rule → Bool
of_items (Some (Present i)) = is_item i
of_items (Some (PresentIfDiffer i a b)) = is_item i && (is_item a && is_item b)
of_items (Some (ZeroIfAgree i a b)) = is_item i && (is_item a && is_item b)
of_items (Some (NotAbove a b)) = is_item a && is_item b
of_items (Some (Rising a b c)) = is_item a && (is_item b && is_item c)
of_items None = true
