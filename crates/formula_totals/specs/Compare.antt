-- The comparison of a moiety formula with a formula by stages, as the code goes (document 02, No. 12). `Words` (proofs) shows that it is the
-- request's wording. Assumes nothing.
use Rattle.std.specs.Prelude.{ℕ, cond, List, leb, length}
use Rattle.formula_sum.specs.Recognised.{all_recognised}
use Rattle.formula_sum.specs.Sum.{most_summed}
use Rattle.formula_moiety.specs.Reading.{Whole, whole, unread, moieties_of}
use Rattle.formula_moiety.specs.Compare.{same_totals}
use Rattle.formula_totals.specs.declared.Compared.{Compared}
use Rattle.formula_totals.specs.declared.Compared.TheVariants.{Same, Differs, Unread}

-- the totals of what was read against those of the formula's text s
abbrev pub against : List ℕ → Whole → Compared
against s (whole m ms) = cond (same_totals m ms s) Same Differs
against s unread = Unread

-- the text m of a moiety formula against the text s of a formula; a text that is too long is not read, and no line is
unfoldable pub compared_of : List ℕ → List ℕ → Compared
compared_of m s =
    cond (leb (length m) most_summed) (cond (leb (length s) most_summed) (cond (all_recognised s) (against s (moieties_of m)) Unread) Unread) Unread
