-- `formula_totals::compare` meets its contract. Assumes nothing.
use Rattle.std.specs.Prelude.{Some}
use mathlib.Core.Path.{◌≡◌, sym, ap, subst, ◌∙◌}
use mathlib.Core.Bool.{Bool, cond}
use Prim.Native.Nat.{ℕ}
use lib.Dec.{eqb}
use lib.ListN.{get_or}
use Rattle.formula_totals.specs.Left.{WholeLeft}
use Rattle.formula_elements.specs.Elements.{element_count}
use Rattle.formula_moiety.specs.Compare.{every_below}
use Rattle.formula_totals.specs.Compare.{compared_of}
use Rattle.formula_totals.specs.Counting.{FormulaLeft}
use Rattle.formula_totals.specs.declared.Compared.TheVariants.{Same, Differs}
use Rattle.formula_totals.proofs.Comparing.{zeros, moiety-room, formula-room, uncounted, were-counted, long-moiety, long-formula, bad-formula, bad-moiety, both_read}
use Rattle.formula_totals.proofs.compare.Goals as goal
use Rattle.formula_totals.proofs.compare.Goals.{Else-is_none, Else-is_none-2}

formula_read : (c : Else-is_none) → FormulaLeft c.args.s.now zeros c.count_formula.new.counts (Some tt)
formula_read c = subst (FormulaLeft c.args.s.now zeros c.count_formula.new.counts) (were-counted _ _ c.is_none.ensures c.if-is_none.false) c.count_formula.ensures

compared : (c : Else-is_none-2) → compared_of c.args.m.now c.args.s.now
    ≡ cond (every_below element_count (λ (k : ℕ). eqb (get_or c.read_moieties.new.counts k 0) (get_or c.count_formula.new.counts k 0))) Same Differs
compared c =
    both_read _ _ c.if-m-gt-MOST_SUMMED.false c.if-s-gt-MOST_SUMMED.false _ _
    (subst (FormulaLeft c.args.s.now zeros c.count_formula.new.counts) (were-counted _ _ c.is_none.ensures c.if-is_none.false) c.count_formula.ensures)
    (subst (WholeLeft c.args.m.now zeros c.read_moieties.new.counts) (were-counted _ _ c.is_none-2.ensures c.if-is_none-2.false) c.read_moieties.ensures)

pub returns-then-m-gt-MOST_SUMMED : goal.returns-then-m-gt-MOST_SUMMED
returns-then-m-gt-MOST_SUMMED c = sym (long-moiety _ _ c.if-m-gt-MOST_SUMMED.true)

pub returns-then-s-gt-MOST_SUMMED : goal.returns-then-s-gt-MOST_SUMMED
returns-then-s-gt-MOST_SUMMED c = sym (long-formula _ _ c.if-m-gt-MOST_SUMMED.false c.if-s-gt-MOST_SUMMED.true)

pub count_formula-requires : goal.count_formula-requires
count_formula-requires c = formula-room _ c.if-s-gt-MOST_SUMMED.false

pub returns-then-is_none : goal.returns-then-is_none
returns-then-is_none c =
    sym (bad-formula _ _ c.if-m-gt-MOST_SUMMED.false c.if-s-gt-MOST_SUMMED.false _
    (subst (FormulaLeft c.args.s.now zeros c.count_formula.new.counts) (uncounted _ _ c.is_none.ensures c.if-is_none.true) c.count_formula.ensures))

pub read_moieties-requires : goal.read_moieties-requires
read_moieties-requires c = moiety-room _ c.if-m-gt-MOST_SUMMED.false

pub returns-then-is_none-2 : goal.returns-then-is_none-2
returns-then-is_none-2 c =
    sym (bad-moiety _ _ c.if-m-gt-MOST_SUMMED.false c.if-s-gt-MOST_SUMMED.false _ _ (formula_read (goal.at.returns-then-is_none-2 c).Else-is_none)
    (subst (WholeLeft c.args.m.now zeros c.read_moieties.new.counts) (uncounted _ _ c.is_none-2.ensures c.if-is_none-2.true) c.read_moieties.ensures))

pub returns-then-same_counts : goal.returns-then-same_counts
returns-then-same_counts c =
    sym (compared (goal.at.returns-then-same_counts c).Else-is_none-2 ∙ ap (λ (x : Bool). cond x Same Differs) (sym c.same_counts.ensures ∙ c.if-same_counts.true))

pub returns : goal.returns
returns c =
    sym (compared (goal.at.returns c).Else-is_none-2 ∙ ap (λ (x : Bool). cond x Same Differs) (sym c.same_counts.ensures ∙ c.if-same_counts.false))
