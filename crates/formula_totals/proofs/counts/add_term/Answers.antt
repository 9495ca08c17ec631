-- `formula_totals::counts::add_term` meets its contract. Assumes nothing.
use native.Mathlib.Omega.{arith}
use mathlib.Core.Path.{sym, ◌∙◌}
use Prim.Native.Nat.{◌<◌}
use lib.ListN.{length}
use Rattle.formula_elements.specs.Elements.{element_count}
use Rattle.formula_elements.proofs.Tables.{element-is}
use Rattle.formula_totals.proofs.Counters.{not-element, is-element, few, term-added}
use Rattle.formula_totals.proofs.counts.add_term.Goals as goal
use Rattle.formula_totals.proofs.counts.add_term.Goals.{In_ok-k}

within : (c : In_ok-k) → c.in_ok-k.k < element_count
within c = (element-is _ _ _ (sym c.find_element.ensures ∙ c.in_ok-k.was)).within

within-counts : (c : In_ok-k) → c.in_ok-k.k < length c.args.counts.now
within-counts c = omega (arith, within c, c.requires.1.long)

pub returns-in_err-k : goal.returns-in_err-k
returns-in_err-k c = rw c.from_residual-in_err-k.ensures (not-element _ _ c.in_ok-t.was (sym c.find_element.ensures ∙ c.in_err-k.was))

pub offset_bounds-counts-k : goal.offset_bounds-counts-k
offset_bounds-counts-k c = omega (arith, (within (goal.at.offset_bounds-counts-k c).In_ok-k))

pub bounds-counts-k : goal.bounds-counts-k
bounds-counts-k c = (within-counts (goal.at.bounds-counts-k c).In_ok-k)

pub overflow_add-counts : goal.overflow_add-counts
overflow_add-counts c = omega (arith, c.requires.1.below c.in_ok-k.k, few _ _ c.in_ok-t.was c.requires.0)

pub bounds-counts-k-2 : goal.bounds-counts-k-2
bounds-counts-k-2 c = (within-counts (goal.at.bounds-counts-k-2 c).In_ok-k)

pub returns : goal.returns
returns c =
    let e = sym c.find_element.ensures ∙ c.in_ok-k.was in
    let w = c.in_ok-t.was in
    (is-element _ _ w _ e, term-added _ _ w c.args.counts.now _ e (within-counts (goal.at.returns c).In_ok-k))
