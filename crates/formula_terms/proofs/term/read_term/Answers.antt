-- `formula_terms::term::read_term` meets its contract: each return is a case of `term_of`.
-- Assumes nothing.
use native.Mathlib.Omega.{arith}
use mathlib.Core.Path.{◌≡◌, sym, ap, ◌∙◌}
use mathlib.Core.Bool.{true}
use Prim.Native.Nat.{◌<◌}
use lib.ListN.{length, get_or}
use Rattle.text.specs.Run.{is_capital, is_small, kind_at}
use Rattle.text.proofs.Parts.{rest_part}
use Rattle.formula_terms.specs.Term.{count_of, with_count}
use Rattle.formula_terms.proofs.TermCases.{kind-within, no-capital, two-letters, one-letter}
use Rattle.formula_terms.proofs.term.read_term.Goals as goal
use Rattle.formula_terms.proofs.term.read_term.Goals.{Else-between_at, Else-not-between_at, Then-between_at}

-- the text begins with a capital
capital : (c : Else-not-between_at) → kind_at is_capital c.args.s.now 0 ≡ true
capital c = sym c.between_at.ensures ∙ c.if-not-between_at.false

-- and has a small letter after it
small : (c : Then-between_at) → kind_at is_small c.args.s.now 1 ≡ true
small c = sym c.between_at-2.ensures ∙ c.if-between_at.true

long : (c : Then-between_at) → 1 < length c.args.s.now
long c = kind-within is_small _ 1 (small c)

some : (c : Else-between_at) → 0 < length c.args.s.now
some c =
    let capital : kind_at is_capital c.args.s.now 0 ≡ true = sym c.between_at.ensures ∙ c.if-not-between_at.false in
    kind-within is_capital _ 0 capital

pub returns-then-not-between_at : goal.returns-then-not-between_at
returns-then-not-between_at c = sym (no-capital _ (sym c.between_at.ensures ∙ c.if-not-between_at.true))

pub bounds-s-0 : goal.bounds-s-0
bounds-s-0 c = omega (arith, (long (goal.at.bounds-s-0 c).Then-between_at))

pub bounds-s-1 : goal.bounds-s-1
bounds-s-1 c = omega (arith, (long (goal.at.bounds-s-1 c).Then-between_at))

pub slice_bounds-read_count-count : goal.slice_bounds-read_count-count
slice_bounds-read_count-count c = omega (arith, (long (goal.at.slice_bounds-read_count-count c).Then-between_at))

pub slice_bounds-read_count-start : goal.slice_bounds-read_count-start
slice_bounds-read_count-start c = omega (arith, (long (goal.at.slice_bounds-read_count-start c).Then-between_at))

pub returns-then-between_at : goal.returns-then-between_at
returns-then-between_at c =
    let s = c.args.s.now in
    c.with_count.ensures
    ∙ ap (with_count (get_or s 0 0) (get_or s 1 0)) (c.read_count.ensures ∙ ap count_of (rest_part s 2))
    ∙ sym (two-letters s (capital (goal.at.returns-then-between_at c).Else-not-between_at) (small (goal.at.returns-then-between_at c).Then-between_at))

pub bounds-s-0-2 : goal.bounds-s-0-2
bounds-s-0-2 c = omega (arith, (some (goal.at.bounds-s-0-2 c).Else-between_at))

pub slice_bounds-read_count-count-2 : goal.slice_bounds-read_count-count-2
slice_bounds-read_count-count-2 c = omega (arith, (some (goal.at.slice_bounds-read_count-count-2 c).Else-between_at))

pub slice_bounds-read_count-start-2 : goal.slice_bounds-read_count-start-2
slice_bounds-read_count-start-2 c = omega (arith, (some (goal.at.slice_bounds-read_count-start-2 c).Else-between_at))

pub returns : goal.returns
returns c =
    let s = c.args.s.now in
    c.with_count-2.ensures
    ∙ ap (with_count (get_or s 0 0) 32) (c.read_count-2.ensures ∙ ap count_of (rest_part s 1))
    ∙ sym (one-letter s (capital (goal.at.returns c).Else-not-between_at) (sym c.between_at-2.ensures ∙ c.if-between_at.false))
