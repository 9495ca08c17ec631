-- `line_quotes::text_of` meets its contract: a quoted value has its two marks, and the text is between them.
-- Assumes nothing.
use native.Mathlib.Omega.{arith}
use mathlib.Core.Path.{sym, ◌∙◌}
use Prim.Native.Nat.{◌≤◌}
use lib.ListN.{length}
use Rattle.line_quotes.specs.Quoted.{text_of}
use Rattle.line_quotes.proofs.Quotes.{quoted-long, inner-part}
use Rattle.line_quotes.proofs.text_of.Goals as goal
use Rattle.line_quotes.proofs.text_of.Goals.{Then-is_quoted}

long : (c : Then-is_quoted) → 2 ≤ length c.args.s.now
long c = quoted-long _ (sym c.is_quoted.ensures ∙ c.if-is_quoted.true)

pub overflow_sub-last : goal.overflow_sub-last
overflow_sub-last c = omega (arith, (long (goal.at.overflow_sub-last c).Then-is_quoted))

pub slice_bounds-result-count : goal.slice_bounds-result-count
slice_bounds-result-count c = omega (arith, (long (goal.at.slice_bounds-result-count c).Then-is_quoted))

pub slice_bounds-result-start : goal.slice_bounds-result-start
slice_bounds-result-start c = omega (arith, (long (goal.at.slice_bounds-result-start c).Then-is_quoted))

pub returns-then-is_quoted : goal.returns-then-is_quoted
unfolding text_of
returns-then-is_quoted c = simp (sym c.is_quoted.ensures ∙ c.if-is_quoted.true, inner-part)

pub returns : goal.returns
unfolding text_of
returns c = simp (sym c.is_quoted.ensures ∙ c.if-is_quoted.false)
