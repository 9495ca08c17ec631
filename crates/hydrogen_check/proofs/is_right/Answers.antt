-- `hydrogen_check::is_right` meets its contract: nothing is written where the text is too long, and else the rows decide.
-- Assumes nothing.
use mathlib.Core.Path.{◌≡◌, sym, ap, ◌∙◌}
use mathlib.Core.List.{List}
use Prim.Native.Nat.{ℕ}
use borrow.Author.Tests.{le-leb, lt-leb}
use Rattle.std.proofs.lemmas.List.{nil_from_length}
use Rattle.line_quotes.specs.Quoted.{text_of}
use Rattle.hydrogen_right.specs.Stages.{rows_pass, is_right}
use Rattle.hydrogen_writer.specs.Typed.{typed_with}
use Rattle.hydrogen_check.proofs.Written.{empty-long, some-short}
use Rattle.hydrogen_check.proofs.is_right.Goals as goal
use Rattle.hydrogen_check.proofs.is_right.Goals.{After-written-text}

-- what the writer gives, of the formula's text
wrote : (c : After-written-text) → c.written-text.result.now ≡ typed_with c.args.n (text_of c.args.formula.now)
wrote c = c.written-text.ensures ∙ c.typed_with-typed.ensures ∙ ap (typed_with c.args.n) c.text_of.ensures

pub returns-then-n-gt-MOST_HYDROGENS : goal.returns-then-n-gt-MOST_HYDROGENS
unfolding is_right
returns-then-n-gt-MOST_HYDROGENS c = simp (lt-leb _ _ c.if-n-gt-MOST_HYDROGENS.true)

pub returns-then-text-eq0 : goal.returns-then-text-eq0
unfolding is_right
returns-then-text-eq0 c =
    let a = c.args in
    let none = sym (nil_from_length c.written-text.result.now c.if-text-eq0.true) ∙ wrote (goal.at.returns-then-text-eq0 c).After-written-text in
    simp (le-leb _ _ c.if-n-gt-MOST_HYDROGENS.false, empty-long a.n (text_of a.formula.now) none)

pub returns : goal.returns
unfolding is_right
returns c =
    let a = c.args in
    let h = some-short a.n (text_of a.formula.now) c.written-text.result.now (wrote (goal.at.returns c).After-written-text) c.if-text-eq0.false in
    c.rows_pass.ensures
    ∙ ap (λ (v : List ℕ). rows_pass v a.weight.now) h.1
    ∙ simp (le-leb _ _ c.if-n-gt-MOST_HYDROGENS.false, h.0)
