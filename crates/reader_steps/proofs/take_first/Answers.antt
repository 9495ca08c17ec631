-- `reader_steps::take_first` meets its contract: each return is a case of `first_of`.
-- Assumes nothing.
use mathlib.Core.Path.{refl, sym, ◌∙◌}
use Rattle.reader_answers.proofs.Numbers.{refused-some, passed-up}
use Rattle.reader_steps.proofs.Firsts.{step-few, step-bad, step_part, step-refused, step-taken}
use Rattle.reader_steps.proofs.take_first.Goals as goal

pub returns-then-bs-lt-HEAD-clause-first : goal.returns-then-bs-lt-HEAD-clause-first
returns-then-bs-lt-HEAD-clause-first c = let a = c.args in step-few a.texts.now a.numbers.now a.bs.now c.if-bs-lt-HEAD.true

pub returns-then-is_bad_length-clause-first : goal.returns-then-is_bad_length-clause-first
returns-then-is_bad_length-clause-first c = let a = c.args in step-bad a.texts.now a.numbers.now a.bs.now c.if-bs-lt-HEAD.false c.length_told-n.result c.length_told-n.ensures.0 (sym c.is_bad_length.ensures ∙ c.if-is_bad_length.true)

pub returns-then-bs-n-clause-first : goal.returns-then-bs-n-clause-first
returns-then-bs-n-clause-first c = let a = c.args in step_part a.texts.now a.numbers.now a.bs.now c.if-bs-lt-HEAD.false c.length_told-n.result c.length_told-n.ensures.0 (sym c.is_bad_length.ensures ∙ c.if-is_bad_length.false) c.if-bs-n.true

pub returns-in_err-take_record-clause-first : goal.returns-in_err-take_record-clause-first
returns-in_err-take_record-clause-first c =
    let a = c.args in
    rw (passed-up _ _ c.from_residual.ensures.1)
    (step-refused a.texts.now a.numbers.now a.bs.now c.if-bs-lt-HEAD.false c.length_told-n.result c.length_told-n.ensures.0 (sym c.is_bad_length.ensures ∙ c.if-is_bad_length.false) c.if-bs-n.false _ _ _ c.in_err-take_record.ensures (refused-some _))

pub returns-clause-first : goal.returns-clause-first
returns-clause-first c = let a = c.args in step-taken a.texts.now a.numbers.now a.bs.now c.if-bs-lt-HEAD.false c.length_told-n.result c.length_told-n.ensures.0 (sym c.is_bad_length.ensures ∙ c.if-is_bad_length.false) c.if-bs-n.false _ _ _ c.in_ok-take_record.ensures refl
