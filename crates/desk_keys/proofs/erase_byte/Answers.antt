-- `desk_keys::erase_byte` meets its contract: the line is empty, too long, or neither.
-- Assumes nothing.
use Rattle.desk_keys.proofs.Cases.{erase-none, erase-long, erase-some}
use Rattle.desk_keys.proofs.erase_byte.Goals as goal

pub returns-then-n-lt1 : goal.returns-then-n-lt1
returns-then-n-lt1 c =
    let a = c.args in
    λ log. erase-none a.texts.now a.numbers.now c.requires.1 a.bench c.requires.0 log c.if-n-lt1.true

pub returns-then-n-gt-LINE_MOST : goal.returns-then-n-gt-LINE_MOST
returns-then-n-gt-LINE_MOST c =
    let a = c.args in
    λ log. erase-long a.texts.now a.numbers.now c.requires.1 a.bench c.requires.0 log c.if-n-lt1.false c.if-n-gt-LINE_MOST.true

pub returns : goal.returns
returns c =
    let a = c.args in
    λ log. erase-some a.texts.now a.numbers.now c.requires.1 a.bench c.requires.0 log c.if-n-lt1.false c.if-n-gt-LINE_MOST.false
