-- `desk_keys::append_byte` meets its contract: the line is full or not.
-- Assumes nothing.
use Rattle.desk_keys.proofs.Cases.{append-full, append-some}
use Rattle.desk_keys.proofs.append_byte.Goals as goal

pub returns-then-n-ge-LINE_MOST : goal.returns-then-n-ge-LINE_MOST
returns-then-n-ge-LINE_MOST c =
    let a = c.args in
    λ log. append-full a.texts.now a.numbers.now c.requires.1 a.bench c.requires.0 log a.byte c.if-n-ge-LINE_MOST.true

pub returns : goal.returns
returns c =
    let a = c.args in
    λ log. append-some a.texts.now a.numbers.now c.requires.1 a.bench c.requires.0 log a.byte c.if-n-ge-LINE_MOST.false
