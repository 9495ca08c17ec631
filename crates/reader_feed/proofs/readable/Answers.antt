-- `reader_feed::readable` meets its contract: the length that is kept lies in a reader's memory.
-- Assumes nothing.
use native.Mathlib.Omega.{arith}
use mathlib.Core.Path.{sym}
use mathlib.Core.Bool.{and-false}
use Rattle.reader_memory.specs.Memory.{is_reader}
use Rattle.reader_steps.specs.Steps.{sound_here}
use Rattle.reader_feed.proofs.Feeds.{reader-long, kept-outside}
use Rattle.reader_feed.proofs.readable.Goals as goal

pub bounds-reader-0 : goal.bounds-reader-0
bounds-reader-0 c = let l = reader-long c.args.reader.now.kept.now c.args.reader.now.state.now (sym c.in_ok-stands.ensures.reader) in omega (arith, l.1)

pub returns-in_err-get : goal.returns-in_err-get
returns-in_err-get c =
    let a = c.args in
    let r = sym c.in_ok-stands.ensures.reader in
    let l = reader-long a.reader.now.kept.now a.reader.now.state.now r in
    let none = kept-outside a.reader.now.kept.now a.reader.now.state.now r (omega (arith, l.0, c.in_err-get.ensures.lookup)) in
    rw c.from_residual-in_err-get.ensures (rw (none, and-false (is_reader a.reader.now.kept.now a.reader.now.state.now)) (and-false (sound_here a.texts.now a.numbers.now)))
