-- `reader_feed::read` meets its contract: each return by how the reading stands.
-- Assumes nothing.
use native.Mathlib.Omega.{arith}
use mathlib.Core.Path.{◌≡◌, ap, ◌∙◌}
use borrow.Author.Rules.{rules}
use Rattle.std.specs.Prelude.{Err}
use Rattle.reader_answers.specs.declared.FeedRefusal.TheVariants.{Unsound}
use Rattle.desk_memory.proofs.Desks.{desk-sized}
use Rattle.reader_answers.proofs.Numbers.{passed-up}
use Rattle.reader_entries.proofs.Keeps.{sound-desk}
use Rattle.reader_feed.specs.Feed.{ReadsFrom}
use Rattle.reader_feed.proofs.Feeds.{reader-long, kept-within, fed-unsound, fed-ended, fed-refused, fed-read, fed-fresh}
use Rattle.reader_feed.proofs.read.Goals as goal
use Rattle.reader_feed.proofs.read.Goals.{In_ok-len}

reads : (c : In_ok-len) → (let a = c.args in ReadsFrom a.texts.now a.numbers.now a.reader.now.kept.now a.reader.now.state.now c.in_ok-len.len c.in_ok-len.stands)
reads c = rw c.in_ok-len.ensures.ok_part at c.readable.ensures

pub returns-in_err-len-clause-fed : goal.returns-in_err-len-clause-fed
returns-in_err-len-clause-fed c =
    let a = c.args in
    let none = c.in_err-len.ensures.ok_part in
    let value = rw none at c.in_err-len.ensures.value in
    let told : c.in_err-len.field-0.0 ≡ record { refusal = Unsound; place = 0 } = cc in
    rw (passed-up _ _ c.from_residual.ensures.1 ∙ ap Err told) (fed-unsound a.texts.now a.numbers.now a.reader.now.kept.now a.reader.now.state.now a.part.now a.last (rw none at c.readable.ensures))

pub read_part-requires : goal.read_part-requires
read_part-requires c = let p = reads (goal.at.read_part-requires c).In_ok-len in let l = reader-long _ _ p.reader in (p.sound, l.0, l.1)

pub read_kept-requires : goal.read_kept-requires
read_kept-requires c =
    let p = reads (goal.at.read_kept-requires c).In_ok-len in
    let l = reader-long _ _ p.reader in
    (p.sound, l.0, l.1, omega (arith, c.if-len-eq0.false), omega (arith, p.kept, kept-within _ _ p.reader p.waits), rw p.kept p.waits)

pub bounds-numbers-158 : goal.bounds-numbers-158
bounds-numbers-158 c = let p = reads (goal.at.bounds-numbers-158 c).In_ok-len in let d = desk-sized _ _ (sound-desk _ _ p.sound).0 in omega (arith, d.numbers)

pub returns-in-GoesOn-clause-fed : goal.returns-in-GoesOn-clause-fed
returns-in-GoesOn-clause-fed c =
    let a = c.args in
    fed-fresh _ _ _ _ a.part.now a.last _ _ (reads (goal.at.returns-in-GoesOn-clause-fed c).In_ok-len) _ _ _ _ _ _ c.in-GoesOn.is c.if-len-eq0.true (search rules, search rules) c.read_part.ensures.left

pub returns-in-GoesOn-2-clause-fed : goal.returns-in-GoesOn-2-clause-fed
returns-in-GoesOn-2-clause-fed c =
    let a = c.args in fed-read _ _ _ _ a.part.now a.last _ _ (reads (goal.at.returns-in-GoesOn-2-clause-fed c).In_ok-len) _ _ _ _ _ _ c.in-GoesOn-2.is (search rules, search rules) c.read_kept.ensures.left

pub returns-in-Ended-clause-fed : goal.returns-in-Ended-clause-fed
returns-in-Ended-clause-fed c = let a = c.args in fed-ended _ _ _ _ a.part.now a.last _ _ (reads (goal.at.returns-in-Ended-clause-fed c).In_ok-len) c.in-Ended.is

pub returns-in-Refused-clause-fed : goal.returns-in-Refused-clause-fed
returns-in-Refused-clause-fed c = let a = c.args in fed-refused _ _ _ _ a.part.now a.last _ _ (reads (goal.at.returns-in-Refused-clause-fed c).In_ok-len) _ c.in-Refused.is
