-- `desk_soundness::is_sound_log` meets its contract: each return has the tests of `sound_log` on its way.
-- Assumes nothing.
use mathlib.Core.Path.{◌∙◌}
use borrow.Author.Tests.{le-leb, lt-leb}
use Rattle.desk_soundness.specs.SoundLog.{log_most, sound_log}
use Rattle.desk_soundness.proofs.is_sound_log.Goals as goal

pub returns-then-len-gt-LOG_MOST : goal.returns-then-len-gt-LOG_MOST
unfolding sound_log
returns-then-len-gt-LOG_MOST c = λ t. simp (lt-leb _ log_most c.if-len-gt-LOG_MOST.true)

pub returns-then-len-used : goal.returns-then-len-used
unfolding sound_log
returns-then-len-used c = λ t. simp (le-leb _ log_most c.if-len-gt-LOG_MOST.false, lt-leb _ _ c.if-len-used.true)

pub returns : goal.returns
unfolding sound_log
returns c = λ t. c.are_counted.ensures t ∙ simp (le-leb _ log_most c.if-len-gt-LOG_MOST.false, le-leb _ _ c.if-len-used.false)
