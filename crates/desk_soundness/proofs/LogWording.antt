-- The test of the log's part says what the documents' words say.
-- Assumes nothing.
use mathlib.Core.Path.{◌≡◌}
use mathlib.Core.Bool.{true}
use Prim.Native.Nat.{ℕ, ◌*◌}
use borrow.Author.Tests.{leb-true, le-leb}
use lib.Dec.{leb}
use Rattle.text.proofs.Bools.{and_both}
use Rattle.desk_state.specs.declared.desk.Desk.{Desk}
use Rattle.desk_soundness.specs.SoundLog.{log_most, entry_count, sound_log}
use Rattle.desk_soundness.specs.Wording.{SoundWith}

module _ (d : Desk) (len used : ℕ) where
  pub log_is : sound_log d len used ≡ true → SoundWith d len used
  unfolding sound_log
  log_is e =
      let most = and_both (leb len log_most) _ e in
      let within = and_both (leb used len) _ most.1 in
      record { most = leb-true len log_most most.0; within = leb-true used len within.0; counted = leb-true (6 * entry_count d) used within.1 }

  pub log-taken : SoundWith d len used → sound_log d len used ≡ true
  unfolding sound_log
  log-taken h = simp (le-leb len log_most h.most, le-leb used len h.within, le-leb (6 * entry_count d) used h.counted)
