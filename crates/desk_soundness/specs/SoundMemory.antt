-- When lent memory holds a sound desk; memory that is no desk does not.
-- Assumes nothing.
use Rattle.std.specs.Prelude.{ℕ, Bool, ◌&&◌, List}
use Rattle.desk_memory.specs.Memory.{is_desk, desk_of, used_of}
use Rattle.desk_soundness.specs.Sound.{sound_desk}
use Rattle.desk_soundness.specs.SoundLog.{sound_log}

-- what a question asks
unfoldable pub sound_memory : List ℕ → List ℕ → Bool
sound_memory t n = is_desk t n && sound_desk (desk_of t n)

-- what a key call asks, with a log of that length
unfoldable pub sound_for_keys : List ℕ → List ℕ → ℕ → Bool
sound_for_keys t n len = sound_memory t n && sound_log (desk_of t n) len (used_of n)
