-- Soundness is kept in lent memory: a key call leaves a sound desk sound, and one that goes with its log.
-- Assumes nothing.
use mathlib.Core.Path.{◌≡◌, ap, ◌∙◌}
use mathlib.Core.Bool.{true}
use mathlib.Core.List.{List}
use Prim.Native.Nat.{ℕ}
use lib.ListN.{length}
use Rattle.text.proofs.Bools.{and_both}
use Rattle.desk_memory.specs.Memory.{is_desk, desk_of, used_of}
use Rattle.desk_memory.proofs.Desks.{desk-sized, still-desk}
use Rattle.desk_soundness.specs.Sound.{sound_desk}
use Rattle.desk_soundness.specs.SoundLog.{sound_log}
use Rattle.desk_soundness.specs.SoundMemory.{sound_memory, sound_for_keys}
use Rattle.desk_keys.specs.Key.{After, key_of}
use Rattle.desk_keys.specs.Lent.{KeyLent}
use Rattle.theorem_sequences.proofs.Kept.{Keeps, key-keeps}
use Rattle.theorem_memory.specs.Runs.{MemoryKept}
use Rattle.theorem_memory.proofs.Shapes.{shaped-desk}

module _ (t n log : List ℕ) (bench byte a : ℕ) (t' n' log' : List ℕ) (k : KeyLent t n log bench byte a t' n' log') where
  module _ (e : sound_memory t n ≡ true) where
    is-desk : is_desk t n ≡ true
    unfolding sound_memory
    is-desk = (and_both (is_desk t n) (sound_desk (desk_of t n)) e).0

    keeps : Keeps (desk_of t n) (used_of n) log (key_of (desk_of t n) (used_of n) log bench byte)
    unfolding sound_memory
    keeps = key-keeps (desk_of t n) (used_of n) log (shaped-desk t n (desk-sized t n is-desk)) (and_both (is_desk t n) (sound_desk (desk_of t n)) e).1 bench byte

    questions : sound_memory t' n' ≡ true
    unfolding sound_memory
    questions =
        let d = still-desk t n t' n' k.same_length.0 k.same_length.1 ∙ is-desk in
        let s = ap (λ (x : After). sound_desk x.desk) (k.desk is-desk) ∙ keeps.sound in
        simp (d, s)

    keys : sound_log (desk_of t n) (length log) (used_of n) ≡ true → sound_for_keys t' n' (length log') ≡ true
    unfolding sound_for_keys
    keys l =
        let s = ap (λ (x : After). sound_log x.desk (length x.log) x.used) (k.desk is-desk) ∙ keeps.log_sound l in
        simp (questions, s)

  both : sound_for_keys t n (length log) ≡ true → (sound_memory t n ≡ true) × (sound_log (desk_of t n) (length log) (used_of n) ≡ true)
  unfolding sound_for_keys
  both e = and_both (sound_memory t n) (sound_log (desk_of t n) (length log) (used_of n)) e

  pub memory_kept : MemoryKept t n log t' n' log'
  memory_kept = record { for_questions = questions; for_keys = λ e. let b = both e in keys b.0 b.1 }
