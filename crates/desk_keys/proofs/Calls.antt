-- What a key call on lent memory leaves, by its tests.
-- Assumes nothing.
use mathlib.Core.Path.{◌≡◌, refl, sym, ap, ◌∙◌}
use mathlib.Core.Bool.{true, false, ◌&&◌, false≢true}
use mathlib.Core.List.{List}
use Prim.Native.Nat.{ℕ, ◌≤◌, ◌<◌}
use native.Mathlib.Omega.{arith}
use borrow.Author.Tests.{lt-ltb, le-ltb}
use lib.ListN.{length}
use Rattle.text.proofs.Bools.{and_both}
use Rattle.desk_state.specs.Desks.{bench_count}
use Rattle.desk_state.specs.declared.line.Line.{Line}
use Rattle.desk_memory.specs.Memory.{is_desk, desk_of, used_of}
use Rattle.desk_memory.proofs.Desks.{desk-sized, lines_long, line-at}
use Rattle.desk_soundness.specs.Sound.{sound_desk}
use Rattle.desk_soundness.specs.SoundLog.{sound_log}
use Rattle.desk_soundness.specs.SoundMemory.{sound_memory, sound_for_keys}
use Rattle.desk_soundness.proofs.Wording.{sound-is}
use Rattle.desk_soundness.proofs.LogWording.{log_is}
use Rattle.desk_entries.proofs.Sounds.{sound-takes}
use Rattle.desk_keys.specs.Key.{key_step, key_of}
use Rattle.desk_keys.specs.Lent.{leaves, KeyLent, Lent}

module _ (t n log : List ℕ) (bench byte : ℕ) where
  pub no-bench : bench_count ≤ bench → KeyLent t n log bench byte 1 t n log
  unfolding key_of
  no-bench h = record { desk = λ e. simp (le-ltb bench bench_count h); no_desk = λ e. (simp (le-ltb bench bench_count h), refl, refl, refl); same_length = (refl, refl) }

  module _ (h : bench < bench_count) where
    pub unsound : sound_for_keys t n (length log) ≡ false → KeyLent t n log bench byte 2 t n log
    unfolding sound_for_keys sound_memory key_of
    unsound e = record {
      desk = λ d. let f : (sound_desk (desk_of t n) && sound_log (desk_of t n) (length log) (used_of n)) ≡ false = simp d at e in simp (lt-ltb bench bench_count h, f);
      no_desk = λ d. (simp (lt-ltb bench bench_count h), refl, refl, refl);
      same_length = (refl, refl);
    }

    module _ (e : sound_for_keys t n (length log) ≡ true) where
      is-desk : is_desk t n ≡ true
      unfolding sound_for_keys sound_memory
      is-desk = (and_both (is_desk t n) (sound_desk (desk_of t n)) (and_both (sound_memory t n) (sound_log (desk_of t n) (length log) (used_of n)) e).0).0

      is-sound : sound_desk (desk_of t n) ≡ true
      unfolding sound_for_keys sound_memory
      is-sound = (and_both (is_desk t n) (sound_desk (desk_of t n)) (and_both (sound_memory t n) (sound_log (desk_of t n) (length log) (used_of n)) e).0).1

      with-log : sound_log (desk_of t n) (length log) (used_of n) ≡ true
      unfolding sound_for_keys
      with-log = (and_both (sound_memory t n) (sound_log (desk_of t n) (length log) (used_of n)) e).1

      pub lent-ready : Lent t n log bench
      lent-ready =
          let d = desk_of t n in
          let own : bench < length d.lines = omega (arith, lines_long t n) in
          let line = ((sound-is d is-sound).lines bench own).most in
          record {
            sized = desk-sized t n is-desk;
            bench_in = h;
            short = omega (arith, line, ap (λ (l : Line). l.len) (line-at t n bench h));
            room = (log_is d (length log) (used_of n) with-log).within;
            takes_entry = λ item v. sound-takes t n (length log) (used_of n) is-desk is-sound with-log bench item v h;
          }

      pub stepped : {a : ℕ} {t' n' log' : List ℕ} → length t' ≡ length t → length n' ≡ length n → leaves a t' n' log' ≡ key_step (desk_of t n) (used_of n) log bench byte
          → KeyLent t n log bench byte a t' n' log'
      unfolding key_of
      stepped l m s = record {
        desk = λ d. s ∙ simp (lt-ltb bench bench_count h, is-sound, with-log);
        no_desk = λ d. absurd (false≢true (sym d ∙ is-desk));
        same_length = (l, m);
      }
