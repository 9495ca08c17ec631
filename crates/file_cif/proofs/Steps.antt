-- The cases of `file_lent`, one law each.
-- Assumes nothing.
use mathlib.Core.Path.{◌≡◌, sym, ap, ◌∙◌}
use mathlib.Core.Bool.{true, false, cond}
use mathlib.Core.List.{List}
use Prim.Native.Nat.{ℕ, ◌≤◌, ◌<◌}
use borrow.Author.Tests.{le-leb, lt-leb}
use lib.ListN.{length}
use Rattle.text_copies.specs.Copy.{copied}
use Rattle.text_copies.proofs.Copies.{copied-start}
use Rattle.desk_state.specs.Desks.{is_sheet, sheet_at}
use Rattle.desk_memory.specs.Memory.{desk_of}
use Rattle.desk_soundness.specs.SoundMemory.{sound_memory}
use Rattle.desk_soundness.proofs.Memories.{by-sheet}
use Rattle.file_block_name.specs.Block.{is_block_name}
use Rattle.file_cif.specs.File.{file_of}
use Rattle.file_cif.specs.Answers.{filing_of, no_file, file_within, file_step, file_lent}
use Rattle.std.specs.Prelude.{Ok, Err}
use Rattle.desk_answers.specs.declared.FileRefusal.TheVariants.{NoSheet, Unsound, BadBlockName, NoRoom}

module _ (t n : List ℕ) (sheet : ℕ) (name out : List ℕ) where
  step_by : file_lent t n sheet name out
      ≡ cond (is_sheet sheet) (cond (sound_memory t n) (cond (is_block_name name) (file_within (file_of name (sheet_at (desk_of t n) sheet)) out) (no_file 11 out)) (no_file 2 out)) (no_file 12 out)
  unfolding file_lent file_step
  step_by = by-sheet t n (is_sheet sheet) _ _ _

  pub step-no-sheet : is_sheet sheet ≡ false → filing_of (Err NoSheet) out ≡ file_lent t n sheet name out
  step-no-sheet k = sym (step_by ∙ simp k)

  module _ (k : is_sheet sheet ≡ true) where
    pub step-unsound : sound_memory t n ≡ false → filing_of (Err Unsound) out ≡ file_lent t n sheet name out
    step-unsound s = sym (step_by ∙ simp (k, s))

    module _ (s : sound_memory t n ≡ true) where
      pub step-bad-name : is_block_name name ≡ false → filing_of (Err BadBlockName) out ≡ file_lent t n sheet name out
      step-bad-name b = sym (step_by ∙ simp (k, s, b))

      module _ (b : is_block_name name ≡ true) where
        pub step-no-room : length out < length (file_of name (sheet_at (desk_of t n) sheet)) → filing_of (Err NoRoom) out ≡ file_lent t n sheet name out
        step-no-room h = sym (step_by ∙ simp (k, s, b, lt-leb (length (file_of name (sheet_at (desk_of t n) sheet))) (length out) h))

        pub step-written : {last : List ℕ} {count : ℕ} → length (file_of name (sheet_at (desk_of t n) sheet)) ≤ length out → last ≡ copied out 0 (file_of name (sheet_at (desk_of t n) sheet))
            → count ≡ length (file_of name (sheet_at (desk_of t n) sheet)) → filing_of (Ok count) last ≡ file_lent t n sheet name out
        step-written {last} h e m =
            let file = file_of name (sheet_at (desk_of t n) sheet) in
            let bytes = e ∙ copied-start out file h in
            ap (λ (c : ℕ). record { answer = 0; count = c; out = last }) m
            ∙ ap (λ (l : List ℕ). record { answer = 0; count = length file; out = l }) bytes
            ∙ sym (step_by ∙ simp (k, s, b, le-leb (length file) (length out) h))
