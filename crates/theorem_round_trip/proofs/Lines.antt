-- The item lines of a written file: all that follows its first line.
-- Assumes nothing.
use mathlib.Core.Path.{◌≡◌, refl, sym, ap, ◌∙◌}
use mathlib.Core.Bool.{Bool, true, false, cond, ◌&&◌}
use mathlib.Core.List.{List, [], ◌∷◌, ◌++◌, append_assoc}
use Prim.Native.Nat.{ℕ, ◌+◌}
use native.Mathlib.Omega.{arith}
use lib.Dec.{leb}
use lib.ListN.{length, drop}
use lib.Seq.{take_at, drop-append-add}
use Rattle.text.specs.Quote.{bytes}
use Rattle.text.specs.Run.{all, between, other, run_of}
use Rattle.text_copies.specs.Each.{lines_from}
use Rattle.text.proofs.Bools.{and_both}
use Rattle.text.proofs.Runs.{all_append, all-lack, run-append, run_none}
use Rattle.desk_soundness.specs.Sound.{sound_desk}
use Rattle.desk_state.specs.Desks.{is_sheet, sheet_at}
use Rattle.desk_state.specs.declared.desk.Desk.{Desk}
use Rattle.file_block_name.specs.Block.{block_most, is_block_byte, is_block_name}
use Rattle.file_cif.specs.File.{item_line, file_of}
use Rattle.file_cif.specs.Answers.{Filing, no_file, whole_file, file_within, file_step}
use Rattle.theorem_round_trip.specs.RoundTrip.{item_lines, filed_bytes}

-- ---- the first line

-- no byte of a block name ends a line
block-line : (name : List ℕ) → is_block_name name ≡ true → all (other 10) (bytes "data_" ++ name) ≡ true
unfolding is_block_name is_block_byte between all other
block-line name h =
    let k = and_both (leb 1 (length name)) (leb (length name) block_most && all is_block_byte name) h in
    let g = and_both (leb (length name) block_most) (all is_block_byte name) k.1 in
    all_append (other 10) (bytes "data_") name refl (all-lack is_block_byte 10 refl name g.1)

-- what follows a line that byte 10 ends
after_line : (line rest : List ℕ) → all (other 10) line ≡ true → item_lines ((line ++ (10 ∷ [])) ++ rest) ≡ rest
unfolding other
after_line line rest h =
    let e : (line ++ (10 ∷ [])) ++ rest ≡ line ++ (10 ∷ rest) = append_assoc line (10 ∷ []) rest in
    let n : run_of (other 10) (line ++ (10 ∷ rest)) ≡ length line = run-append (other 10) line (10 ∷ rest) h (run_none (other 10) 10 rest refl) in
    ap item_lines e ∙ ap (λ (m : ℕ). drop (m + 1) (line ++ (10 ∷ rest))) n ∙ drop-append-add line (10 ∷ rest) 1

-- ---- the file, by the writer's answer

-- what is not refused is a choice's first side
not-refused : (b : Bool) (x : Filing) (a : ℕ) (out : List ℕ) → (a ≡ 0 → ⊥) → (cond b x (no_file a out)).answer ≡ 0
    → (b ≡ true) × (cond b x (no_file a out) ≡ x)
not-refused true x a out n e = (refl, refl)
not-refused false x a out n e = absurd (n e)

-- what is known where the file was written
pub record IsWritten (d : Desk) (sheet : ℕ) (name : List ℕ) (a : Filing) : Type 0 where
  pub sound : sound_desk d ≡ true
  pub block : is_block_name name ≡ true
  pub file : filed_bytes a ≡ file_of name (sheet_at d sheet)

pub is-written : (d : Desk) (sheet : ℕ) (name out : List ℕ) → (file_step d sheet name out).answer ≡ 0 → IsWritten d sheet name (file_step d sheet name out)
unfolding file_step
is-written d sheet name out h =
    let file = file_of name (sheet_at d sheet) in
    let second = cond (is_block_name name) (file_within file out) (no_file 11 out) in
    let on = not-refused (is_sheet sheet) (cond (sound_desk d) second (no_file 2 out)) 12 out (λ e. omega arith) h in
    let h0 = ap (λ (a : Filing). a.answer) (sym on.1) ∙ h in
    let s = not-refused (sound_desk d) second 2 out (λ e. omega arith) h0 in
    let h1 = ap (λ (a : Filing). a.answer) (sym s.1) ∙ h0 in
    let b = not-refused (is_block_name name) (file_within file out) 11 out (λ e. omega arith) h1 in
    let h2 = ap (λ (a : Filing). a.answer) (sym b.1) ∙ h1 in
    let r = not-refused (leb (length file) (length out)) (whole_file file out) 10 out (λ e. omega arith) h2 in
    record {
      sound = s.0;
      block = b.0;
      file = ap filed_bytes (on.1 ∙ s.1 ∙ b.1 ∙ r.1) ∙ take_at file (drop (length file) out) (length file) refl;
    }

-- the item lines of a written file
pub written-lines : (d : Desk) (sheet : ℕ) (name : List ℕ) (a : Filing) → IsWritten d sheet name a → item_lines (filed_bytes a) ≡ lines_from item_line 1 (sheet_at d sheet).items
unfolding file_of
written-lines d sheet name a w =
    ap item_lines w.file ∙ after_line (bytes "data_" ++ name) (lines_from item_line 1 (sheet_at d sheet).items) (block-line name w.block)
