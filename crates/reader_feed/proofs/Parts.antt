-- Laws for the code that reads a part with no bytes kept.
-- Assumes nothing.
use mathlib.Core.Path.{◌≡◌, sym, ap, ◌∙◌}
use mathlib.Core.Bool.{Bool, true, false}
use mathlib.Core.List.{List, [], ◌∷◌}
use Prim.Native.Nat.{ℕ, ◌-◌, ◌≤◌}
use native.Mathlib.Omega.{arith}
use borrow.Author.Tests.{eq-eqb, ne_eqb}
use lib.ListN.{length, take, drop}
use Rattle.text.proofs.Parts.{rest_part}
use Rattle.desk_state.specs.declared.desk.Desk.{Desk}
use Rattle.desk_memory.specs.Memory.{desk_of, used_of}
use Rattle.reader_cuts.specs.Reading.{Reading, ended, short}
use Rattle.reader_cuts.proofs.Firsts.{undecided-short}
use Rattle.reader_memory.specs.Memory.{reader_kept, reader_state}
use Rattle.reader_entries.specs.Judged.{read_on}
use Rattle.reader_steps.specs.Steps.{sound_here, stopped_as, PartLent}
use Rattle.reader_left.specs.Left.{Left, left_as, left_in}
use Rattle.reader_left.proofs.Lefts.{left-in}

-- no more bytes are kept than there are
pub short-rest : (last : Bool) (d : Desk) (at : ℕ) (bs : List ℕ) → length (short last d at bs).rest ≤ length bs
short-rest false d at bs = omega arith
short-rest true d at [] = omega arith
short-rest true d at (b ∷ bs) = omega arith

module _ (last : Bool) (t n k z part : List ℕ) (from a : ℕ) (t' n' : List ℕ) (sound : sound_here t n ≡ true) (lk : length k ≡ reader_kept) (lz : length z ≡ reader_state)
    (p : PartLent t n part from a t' n') where
  pub part-stopped : {x : Left} → (a ≡ 0 → ⊥) → x ≡ left_in k z (ended a (desk_of t' n') (used_of n')) → x ≡ left_as (read_on last (desk_of t n) (used_of n) part)
  part-stopped ne so =
      let e : stopped_as last from a (desk_of t' n') (used_of n') part ≡ ended a (desk_of t' n') (used_of n') = rw (ne_eqb a 0 ne) in
      so ∙ left-in k z (ended a (desk_of t' n') (used_of n')) lk lz (omega arith) ∙ ap (λ (r : Reading Desk). left_as r) (sym (p.read sound last ∙ e))

  -- the rest of the part, as it is lent
  pub part-rests : {x : Left} → a ≡ 0 → x ≡ left_in k z (short last (desk_of t' n') (used_of n') (take (length part - from) (drop from part)))
      → x ≡ left_as (read_on last (desk_of t n) (used_of n) part)
  part-rests q so =
      let e : stopped_as last from a (desk_of t' n') (used_of n') part ≡ short last (desk_of t' n') (used_of n') (drop from part) = rw (eq-eqb a 0 q) in
      let l = undecided-short (drop from part) (p.waits sound q) in
      let w = short-rest last (desk_of t' n') (used_of n') (drop from part) in
      so ∙ ap (λ (y : List ℕ). left_in k z (short last (desk_of t' n') (used_of n') y)) (rest_part part from)
      ∙ left-in k z (short last (desk_of t' n') (used_of n') (drop from part)) lk lz (omega (arith, l, w)) ∙ ap (λ (r : Reading Desk). left_as r) (sym (p.read sound last ∙ e))
