-- Laws of what is read of memory: the numbers of an item, the length of its value, and a text that does not fit.
-- Assumes nothing.
use mathlib.Core.Path.{◌≡◌, sym, ap, ◌∙◌}
use mathlib.Core.List.{List, []}
use Prim.Native.Nat.{ℕ, ◌+◌, ◌*◌, ◌≤◌, ◌<◌}
use native.Mathlib.Omega.{arith}
use borrow.Author.Tests.{lt-leb}
use lib.ListN.{length, get_or, take, drop, length-take, length-drop, drop_of_length-le, get_or-eq_default}
use lib.Seq.{take-nil, take_all, drop-drop}
use Rattle.text_copies.specs.Copy.{copied}
use Rattle.line_items.specs.Typed.{line_most}
use Rattle.desk_state.specs.Sheets.{value_in}
use Rattle.desk_memory.specs.Memory.{slot, item_in}
use Rattle.desk_memory.proofs.Slots.{slot-get}

module _ (w : ℕ) (t : List ℕ) (k i : ℕ) where
  -- past a slot's width
  pub get-past : w ≤ i → get_or (slot w t k) i 0 ≡ 0
  unfolding slot
  get-past h = get_or-eq_default (take w (drop (k * w) t)) 0 (simp length-take (omega arith))

  -- past the list's end
  pub get_none : i < w → length t ≤ k * w + i → get_or (slot w t k) i 0 ≡ 0
  get_none h l = slot-get w t k i h ∙ get_or-eq_default t 0 l

pub slot-none : (w : ℕ) (t : List ℕ) (k : ℕ) → length t ≤ k * w → slot w t k ≡ []
unfolding slot
slot-none w t k h = ap (take w) (drop_of_length-le t h) ∙ take-nil w

-- block k of blocks of w elements that begin at b: past the list's end, and the last where the list ends in it
module _ (w b : ℕ) (t : List ℕ) (k : ℕ) where
  pub block_none : length t ≤ b + k * w → slot w (drop b t) k ≡ []
  block_none h = slot-none w (drop b t) k (simp length-drop (omega arith))

  pub block-rest : (a : ℕ) → a ≡ b + k * w → length t ≤ a + w → drop a t ≡ slot w (drop b t) k
  unfolding slot
  block-rest a p h =
      sym (take_all w (drop a t) (simp length-drop (omega arith))) ∙ ap (take w) (ap (λ (i : ℕ). drop i t) p ∙ sym (drop-drop (k * w) b t))

-- a value is no longer than its slot
pub value-short : (t n : List ℕ) (k : ℕ) → length (value_in (item_in t n k)) ≤ line_most
unfolding slot
value-short t n k =
    let a = length-take (item_in t n k).len (slot line_most t k) in
    let b = length-take line_most (drop (k * line_most) t) in
    omega arith

pub copied-not : (d : List ℕ) (at : ℕ) (s : List ℕ) → length d < at + length s → copied d at s ≡ d
unfolding copied
copied-not d at s h = simp (lt-leb (at + length s) (length d) h)
