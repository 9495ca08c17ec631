-- Laws of slots of any width: what a store of one element, or a text copied in, makes of each, and slots in a block of slots.
-- Assumes nothing.
use mathlib.Core.Path.{◌≡◌, refl, sym, ap, ◌∙◌}
use mathlib.Core.Bool.{Bool, true, false}
use mathlib.Core.List.{List}
use Prim.Native.Nat.{ℕ, ◌+◌, ◌*◌, ◌-◌, ◌/◌, ◌%◌, ◌≤◌, ◌<◌}
use native.Mathlib.Nat.{suc-mul, add-mul, mul_assoc, mul-le-mul_right, mod-lt, div-add-mod'}
use native.Mathlib.Omega.{arith}
use borrow.Author.Tests.{ltb-true, ltb-false}
use lib.Dec.{ltb}
use lib.ListN.{length, get_or, take, drop, set, length-drop}
use lib.Seq.{length-take-le, get_or-take, get_or-drop, drop-drop}
use Rattle.text_copies.specs.Copy.{copied}
use Rattle.desk_memory.specs.Memory.{slot}
use Rattle.desk_memory.proofs.Parts.{part-within, part-before, part-after, part_in, copied_behind, copied-front, copied-here}

module _ (w : ℕ) where
  -- a slot ends where a later one begins, or before
  pub slots_apart : (j k : ℕ) → j < k → j * w + w ≤ k * w
  slots_apart j k h = let e = suc-mul j w in let l = mul-le-mul_right w h in omega arith

  -- an element stored in slot k
  module _ (t : List ℕ) (k i b : ℕ) (h : i < w) where
    pub slot-set : slot w (set t (k * w + i) b) k ≡ set (slot w t k) i b
    unfolding slot
    slot-set = part_in t (k * w) w (k * w + i) b i refl h

    pub slot-set-other : (j : ℕ) → (j ≡ k → ⊥) → slot w (set t (k * w + i) b) j ≡ slot w t j
    unfolding slot
    slot-set-other j n = go (ltb j k) refl
      where
        go : (z : Bool) → ltb j k ≡ z → slot w (set t (k * w + i) b) j ≡ slot w t j
        go true e = let a = slots_apart j k (ltb-true j k e) in part-after t (j * w) w (k * w + i) b (omega arith)
        go false e =
            let l = ltb-false j k e in
            let a = slots_apart k j (omega arith) in
            part-before t (j * w) w (k * w + i) b (omega arith)

  -- a text of a slot's length copied into slot k
  module _ (t : List ℕ) (k : ℕ) (v : List ℕ) (l : length v ≡ w) (fits : k * w + w ≤ length t) where
    pub slot-copied : slot w (copied t (k * w) v) k ≡ v
    unfolding slot
    slot-copied = copied-here t (k * w) w (k * w) v (omega arith) refl l

    pub slot-copied-other : (j : ℕ) → (j ≡ k → ⊥) → slot w (copied t (k * w) v) j ≡ slot w t j
    unfolding slot
    slot-copied-other j n = go (ltb j k) refl
      where
        go : (z : Bool) → ltb j k ≡ z → slot w (copied t (k * w) v) j ≡ slot w t j
        go true e = let a = slots_apart j k (ltb-true j k e) in copied_behind t (j * w) w (k * w) v (omega arith) (omega arith)
        go false e =
            let g = ltb-false j k e in
            let a = slots_apart k j (omega arith) in
            ap (take w) (copied-front t (j * w) w (k * w) v (omega arith) (omega arith))

  module _ (t : List ℕ) (k : ℕ) where
    -- the slot as it is lent
    pub slot_lent : (a e : ℕ) → a ≡ k * w → e ≡ a + w → take (e - a) (drop a t) ≡ slot w t k
    unfolding slot
    slot_lent a e p q =
        let l : e - a ≡ w = omega arith in
        ap (λ (n : ℕ). take n (drop a t)) l ∙ ap (λ (n : ℕ). take w (drop n t)) p

    -- the slot of what is left after b elements, as it is lent
    pub block-lent : (b a e : ℕ) → a ≡ b + k * w → e ≡ a + w → take (e - a) (drop a t) ≡ slot w (drop b t) k
    unfolding slot
    block-lent b a e p q =
        let l : e - a ≡ w = omega arith in
        ap (λ (n : ℕ). take n (drop a t)) l ∙ ap (take w) (ap (λ (n : ℕ). drop n t) p ∙ sym (drop-drop (k * w) b t))

    pub slot-long : k * w + w ≤ length t → length (slot w t k) ≡ w
    unfolding slot
    slot-long h = length-take-le w (drop (k * w) t) (simp length-drop (omega arith))

    pub slot-get : (i : ℕ) → i < w → get_or (slot w t k) i 0 ≡ get_or t (k * w + i) 0
    unfolding slot
    slot-get i h = get_or-take w (drop (k * w) t) i 0 h ∙ get_or-drop (k * w) t i 0

    -- slots after others
    pub slot-after : (b : ℕ) → slot w (drop (b * w) t) k ≡ slot w t (b + k)
    unfolding slot
    slot-after b = ap (take w) (drop-drop (k * w) (b * w) t ∙ ap (λ (n : ℕ). drop n t) (sym (add-mul b k w)))

    -- slots in block s of blocks of m slots
    pub slot-within : (m s : ℕ) → k < m → slot w (slot (m * w) t s) k ≡ slot w t (s * m + k)
    unfolding slot
    slot-within m s h =
        let a = slots_apart k m h in
        let e : s * (m * w) + k * w ≡ (s * m + k) * w = ap (λ (n : ℕ). n + k * w) (sym (mul_assoc s m w)) ∙ sym (add-mul (s * m) k w) in
        part-within (k * w) w (m * w) (drop (s * (m * w)) t) (omega arith)
        ∙ ap (take w) (drop-drop (k * w) (s * (m * w)) t ∙ ap (λ (n : ℕ). drop n t) e)

  -- an element is in its slot
  pub slot_of : 0 < w → (t : List ℕ) (i : ℕ) → get_or (slot w t (i / w)) (i % w) 0 ≡ get_or t i 0
  slot_of p t i = slot-get t (i / w) (i % w) (mod-lt i p) ∙ ap (λ (x : ℕ). get_or t x 0) (div-add-mod' i w)
