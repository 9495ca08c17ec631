-- Laws of a part of a list: what a store of one element, or a text copied in, makes of it.
-- Assumes nothing.
use mathlib.Core.Path.{◌≡◌, refl, sym, ap, ◌∙◌}
use mathlib.Core.List.{List, [], ◌∷◌, ◌++◌, append_assoc}
use Prim.Native.Nat.{ℕ, zero, suc, ◌+◌, ◌-◌, ◌≤◌, ◌<◌}
use native.Mathlib.Omega.{arith}
use lib.ListN.{length, get_or, take, drop, set, length-append, length-drop, get_or-append}
use lib.Seq.{take-set-le, drop-set-lt, take-set-lt, drop-set-add, length-take-le, take-append-le, drop-append-le, drop-append-add, take_at, drop_at, drop-drop, take-take, get_or-take, get_or-drop}
use borrow.Rule.Slice.PartMut.{put_mid, post_of, drop_put}
use Rattle.text_copies.specs.Copy.{copied}
use Rattle.text_copies.proofs.Copies.{copied-fits}

-- a part of a longer part
pub part-within : (a m k : ℕ) (t : List ℕ) → a + m ≤ k → take m (drop a (take k t)) ≡ take m (drop a t)
part-within zero m k t h = take-take m k t (omega arith)
part-within (suc a) m zero t h = absurd (omega arith)
part-within (suc a) m (suc k) [] h = refl
part-within (suc a) m (suc k) (x ∷ t) h = part-within a m k t (omega arith)

module _ (t : List ℕ) (a m p : ℕ) where
  module _ (b : ℕ) where
    -- a store before, after and in a part
    pub part-before : p < a → take m (drop a (set t p b)) ≡ take m (drop a t)
    part-before h = ap (take m) (drop-set-lt a t p b h)

    pub part-after : a + m ≤ p → take m (drop a (set t p b)) ≡ take m (drop a t)
    part-after h =
        let e : a + (p - a) ≡ p = omega arith in
        let l : m ≤ p - a = omega arith in
        ap (λ (q : ℕ). take m (drop a (set t q b))) (sym e) ∙ ap (take m) (drop-set-add a t (p - a) b) ∙ take-set-le m (drop a t) (p - a) b l

    pub part_in : (i : ℕ) → p ≡ a + i → i < m → take m (drop a (set t p b)) ≡ set (take m (drop a t)) i b
    part_in i e h = ap (λ (q : ℕ). take m (drop a (set t q b))) e ∙ ap (take m) (drop-set-add a t i b) ∙ take-set-lt m (drop a t) i b h

  -- a part before where another text goes on
  front-part : (r : List ℕ) → a + m ≤ p → p ≤ length t → take m (drop a (take p t ++ r)) ≡ take m (drop a (take p t))
  front-part r h w =
      let l = length-take-le p t w in
      let k : m ≤ length (drop a (take p t)) = simp length-drop (omega arith) in
      ap (take m) (drop-append-le a (take p t) r (omega arith)) ∙ take-append-le m (drop a (take p t)) r k

  module _ (v : List ℕ) (w : p + length v ≤ length t) where
    -- a text copied in after a part, before what is left, and into a part
    pub copied_behind : a + m ≤ p → take m (drop a (copied t p v)) ≡ take m (drop a t)
    copied_behind h =
        let w' : p ≤ length t = omega arith in
        ap (λ (l : List ℕ). take m (drop a l)) (copied-fits t p v w) ∙ front-part (v ++ drop (p + length v) t) h w' ∙ part-within a m p t h

    pub copied-front : p + length v ≤ a → drop a (copied t p v) ≡ drop a t
    copied-front h =
        let q : List ℕ = take p t ++ v in
        let l : length q ≡ p + length v = length-append (take p t) v ∙ ap (λ (n : ℕ). n + length v) (length-take-le p t (omega arith)) in
        let e : length q + (a - (p + length v)) ≡ a = omega arith in
        let f : p + length v + (a - (p + length v)) ≡ a = omega arith in
        ap (drop a) (copied-fits t p v w ∙ sym (append_assoc (take p t) v (drop (p + length v) t)))
        ∙ ap (λ (n : ℕ). drop n (q ++ drop (p + length v) t)) (sym e) ∙ drop-append-add q (drop (p + length v) t) (a - (p + length v))
        ∙ drop-drop (a - (p + length v)) (p + length v) t ∙ ap (λ (n : ℕ). drop n t) f

    pub copied-here : a ≡ p → length v ≡ m → take m (drop a (copied t p v)) ≡ v
    copied-here e l =
        ap (λ (n : ℕ). take m (drop n (copied t p v))) e ∙ ap (λ (r : List ℕ). take m (drop p r)) (copied-fits t p v w)
        ∙ ap (take m) (drop_at (take p t) (v ++ drop (p + length v) t) p (length-take-le p t (omega arith)))
        ∙ take_at v (drop (p + length v) t) m l

-- a part that was lent and came back: what stands before it, in it and after it
module _ (a e : ℕ) (n m : List ℕ) (within : a ≤ e) (fits : e ≤ length n) (l : length m ≡ e - a) where
  pub put-before : (j : ℕ) → j < a → get_or (put_mid a (e - a) n m) j 0 ≡ get_or n j 0
  put-before j h =
      let q = length-take-le a n (omega arith) in
      get_or-append (take a n) (m ++ post_of a (e - a) n) 0 j (omega arith) ∙ get_or-take a n j 0 h

  pub put-here : take (e - a) (drop a (put_mid a (e - a) n m)) ≡ m
  put-here = ap (take (e - a)) (drop_at (take a n) (m ++ post_of a (e - a) n) a (length-take-le a n (omega arith))) ∙ take_at m (post_of a (e - a) n) (e - a) l

  pub put-after : (j : ℕ) → e ≤ j → get_or (put_mid a (e - a) n m) j 0 ≡ get_or n j 0
  put-after j h =
      let q : e + (j - e) ≡ j = omega arith in
      ap (λ (i : ℕ). get_or (put_mid a (e - a) n m) i 0) (sym q) ∙ sym (get_or-drop e (put_mid a (e - a) n m) (j - e) 0)
      ∙ ap (λ (r : List ℕ). get_or r (j - e) 0) (drop_put a e n m within fits l) ∙ get_or-drop e n (j - e) 0 ∙ ap (λ (i : ℕ). get_or n i 0) q

  -- a part before it, and one after it
  pub part-put-before : (b c : ℕ) → b + c ≤ a → take c (drop b (put_mid a (e - a) n m)) ≡ take c (drop b n)
  part-put-before b c h = front-part n b c a (m ++ post_of a (e - a) n) h (omega arith) ∙ part-within b c a n h

  pub part-put-after : (b c : ℕ) → e ≤ b → take c (drop b (put_mid a (e - a) n m)) ≡ take c (drop b n)
  part-put-after b c h =
      let q : e + (b - e) ≡ b = omega arith in
      ap (λ (i : ℕ). take c (drop i (put_mid a (e - a) n m))) (sym q)
      ∙ ap (take c) (sym (drop-drop (b - e) e (put_mid a (e - a) n m)) ∙ ap (drop (b - e)) (drop_put a e n m within fits l) ∙ drop-drop (b - e) e n)
      ∙ ap (λ (i : ℕ). take c (drop i n)) q
