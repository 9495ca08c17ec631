-- Laws for the code that reads on from kept bytes.
-- Assumes nothing.
use mathlib.Core.Path.{◌≡◌, refl, sym, ap, subst, ◌∙◌}
use mathlib.Core.Bool.{Bool, true, false}
use mathlib.Core.List.{List, [], ◌∷◌, ◌++◌, append_assoc}
use Prim.Native.Nat.{ℕ, ◌+◌, ◌-◌, ◌≤◌, ◌<◌, min}
use native.Mathlib.Omega.{arith}
use borrow.Author.Tests.{le-leb, eq-eqb}
use lib.ListN.{length, take, drop, length-append}
use lib.Seq.{take_at, length-take-le}
use Rattle.text.proofs.Parts.{rest_part}
use Rattle.text_copies.specs.Copy.{copied}
use Rattle.text_copies.proofs.Copies.{copied-fits, length-copied}
use Rattle.desk_state.specs.declared.desk.Desk.{Desk}
use Rattle.desk_memory.specs.Memory.{desk_of, used_of}
use Rattle.reader_cuts.specs.Reading.{Reading, undecided, waiting, ended, short}
use Rattle.reader_cuts.proofs.Firsts.{Goes}
use Rattle.reader_cuts.proofs.Kept.{kept-stops, kept-waits, kept_less, kept_goes}
use Rattle.reader_memory.specs.Memory.{reader_kept, reader_state, padded_kept, only_first, standing}
use Rattle.reader_entries.specs.Judged.{refusal_of, store_of, read_on}
use Rattle.reader_steps.specs.Steps.{sound_here, first_left, FirstLent}
use Rattle.reader_steps.proofs.Walks.{left-goes, first-sound}
use Rattle.reader_left.specs.Left.{Left, left, left_as, left_in}
use Rattle.reader_left.proofs.Lefts.{left-path, left-in}

-- the kept bytes with some behind them
pub kept-all : (k : List ℕ) (len : ℕ) (y : List ℕ) → len + length y ≤ length k → take (len + length y) (copied k len y) ≡ take len k ++ y
kept-all k len y h =
    let l : length (take len k) ≡ len = length-take-le len k (omega arith) in
    let e : length (take len k ++ y) ≡ len + length y = length-append (take len k) y ∙ ap (λ (i : ℕ). i + length y) l in
    ap (take (len + length y)) (copied-fits k len y h ∙ sym (append_assoc (take len k) y (drop (len + length y) k)))
    ∙ take_at (take len k ++ y) (drop (len + length y) k) (len + length y) e

-- what the code has when it looks at the kept bytes and those that were put behind them
pub record Begun (t n k z : List ℕ) (len : ℕ) (part : List ℕ) (m : ℕ) (k₁ : List ℕ) : Type 0 where
  pub sound : sound_here t n ≡ true
  pub lk : length k ≡ reader_kept
  pub lz : length z ≡ reader_state
  pub some : 1 ≤ len
  pub most : len ≤ reader_kept
  pub waits : undecided (take len k) ≡ true
  pub room : m ≤ reader_kept - len
  pub within : m ≤ length part
  pub full : m < length part → m ≡ reader_kept - len
  pub put : k₁ ≡ copied k len (take m part)

pub begun : {t n k z : List ℕ} {len : ℕ} {part : List ℕ} {m : ℕ} {k₁ : List ℕ}
    → (sound_here t n ≡ true) × (length k ≡ reader_kept) × (length z ≡ reader_state) × (1 ≤ len) × (len ≤ reader_kept) × (undecided (take len k) ≡ true)
    → m ≡ min (length part) (reader_kept - len) → k₁ ≡ copied k len (take m part) → Begun t n k z len part m k₁
begun p l e = record {
  sound = p.0;
  lk = p.1;
  lz = p.2;
  some = p.3;
  most = p.4;
  waits = p.5;
  room = omega (arith, l);
  within = omega (arith, l);
  full = λ f. omega (arith, l, f);
  put = e;
}

module _ (last : Bool) (t n k z : List ℕ) (len : ℕ) (part : List ℕ) (m : ℕ) (k₁ : List ℕ) (w : Begun t n k z len part m k₁) (b a : ℕ) (t' n' : List ℕ)
    (h : FirstLent t n (take (len + m) k₁) b a t' n') where
  sound : sound_here t n ≡ true
  sound = w.sound

  lk : length k ≡ reader_kept
  lk = w.lk

  lz : length z ≡ reader_state
  lz = w.lz

  most : len ≤ reader_kept
  most = w.most

  some : 1 ≤ len
  some = w.some

  u : undecided (take len k) ≡ true
  u = w.waits

  within : m ≤ length part
  within = w.within

  room : m ≤ reader_kept - len
  room = w.room

  abbrev xs : List ℕ
  xs = take len k

  abbrev all : List ℕ
  all = take len k ++ take m part

  ly : length (take m part) ≡ m
  ly = length-take-le m part within

  lx : length (take len k) ≡ len
  lx = length-take-le len k (omega (arith, lk, most))

  lall : length (take len k ++ take m part) ≡ len + m
  lall = length-append (take len k) (take m part) ∙ ap (λ (i : ℕ). i + length (take m part)) lx ∙ ap (λ (i : ℕ). len + i) ly

  lk₁ : length k₁ ≡ reader_kept
  lk₁ = ap length w.put ∙ length-copied k len (take m part) ∙ lk

  pub all-is : take (len + m) k₁ ≡ take len k ++ take m part
  all-is = ap (λ (i : ℕ). take (len + i) k₁) (sym ly) ∙ ap (take (len + length (take m part))) w.put ∙ kept-all k len (take m part) (omega (arith, ly, lk, room, most))

  lent : FirstLent t n (take len k ++ take m part) b a t' n'
  lent = subst (λ (x : List ℕ). FirstLent t n x b a t' n') all-is h

  g : Goes refusal_of store_of (desk_of t n) (used_of n) (take len k ++ take m part) (first_left b a t' n')
  g = left-goes t n (take len k ++ take m part) b a t' n' lent sound

  -- a record is taken
  module _ (ne : b ≡ 0 → ⊥) where
    pub taken-less : len < b
    taken-less = let l = kept_less refusal_of store_of last (desk_of t n) (used_of n) xs part m within (first_left b a t' n') g u ne in omega (arith, l, lx)

    pub taken-sound : sound_here t' n' ≡ true
    taken-sound = first-sound t n (take len k ++ take m part) b a t' n' lent ne sound

    -- and the part is read on behind it, as it is lent from there
    pub taken-reads : {x : Left} → x ≡ left_as (read_on last (desk_of t' n') (used_of n') (take (length part - (b - len)) (drop (b - len) part)))
        → x ≡ left_as (read_on last (desk_of t n) (used_of n) (take len k ++ part))
    taken-reads so =
        let e = kept_goes refusal_of store_of last (desk_of t n) (used_of n) xs part m within (first_left b a t' n') g u ne in
        so ∙ ap (λ (y : List ℕ). left_as (read_on last (desk_of t' n') (used_of n') y)) (rest_part part (b - len))
        ∙ ap (λ (i : ℕ). left_as (read_on last (desk_of t' n') (used_of n') (drop (b - i) part))) (sym lx) ∙ ap (λ (r : Reading Desk). left_as r) (sym e)

  -- none is taken
  module _ (none : b ≡ 0) where
    ended_here : (x : ℕ) → ended x (desk_of t' n') (used_of n') ≡ ended x (desk_of t n) (used_of n)
    ended_here x = let s = g.none none in ap (λ (d : Desk). ended x d (used_of n')) s.0 ∙ ap (λ (i : ℕ). ended x (desk_of t n) i) s.1

    pub none-refused : {x : Left} → (a ≡ 0 → ⊥) → x ≡ left_in k₁ z (ended a (desk_of t' n') (used_of n')) → x ≡ left_as (read_on last (desk_of t n) (used_of n) (take len k ++ part))
    none-refused ne so =
        let e = kept-stops refusal_of store_of last (desk_of t n) (used_of n) xs part m within (first_left b a t' n') g ne in
        so ∙ left-in k₁ z (ended a (desk_of t' n') (used_of n')) lk₁ lz (omega arith) ∙ ap (λ (r : Reading Desk). left_as r) (ended_here a ∙ sym e)

    module _ (zero : a ≡ 0) where
      waits : read_on last (desk_of t n) (used_of n) (take len k ++ part) ≡ short last (desk_of t n) (used_of n) (take len k ++ take m part)
      waits = (kept-waits refusal_of store_of last (desk_of t n) (used_of n) xs part m within (first_left b a t' n') g none zero (λ l. let q = w.full l in omega (arith, q, lx, most))).1

      inside : (bs : List ℕ) → 1 ≤ length bs → short true (desk_of t n) (used_of n) bs ≡ ended 20 (desk_of t n) (used_of n)
      inside [] l = absurd (omega arith)
      inside (x ∷ bs) l = refl

      pub none_inside : {x : Left} → last ≡ true → x ≡ left_in k₁ z (ended 20 (desk_of t' n') (used_of n')) → x ≡ left_as (read_on last (desk_of t n) (used_of n) (take len k ++ part))
      none_inside q so =
          let e = waits ∙ ap (λ (x : Bool). short x (desk_of t n) (used_of n) (take len k ++ take m part)) q ∙ inside (take len k ++ take m part) (omega (arith, lall, some)) in
          so ∙ left-in k₁ z (ended 20 (desk_of t' n') (used_of n')) lk₁ lz (omega arith) ∙ ap (λ (r : Reading Desk). left_as r) (ended_here 20 ∙ sym e)

      pub none-held : (k₂ z₂ : List ℕ) → last ≡ false → k₂ ≡ only_first k₁ (len + m) → z₂ ≡ standing z (len + m) 0
          → left 0 0 (desk_of t' n') (used_of n') k₂ z₂ ≡ left_as (read_on last (desk_of t n) (used_of n) (take len k ++ part))
      unfolding only_first standing
      none-held k₂ z₂ q x y =
          let s = g.none none in
          let fits : len + m ≤ length k₁ = omega (arith, lk₁, room, most) in
          let e = waits ∙ ap (λ (w : Bool). short w (desk_of t n) (used_of n) (take len k ++ take m part)) q in
          let kk : only_first k₁ (len + m) ≡ padded_kept (take len k ++ take m part)
          = rw (le-leb (len + m) (length k₁) fits, lk₁, all-is, lall) in
          let zz : standing z (len + m) 0 ≡ length (take len k ++ take m part) ∷ 0 ∷ [] = rw (eq-eqb (length z) reader_state lz, lall) in
          left-path 0 0 0 0 (desk_of t' n') (used_of n') k₂ (padded_kept (take len k ++ take m part)) z₂ (length (take len k ++ take m part) ∷ 0 ∷ []) refl refl (x ∙ kk) (y ∙ zz)
          ∙ ap (λ (d : Desk). left_as (waiting d (used_of n') (take len k ++ take m part))) s.0
          ∙ ap (λ (i : ℕ). left_as (waiting (desk_of t n) i (take len k ++ take m part))) s.1 ∙ ap (λ (r : Reading Desk). left_as r) (sym e)
