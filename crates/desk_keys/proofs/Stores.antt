-- A store in a line in lent memory is a step of the definitions, once for any bench; what is typed there, as it is lent.
-- Assumes nothing.
use mathlib.Core.Path.{◌≡◌, refl, sym, ap, ◌∙◌}
use mathlib.Core.List.{List}
use Prim.Native.Nat.{ℕ, ◌+◌, ◌*◌, ◌-◌, ◌≤◌, ◌<◌}
use native.Mathlib.Omega.{arith}
use borrow.Author.Tests.{lt-ltb, le-leb}
use lib.ListN.{length, get_or, take, drop, set, replicate, length-drop}
use lib.Seq.{get_or-set_same, get_or-set_other, set-get_or, drop-set-lt, take-take, take-add, drop_at, drop-drop, length-take-le}
use Rattle.text_copies.specs.Copy.{copied}
use Rattle.line_items.specs.Typed.{line_most}
use Rattle.desk_state.specs.Lines.{typed, empty_line, appended, erased}
use Rattle.desk_state.specs.Desks.{bench_count, line_at, with_line}
use Rattle.desk_state.specs.declared.line.Line.{Line}
use Rattle.desk_memory.specs.Memory.{sheets_at, Sized, slot, line_from, line_in, desk_of}
use Rattle.desk_memory.proofs.Parts.{copied-front}
use Rattle.desk_memory.proofs.Slots.{slot-set, slot-set-other, slot-copied, slot-copied-other}
use Rattle.desk_memory.proofs.Desks.{line-at, desk-line}

module _ (t n : List ℕ) (s : Sized t n) where
  module _ (k : ℕ) (h : k < bench_count) where
    -- one number and one byte of line k
    edit-line : (i b m : ℕ) → i < line_most → (l : Line) → line_from (set (slot line_most t k) i b) m ≡ l
        → desk_of (set t (k * line_most + i) b) (set n k m) ≡ with_line (desk_of t n) k l
    edit-line i b m w l e =
        let x = slot-set line_most t k i b w in
        let y = get_or-set_same n k m 0 (omega (arith, s.numbers)) in
        let z : line_in (set t (k * line_most + i) b) (set n k m) k ≡ line_from (set (slot line_most t k) i b) m = cc in
        desk-line t n (set t (k * line_most + i) b) (set n k m) k (λ j g d. slot-set-other line_most t k i b w j d) (λ j g d. get_or-set_other n k j m 0 d)
        (drop-set-lt sheets_at t (k * line_most + i) b (omega arith)) (drop-set-lt bench_count n k m h)
        ∙ ap (with_line (desk_of t n) k) (z ∙ e)

    pub appended-in : (b : ℕ) → get_or n k 0 < line_most
        → desk_of (set t (k * line_most + get_or n k 0) b) (set n k (get_or n k 0 + 1)) ≡ with_line (desk_of t n) k (appended (line_at (desk_of t n) k) b)
    unfolding appended
    appended-in b w =
        edit-line (get_or n k 0) b (get_or n k 0 + 1) w (appended (line_at (desk_of t n) k) b) (rw (line-at t n k h) (simp (lt-ltb _ line_most w)))

    pub erased-in : 1 ≤ get_or n k 0 → get_or n k 0 ≤ line_most
        → desk_of (set t (k * line_most + (get_or n k 0 - 1)) 0) (set n k (get_or n k 0 - 1)) ≡ with_line (desk_of t n) k (erased (line_at (desk_of t n) k))
    unfolding erased
    erased-in o w =
        edit-line (get_or n k 0 - 1) 0 (get_or n k 0 - 1) (omega arith) (erased (line_at (desk_of t n) k)) (rw (line-at t n k h) (simp (le-leb 1 _ o, le-leb _ line_most w)))

    -- a line as it was
    pub same_line : with_line (desk_of t n) k (line_at (desk_of t n) k) ≡ desk_of t n
    same_line = ap (λ (ls : List Line). record { lines = ls; sheets = (desk_of t n).sheets }) (set-get_or (desk_of t n).lines k _)

    pub cleared-in : desk_of (copied t (k * line_most) (replicate line_most 0)) (set n k 0) ≡ with_line (desk_of t n) k empty_line
    cleared-in =
        let v : List ℕ = replicate line_most 0 in
        let w : k * line_most + line_most ≤ length t = omega (arith, s.texts) in
        let x = slot-copied line_most t k v refl w in
        let y = get_or-set_same n k 0 0 (omega (arith, s.numbers)) in
        let z : line_in (copied t (k * line_most) v) (set n k 0) k ≡ empty_line = cc in
        desk-line t n (copied t (k * line_most) v) (set n k 0) k (λ j g d. slot-copied-other line_most t k v refl w j d) (λ j g d. get_or-set_other n k j 0 0 d)
        (copied-front t sheets_at line_most (k * line_most) v w (omega arith)) (drop-set-lt bench_count n k 0 h)
        ∙ ap (with_line (desk_of t n) k) z

-- what is typed in a slot from a place on, as it is lent
module _ (t n : List ℕ) (k : ℕ) (h : k < bench_count) (s : Sized t n) (short : get_or n k 0 ≤ line_most) where
  pub typed-lent : (a e : ℕ) → a ≡ k * line_most → e ≡ a + get_or n k 0 → take (e - a) (drop a t) ≡ typed (line_at (desk_of t n) k)
  unfolding slot
  typed-lent a e p q =
      let m : e - a ≡ get_or n k 0 = omega arith in
      ap (λ (x : ℕ). take x (drop a t)) m ∙ ap (λ (x : ℕ). take (get_or n k 0) (drop x t)) p
      ∙ sym (take-take (get_or n k 0) line_most (drop (k * line_most) t) short) ∙ sym (ap typed (line-at t n k h))

  pub value_lent : (i m : ℕ) → i ≤ get_or n k 0 → m ≡ get_or n k 0 - i → take m (drop (k * line_most + i) t) ≡ drop i (typed (line_at (desk_of t n) k))
  value_lent i m w z =
      let l : List ℕ = drop (k * line_most) t in
      let x : i + m ≡ get_or n k 0 = omega arith in
      let g : i ≤ length l = simp length-drop (omega (arith, s.texts)) in
      let e : k * line_most + get_or n k 0 - k * line_most ≡ get_or n k 0 = omega arith in
      let all : take (get_or n k 0) l ≡ typed (line_at (desk_of t n) k) = ap (λ (x : ℕ). take x l) (sym e) ∙ typed-lent (k * line_most) (k * line_most + get_or n k 0) refl refl in
      ap (take m) (sym (drop-drop i (k * line_most) t)) ∙ sym (drop_at (take i l) (take m (drop i l)) i (length-take-le i l g))
      ∙ ap (drop i) (sym (take-add i m l) ∙ ap (λ (x : ℕ). take x l) x ∙ all)
