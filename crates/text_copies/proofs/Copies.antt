-- A whole text pasted into another, texts copied where they fit, and copied one after the other into the same bytes.
-- Assumes nothing.
use mathlib.Core.Path.{◌≡◌, refl, sym, ap, ◌∙◌}
use mathlib.Core.Bool.{Bool, true, false}
use mathlib.Core.List.{List, [], ◌∷◌, ◌++◌, append_assoc, append-nil}
use Prim.Native.Nat.{ℕ, ◌+◌, ◌≤◌}
use native.Mathlib.Nat.{add-zero, zero-add}
use native.Mathlib.Omega.{arith}
use borrow.Author.Tests.{le-leb, leb-true}
use lib.Dec.{leb}
use lib.ListN.{length, take, drop, length-append, length-take, length-drop, take-append-drop, drop_of_length-le}
use lib.Seq.{paste, take-length, take_at, drop-append-add, drop-drop, length-take-le}
use Rattle.text_copies.specs.Copy.{copied}

pub copied-fits : (d : List ℕ) (at : ℕ) (s : List ℕ) → at + length s ≤ length d → copied d at s ≡ take at d ++ (s ++ drop (at + length s) d)
unfolding copied
copied-fits d at s h = simp (le-leb _ _ h)

pub pasted-is : (d : List ℕ) (at : ℕ) (s : List ℕ) → paste d at s (length s) ≡ take at d ++ (s ++ drop (at + length s) d)
pasted-is d at s = rw (take-length s) (append_assoc (take at d) s (drop (at + length s) d))

-- a text written over the part of d that is as long is copied there
pub written-is : (d : List ℕ) (at k : ℕ) (s wrote : List ℕ) → wrote ≡ s → k ≡ length s → at + length s ≤ length d → take at d ++ (wrote ++ drop k (drop at d)) ≡ copied d at s
written-is d at k s wrote e l h =
    ap (λ (w : List ℕ). take at d ++ (w ++ drop k (drop at d))) e
    ∙ ap (λ (r : List ℕ). take at d ++ (s ++ r)) (ap (λ (n : ℕ). drop n (drop at d)) l ∙ drop-drop (length s) at d) ∙ sym (copied-fits d at s h)

-- copying keeps the length
pub length-copied : (d : List ℕ) (at : ℕ) (s : List ℕ) → length (copied d at s) ≡ length d
unfolding copied
length-copied d at s = go (leb (at + length s) (length d)) refl
  where
    go : (t : Bool) → leb (at + length s) (length d) ≡ t → length (copied d at s) ≡ length d
    go true e = let h = leb-true (at + length s) (length d) e in rw e (simp (length-append, length-take, length-drop) (omega arith))
    go false e = rw e

-- nothing copied
pub copied_none : (d : List ℕ) (at : ℕ) → copied d at [] ≡ d
unfolding copied
copied_none d at = go (leb (at + 0) (length d)) refl
  where
    go : (t : Bool) → leb (at + 0) (length d) ≡ t → copied d at [] ≡ d
    go true e = rw e (rw (add-zero at) (take-append-drop at d))
    go false e = rw e

-- two texts one after the other are one text
pub copied-then : (d : List ℕ) (at next : ℕ) (a b : List ℕ) → next ≡ at + length a → next + length b ≤ length d
    → copied (copied d at a) next b ≡ copied d at (a ++ b)
copied-then d at next a b e h =
    let p : List ℕ = take at d ++ a in
    let q : List ℕ = drop (at + length a) d in
    let first : copied d at a ≡ p ++ q = copied-fits d at a (omega arith) ∙ sym (append_assoc (take at d) a q) in
    let lp : length p ≡ next = length-append (take at d) a ∙ ap (λ (n : ℕ). n + length a) (length-take-le at d (omega arith)) ∙ sym e in
    let lpq : length (p ++ q) ≡ length d = sym (ap length first) ∙ length-copied d at a in
    let room : next + length b ≤ length (p ++ q) = rw lpq h in
    let end : at + length a + length b ≡ at + length (a ++ b) = simp length-append (omega arith) in
    let rest : drop (next + length b) (p ++ q) ≡ drop (at + length (a ++ b)) d
    = ap (λ (n : ℕ). drop (n + length b) (p ++ q)) (sym lp) ∙ drop-append-add p q (length b) ∙ drop-drop (length b) (at + length a) d
    ∙ ap (λ (n : ℕ). drop n d) end in
    let all : at + length (a ++ b) ≤ length d = simp length-append (omega arith) in
    ap (λ (l : List ℕ). copied l next b) first
    ∙ copied-fits (p ++ q) next b room
    ∙ ap (λ (l : List ℕ). l ++ (b ++ drop (next + length b) (p ++ q))) (take_at p q next lp)
    ∙ ap (λ (l : List ℕ). p ++ (b ++ l)) rest
    ∙ append_assoc (take at d) a (b ++ drop (at + length (a ++ b)) d)
    ∙ ap (λ (l : List ℕ). take at d ++ l) (sym (append_assoc a b (drop (at + length (a ++ b)) d)))
    ∙ sym (copied-fits d at (a ++ b) all)

-- a text copied to the start
pub copied-start : (d s : List ℕ) → length s ≤ length d → copied d 0 s ≡ s ++ drop (length s) d
copied-start d s h =
    let l : 0 + length s ≤ length d = omega arith in
    copied-fits d 0 s l ∙ ap (λ (n : ℕ). s ++ drop n d) (zero-add (length s))

-- a further text after one that was copied; r is what the code copies, b what it is
pub copied_next : (d : List ℕ) (at : ℕ) (a : List ℕ) (next : ℕ) (b : List ℕ) {out last r : List ℕ} → out ≡ copied d at a → last ≡ copied out next r → r ≡ b
    → next ≡ at + length a → next + length b ≤ length d → last ≡ copied d at (a ++ b)
copied_next d at a next b {out} {last} {r} first then e here fits =
    then ∙ ap (λ (o : List ℕ). copied o next r) first ∙ ap (λ (t : List ℕ). copied (copied d at a) next t) e ∙ copied-then d at next a b here fits

-- a text copied after the first element, to the end
pub copied-after : (x : ℕ) (d s : List ℕ) → length s ≡ length d → copied (x ∷ d) 1 s ≡ x ∷ s
copied-after x d s e =
    let none : drop (1 + length s) (x ∷ d) ≡ [] = drop_of_length-le (x ∷ d) {i = 1 + length s} (omega arith) in
    copied-fits (x ∷ d) 1 s (omega arith) ∙ ap (λ (t : List ℕ). x ∷ (s ++ t)) none ∙ ap (λ (t : List ℕ). x ∷ t) (append-nil s)
