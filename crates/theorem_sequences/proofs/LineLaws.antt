-- The line on which a text is typed: what the keys make of it, and that the sound lines are these.
-- Assumes nothing.
use mathlib.Core.Path.{◌≡◌, refl, sym, ap, ◌∙◌}
use mathlib.Core.Bool.{true, ◌&&◌}
use mathlib.Core.List.{List, [], ◌∷◌, ◌++◌, append_assoc}
use Prim.Native.Nat.{ℕ, suc, ◌+◌, ◌-◌, ◌≤◌, ◌<◌}
use native.Mathlib.Omega.{arith}
use borrow.Author.Tests.{le-leb, lt-ltb, leb-true}
use lib.Dec.{leb}
use lib.ListN.{length, take, drop, get_or, replicate, length-append, length-take, length-drop, take-append-drop, drop_of_length-le}
use lib.Seq.{set_at, take_at, drop_at, length-take-le, split_at}
use Rattle.text.specs.Run.{all, between}
use Rattle.text.proofs.Bools.{and_both, and-true-true}
use Rattle.text.proofs.Runs.{all_append, all_take, all_replicate}
use Rattle.line_items.specs.Typed.{line_most, is_typed}
use Rattle.desk_state.specs.Lines.{padded, typed, line_of, appended, erased}
use Rattle.desk_soundness.specs.Sound.{zeros, sound_line}
use Rattle.desk_state.specs.declared.line.Line.{Line}

line_eq : {a b : List ℕ} {n m : ℕ} → a ≡ b → n ≡ m → ◌≡◌ {A = Line} (record { bytes = a; len = n }) (record { bytes = b; len = m })
line_eq p q = cc

pub typed-line_of : (t : List ℕ) → typed (line_of t) ≡ t
typed-line_of t = take_at t (replicate (line_most - length t) 0) (length t) refl

-- a padded text has zeros after the text
pub padded-zeros : (t : List ℕ) → zeros (drop (length t) (padded t)) ≡ true
unfolding between
padded-zeros t = ap zeros (drop_at t (replicate (line_most - length t) 0) (length t) refl) ∙ all_replicate (between 0 0) (line_most - length t) 0 refl

zeros-cons : (k n : ℕ) → k ≡ suc n → replicate {A = ℕ} k 0 ≡ 0 ∷ replicate n 0
zeros-cons k n e = rw e

pub appended-line_of : (t : List ℕ) (b : ℕ) → length t < line_most → appended (line_of t) b ≡ line_of (t ++ (b ∷ []))
unfolding appended
appended-line_of t b h =
    rw (lt-ltb (length t) line_most h)
    (line_eq
    (rw (zeros-cons (line_most - length t) (line_most - length (t ++ (b ∷ []))) (omega (arith, length-append t (b ∷ []))), set_at t 0 _ b (length t) refl, append_assoc))
    (sym (length-append t (b ∷ []))))

erased-snoc : (t : List ℕ) (b : ℕ) → length t < line_most → erased (line_of (t ++ (b ∷ []))) ≡ line_of t
unfolding erased
erased-snoc t b h =
    let n = length-append t (b ∷ []) in
    let k = length (t ++ (b ∷ [])) in
    rw (le-leb 1 k (omega arith), le-leb k line_most (omega arith))
    (line_eq
    (rw (append_assoc, set_at t b _ 0 (k - 1) (omega arith), zeros-cons (line_most - length t) (line_most - k) (omega arith)))
    (omega arith))

-- a text without its last byte
abbrev pub shorter : List ℕ → List ℕ
shorter t = take (length t - 1) t

last-split : (t : List ℕ) → 0 < length t → t ≡ shorter t ++ (get_or t (length t - 1) 0 ∷ [])
last-split t h =
    let e : drop (suc (length t - 1)) t ≡ [] = drop_of_length-le t {i = suc (length t - 1)} (omega arith) in
    split_at t (length t - 1) 0 (omega arith) ∙ rw e

pub erased-line_of : (t : List ℕ) → length t ≤ line_most → erased (line_of t) ≡ line_of (shorter t)
unfolding erased
erased-line_of [] h = refl
erased-line_of (x ∷ t) h =
    let l = x ∷ t in
    ap (λ (u : List ℕ). erased (line_of u)) (last-split l (omega arith))
    ∙ erased-snoc (shorter l) (get_or l (length l - 1) 0) (simp length-take (omega arith))

-- a text of zeros
all-zero : (s : List ℕ) → zeros s ≡ true → s ≡ replicate (length s) 0
unfolding all between
all-zero [] e = refl
all-zero (b ∷ bs) e =
    let h = and_both (between 0 0 b) (zeros bs) e in
    let k = and_both (leb 0 b) (leb b 0) h.0 in
    let at : b ≡ 0 = omega (arith, leb-true b 0 k.1) in
    rw at (ap (λ (l : List ℕ). 0 ∷ l) (all-zero bs h.1))

-- what a sound line of all its bytes is
pub record Canonical (l : Line) : Type 0 where
  pub short : length (typed l) ≤ line_most
  pub bytes-typed : all is_typed (typed l) ≡ true
  pub is-line : l ≡ line_of (typed l)

pub sound-canonical : (l : Line) → length l.bytes ≡ line_most → sound_line l ≡ true → Canonical l
unfolding sound_line
sound-canonical l n h =
    let h1 = and_both (leb l.len line_most) (all is_typed (typed l) && zeros (drop l.len l.bytes)) h in
    let h2 = and_both (all is_typed (typed l)) (zeros (drop l.len l.bytes)) h1.1 in
    let small : l.len ≤ line_most = leb-true l.len line_most h1.0 in
    let z = all-zero (drop l.len l.bytes) h2.1 in
    let m : length (typed l) ≡ l.len = length-take-le l.len l.bytes (omega arith) in
    let k : length (drop l.len l.bytes) ≡ line_most - length (typed l) = simp length-drop (omega arith) in
    record {
      short = omega arith;
      bytes-typed = h2.0;
      is-line = line_eq
          (sym (take-append-drop l.len l.bytes) ∙ ap (λ (r : List ℕ). typed l ++ r) (z ∙ ap (λ (i : ℕ). replicate i 0) k))
          (sym m);
    }

-- the line of a short text that can be typed is sound
pub line_of-sound : (t : List ℕ) → length t ≤ line_most → all is_typed t ≡ true → sound_line (line_of t) ≡ true
unfolding sound_line
line_of-sound t h p =
    and-true-true (leb (length t) line_most) (all is_typed (typed (line_of t)) && zeros (drop (length t) (padded t))) (le-leb (length t) line_most h)
    (and-true-true (all is_typed (typed (line_of t))) (zeros (drop (length t) (padded t))) (ap (all is_typed) (typed-line_of t) ∙ p) (padded-zeros t))

-- one byte more, and one byte fewer, can be typed too
pub more-typed : (t : List ℕ) (b : ℕ) → all is_typed t ≡ true → is_typed b ≡ true → all is_typed (t ++ (b ∷ [])) ≡ true
unfolding all
more-typed t b h p = all_append is_typed t (b ∷ []) h (and-true-true (is_typed b) true p refl)

pub fewer-typed : (t : List ℕ) → all is_typed t ≡ true → all is_typed (shorter t) ≡ true
fewer-typed t h = all_take is_typed (length t - 1) t h

pub shorter-short : (t : List ℕ) → length (shorter t) ≤ length t
shorter-short t = simp length-take (omega arith)
