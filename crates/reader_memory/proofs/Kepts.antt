-- Laws of the reader's memory as the code writes it.
-- Assumes nothing.
use mathlib.Core.Path.{◌≡◌, refl, sym, ap, ◌∙◌}
use mathlib.Core.Bool.{Bool, true, false}
use mathlib.Core.List.{List, [], ◌++◌, append-nil}
use Prim.Native.Nat.{ℕ, ◌+◌, ◌-◌, ◌≤◌}
use native.Mathlib.Omega.{arith}
use borrow.Author.Tests.{le-leb, leb-true, leb-false}
use lib.Dec.{leb}
use lib.ListN.{length, take, drop, replicate, length-replicate, drop_of_length-le}
use lib.Seq.{take_at}
use Rattle.text_copies.specs.Copy.{copied}
use Rattle.text_copies.proofs.Copies.{copied-fits, copied-start, length-copied}
use Rattle.desk_memory.proofs.Gets.{copied-not}
use Rattle.reader_memory.specs.Memory.{only_first, holding}

pub first-kept : (k : List ℕ) (len : ℕ) → len ≤ length k → copied k len (replicate (length k - len) 0) ≡ only_first k len
unfolding only_first
first-kept k len h =
    let z : List ℕ = replicate (length k - len) 0 in
    let l : length z ≡ length k - len = length-replicate (length k - len) 0 in
    let none : drop (len + length z) k ≡ [] = drop_of_length-le k {i = len + length z} (omega (arith, l)) in
    copied-fits k len z (omega (arith, l)) ∙ ap (λ (y : List ℕ). take len k ++ (z ++ y)) none ∙ ap (λ (y : List ℕ). take len k ++ y) (append-nil z)
    ∙ sym (rw (le-leb len (length k) h))

pub held_kept : (k bs : List ℕ) → only_first (copied k 0 bs) (length bs) ≡ holding k bs
unfolding only_first holding
held_kept k bs = go (leb (length bs) (length k)) refl
  where
    go : (b : Bool) → leb (length bs) (length k) ≡ b → only_first (copied k 0 bs) (length bs) ≡ holding k bs
    go true e =
        let h = leb-true (length bs) (length k) e in
        let c = copied-start k bs h in
        let l = length-copied k 0 bs in
        let t : take (length bs) (copied k 0 bs) ≡ bs = ap (take (length bs)) c ∙ take_at bs (drop (length bs) k) (length bs) refl in
        rw (l, e, t)
    go false e =
        let h = leb-false (length bs) (length k) e in
        let c : copied k 0 bs ≡ k = copied-not k 0 bs (omega arith) in
        rw (c, e)
