-- A line is split exactly as document 01's words say: name, spaces and value, in one way only.
-- Assumes nothing.
use Rattle.std.specs.Prelude.{None}
use mathlib.Core.Path.{◌≡◌, refl, sym, ap, ◌∙◌}
use mathlib.Core.Bool.{true}
use mathlib.Core.List.{List, [], ◌∷◌, ◌++◌}
use Prim.Native.Nat.{ℕ, zero, suc, ◌+◌, ◌≤◌}
use native.Mathlib.Nat.{not-suc-le-zero}
use native.Mathlib.Omega.{arith}
use borrow.Author.Tests.{le-leb}
use lib.ListN.{length, take, drop, replicate, length-append, length-replicate, take-append-drop, get_or-append}
use lib.Seq.{take-append_seam, drop-append_seam, drop-append-add, drop-drop, drop_at}
use Rattle.text.specs.Run.{run_of, all, between, other, has_at}
use Rattle.text.proofs.Runs.{run-append, run-taken, run_length, has_here, has_within, has-byte, all_replicate, all_same}
use Rattle.line_reader.specs.Line.{name_end, value_start, parts_at, split_of}
use Rattle.line_values.specs.Wording.{ValueText}
use Rattle.line_reader.specs.Wording.{IsLine}
use Rattle.line_reader.proofs.Splits.{parts-same, split-is}
use Rattle.line_values.proofs.Values.{value-is, value_taken, value-first}

-- the name ends after its first byte
name-begins : (t : List ℕ) → has_at t 0 95 ≡ true → has_at (take (name_end t) t) 0 95 ≡ true
unfolding run_of other
name-begins [] h = h
name-begins (b ∷ bs) h = let at : b ≡ 95 = has-byte (b ∷ bs) 0 95 h in rw at (has_here (95 ∷ take (run_of (other 32) bs) bs) 0 95 (omega arith) refl)

module _ (t : List ℕ) where
  abbrev spaces_of : ℕ
  spaces_of = run_of (between 32 32) (drop (name_end t) t)

  spaces-are : take spaces_of (drop (name_end t) t) ≡ replicate spaces_of 32
  spaces-are =
      let s = drop (name_end t) t in
      all_same 32 (take spaces_of s) (run-taken (between 32 32) s) ∙ ap (λ (n : ℕ). replicate n 32) (run_length (between 32 32) s)

  text-is : t ≡ take (name_end t) t ++ (replicate spaces_of 32 ++ drop (value_start t) t)
  text-is =
      let n = name_end t in
      let s = drop n t in
      sym (take-append-drop n t)
      ∙ ap (λ (l : List ℕ). take n t ++ l) (sym (take-append-drop spaces_of s) ∙ rw (spaces-are, drop-drop spaces_of n t))

-- a line that is split is of the form, with those parts
pub line-is : (t : List ℕ) (n v : ℕ) → split_of t ≡ parts_at n v → IsLine t (take n t) (drop v t)
line-is t n v e =
    let h = split-is t n v e in
    rw (h.name-end, h.value-start)
    (record {
      spaces = spaces_of t;
      text = text-is t;
      first = name-begins t h.first;
      no_spaces = run-taken (other 32) t;
      some = h.spaces;
      is_value = value-is (drop (value_start t) t) h.value;
    })

-- a name ends where spaces begin
name-stops : (k : ℕ) (value : List ℕ) → 1 ≤ k → run_of (other 32) (replicate k 32 ++ value) ≡ 0
unfolding run_of other
name-stops zero value h = absurd (not-suc-le-zero h)
name-stops (suc k) value h = refl

module _ (name value : List ℕ) (k : ℕ) where
  abbrev line : List ℕ
  line = name ++ (replicate k 32 ++ value)

  value_there : drop (length name + k) line ≡ value
  value_there = drop-append-add name (replicate k 32 ++ value) k ∙ drop_at (replicate k 32) value k (length-replicate k 32)

  module _ (first : has_at name 0 95 ≡ true) (no_spaces : all (other 32) name ≡ true) (some : 1 ≤ k) (v : ValueText value) where
    name-ends : name_end line ≡ length name
    name-ends = run-append (other 32) name (replicate k 32 ++ value) no_spaces (name-stops k value some)

    spaces-end : spaces_of line ≡ k
    unfolding between
    spaces-end =
        rw (name-ends, drop-append_seam name (replicate k 32 ++ value))
        (run-append (between 32 32) (replicate k 32) value (all_replicate (between 32 32) k 32 refl) (value-first value v) ∙ length-replicate k 32)

    line-begins : has_at line 0 95 ≡ true
    line-begins =
        let l = has_within name 0 95 first in
        has_here line 0 95 (omega (arith, length-append name (replicate k 32 ++ value))) (get_or-append name (replicate k 32 ++ value) 0 0 l ∙ has-byte name 0 95 first)

    line-split : split_of line ≡ parts_at (length name) (length name + k)
    unfolding split_of
    line-split = rw (spaces-end, name-ends, value_there, line-begins, le-leb 1 k some, value_taken value v)

-- a line of the form is split into its parts
pub line_taken : (t name value : List ℕ) (h : IsLine t name value) → split_of t ≡ parts_at (length name) (length name + h.spaces)
line_taken t name value h = ap split_of h.text ∙ line-split name value h.spaces h.first h.no_spaces h.some h.is_value

-- and what stands at those places are its parts
pub name-at : (t name value : List ℕ) → IsLine t name value → take (length name) t ≡ name
name-at t name value h = ap (take (length name)) h.text ∙ take-append_seam name (replicate h.spaces 32 ++ value)

pub value-at : (t name value : List ℕ) (h : IsLine t name value) → drop (length name + h.spaces) t ≡ value
value-at t name value h = ap (drop (length name + h.spaces)) h.text ∙ value_there name value h.spaces

-- a line has one name and one value
pub one_line : (t name value name' value' : List ℕ) → IsLine t name value → IsLine t name' value' → (name ≡ name') × (value ≡ value')
one_line t name value name' value' g h =
    let p = line_taken t name value g in
    let q = line_taken t name' value' h in
    let a = name-at t name value g in
    let b = name-at t name' value' h in
    let c = value-at t name value g in
    let d = value-at t name' value' h in
    let at = parts-same _ _ _ _ (sym p ∙ q) in
    (cc (at.0), cc (at.1))

-- a malformed line is of the form in no way
pub no_line : (t : List ℕ) → split_of t ≡ None → (name value : List ℕ) → IsLine t name value → ⊥
no_line t e name value h = let p = line_taken t name value h in let z : ◌≡◌ {A = ℕ} 0 1 = cc in omega arith
