-- Two texts are the same when what they end in and what they begin with are the same, where the two parts reach each other. Each name is so long that its parts do.
-- Assumes nothing.
use mathlib.Core.Path.{◌≡◌, refl, sym}
use mathlib.Core.Bool.{Bool, true, false, ◌&&◌, and-true, and-false}
use mathlib.Core.List.{List, [], ◌∷◌}
use Prim.Native.Nat.{ℕ, zero, suc, ◌-◌, ◌≤◌}
use native.Mathlib.Nat.{le_of_suc-le-suc, not-suc-le-zero}
use native.Mathlib.Omega.{arith}
use borrow.Author.Tests.{leb-true}
use lib.Dec.{eqb, leb}
use lib.ListN.{length, get_or, take, drop}
use Rattle.std.proofs.lemmas.List.{take_rest}
use Rattle.text.proofs.Tables.{agree}
use Rattle.text_equality.specs.Same.{same_by}
use Rattle.line_items.specs.Items.{items, item_count, no_row, name_of}
use Rattle.line_items.proofs.NameTable.{name-of, name-short}

-- two joined tests, the second of which is joined in the first
beside : (e s d t : Bool) → s ≡ (d && t) → (e && s) ≡ (d && (e && t))
beside true s d t h = h
beside false s d t h = sym (and-false d)

within : (e s t : Bool) → s ≡ (s && t) → (e && s) ≡ ((e && s) && (e && t))
within true s t h = h
within false s t h = refl

-- texts that are the same begin with the same
begins : (f : ℕ → ℕ) (p : ℕ) (a b : List ℕ) → same_by f a b ≡ (same_by f a b && same_by f (take p a) (take p b))
unfolding same_by
begins f zero a b = sym (and-true (same_by f a b))
begins f (suc p) [] [] = refl
begins f (suc p) [] (y ∷ ys) = refl
begins f (suc p) (x ∷ xs) [] = refl
begins f (suc p) (x ∷ xs) (y ∷ ys) = within (eqb (f x) (f y)) (same_by f xs ys) (same_by f (take p xs) (take p ys)) (begins f p xs ys)

parts : (f : ℕ → ℕ) (m p : ℕ) → m ≤ p → (a b : List ℕ)
    → same_by f a b ≡ (same_by f (drop m a) (drop m b) && same_by f (take p a) (take p b))
unfolding same_by
parts f zero p h a b = begins f p a b
parts f (suc m) zero h a b = absurd (not-suc-le-zero h)
parts f (suc m) (suc p) h [] [] = refl
parts f (suc m) (suc p) h [] (y ∷ ys) = sym (and-false (same_by f [] (drop m ys)))
parts f (suc m) (suc p) h (x ∷ xs) [] = sym (and-false (same_by f (drop m xs) []))
parts f (suc m) (suc p) h (x ∷ xs) (y ∷ ys) =
    beside (eqb (f x) (f y)) (same_by f xs ys) (same_by f (drop m xs) (drop m ys)) (same_by f (take p xs) (take p ys)) (parts f m p (le_of_suc-le-suc h) xs ys)

-- the first byte apart from those after it
swap : (e s : Bool) → (e && s) ≡ (s && (e && true))
swap true s = sym (and-true s)
swap false s = sym (and-false s)

first-apart : (f : ℕ → ℕ) (p : ℕ) (a b : List ℕ)
    → same_by f (take (suc p) a) (take (suc p) b) ≡ (same_by f (take p (drop 1 a)) (take p (drop 1 b)) && same_by f (take 1 a) (take 1 b))
unfolding same_by
first-apart f zero [] [] = refl
first-apart f (suc p) [] [] = refl
first-apart f p [] (y ∷ ys) = sym (and-false (same_by f (take p []) (take p ys)))
first-apart f p (x ∷ xs) [] = sym (and-false (same_by f (take p xs) (take p [])))
first-apart f p (x ∷ xs) (y ∷ ys) = swap (eqb (f x) (f y)) (same_by f (take p xs) (take p ys))

-- the same of parts as they are lent: the last, those after the first byte, and the first
pub lent_parts : (f : ℕ → ℕ) (m p : ℕ) → m ≤ suc p → (a b : List ℕ)
    → same_by f a b ≡ (same_by f (take (length a - m) (drop m a)) (take (length b - m) (drop m b)) && (same_by f (take p (drop 1 a)) (take p (drop 1 b)) && same_by f (take 1 a) (take 1 b)))
lent_parts f m p h a b = rw (take_rest a m, take_rest b m, ← first-apart f p a b) (parts f m (suc p) h a b)

name-long : (item : ℕ) → 1 ≤ item → item ≤ item_count → 17 ≤ length (name_of item)
unfolding items
name-long item some known =
    let e = agree (λ (j : ℕ). leb 17 (length (get_or items j no_row).name)) (λ (j : ℕ). true) true item_count refl (item - 1) (omega arith) in
    rw (name-of item some known) (leb-true _ _ e)

-- a name is longer than one part, and at most as long as two
pub name_fits : {item : ℕ} {name : List ℕ} → name ≡ name_of item → (1 ≤ item) × (item ≤ item_count) → (17 ≤ length name) × (length name ≤ 32)
name_fits {item} e there = let long = name-long item there.0 there.1 in let short = name-short item there.1 in rw e (long, omega arith)
