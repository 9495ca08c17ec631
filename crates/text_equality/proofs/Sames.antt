-- Laws of `same_by`, for every way f of seeing a byte.
-- Assumes nothing.
use mathlib.Core.Path.{◌≡◌, refl, sym, ap, ◌∙◌}
use mathlib.Core.Bool.{Bool, true, false, ◌&&◌, and-true, and-false, and_assoc, false≢true}
use mathlib.Core.List.{List, [], ◌∷◌, map, map-id}
use Prim.Native.Nat.{ℕ, suc, ◌≤◌, ◌<◌}
use native.Mathlib.Omega.{arith}
use borrow.Author.Tests.{eq-eqb, eqb-true, le-leb, lt-leb, ltb-true, ltb-false}
use lib.Dec.{eqb, ltb}
use lib.ListN.{length}
use lib.Pointwise.{pointwise}
use Rattle.std.specs.Char.{to_ascii_lowercase}
use Rattle.std.specs.List.{fold, zip}
use Rattle.text.specs.Run.{between}
use Rattle.text_equality.specs.Same.{exact, lower, same_by}
use Rattle.text.proofs.Bools.{and_both}

pub other_length : (f : ℕ → ℕ) (a b : List ℕ) → (length a ≡ length b → ⊥) → same_by f a b ≡ false
unfolding same_by
other_length f [] [] h = absurd (h refl)
other_length f [] (y ∷ ys) h = refl
other_length f (x ∷ xs) [] h = refl
other_length f (x ∷ xs) (y ∷ ys) h = rw (other_length f xs ys (λ e. h (ap suc e))) (and-false (eqb (f x) (f y)))

-- the test says what it should: the texts are equal, seen through f
pub map→same : (f : ℕ → ℕ) (a b : List ℕ) → map f a ≡ map f b → same_by f a b ≡ true
unfolding same_by
map→same f [] [] e = refl
map→same f [] (y ∷ ys) e = let z : ◌≡◌ {A = ℕ} 0 1 = cc in absurd (omega arith)
map→same f (x ∷ xs) [] e = let z : ◌≡◌ {A = ℕ} 0 1 = cc in absurd (omega arith)
map→same f (x ∷ xs) (y ∷ ys) e =
    let h : f x ≡ f y = cc in
    let t : map f xs ≡ map f ys = cc in
    rw (eq-eqb (f x) (f y) h) (map→same f xs ys t)

pub same→map : (f : ℕ → ℕ) (a b : List ℕ) → same_by f a b ≡ true → map f a ≡ map f b
unfolding same_by
same→map f [] [] e = refl
same→map f [] (y ∷ ys) e = absurd (false≢true e)
same→map f (x ∷ xs) [] e = absurd (false≢true e)
same→map f (x ∷ xs) (y ∷ ys) e =
    let k = and_both (eqb (f x) (f y)) (same_by f xs ys) e in
    let h = eqb-true (f x) (f y) k.0 in
    let r = same→map f xs ys k.1 in
    cc

-- byte for byte, they are equal
pub same-exact : (a b : List ℕ) → same_by exact a b ≡ true → a ≡ b
same-exact a b e = sym (map-id a) ∙ same→map exact a b e ∙ map-id b

-- a text is seen only through f
pub same-cong : (f : ℕ → ℕ) (s t x : List ℕ) → map f s ≡ map f t → same_by f s x ≡ same_by f t x
unfolding same_by
same-cong f [] [] x e = refl
same-cong f [] (b ∷ t) x e = let z : ◌≡◌ {A = ℕ} 0 1 = cc in absurd (omega arith)
same-cong f (a ∷ s) [] x e = let z : ◌≡◌ {A = ℕ} 0 1 = cc in absurd (omega arith)
same-cong f (a ∷ s) (b ∷ t) [] e = refl
same-cong f (a ∷ s) (b ∷ t) (y ∷ ys) e =
    let h : f a ≡ f b = cc in
    let r : map f s ≡ map f t = cc in
    let i = same-cong f s t ys r in
    ap (λ (l : ℕ). eqb l (f y) && same_by f s ys) h ∙ ap (λ (c : Bool). eqb (f b) (f y) && c) i

-- the library's test of two lists, element for element
pub same-pointwise : (a b : List ℕ) → pointwise eqb a b ≡ same_by exact a b
unfolding same_by
same-pointwise [] [] = refl
same-pointwise [] (y ∷ ys) = refl
same-pointwise (x ∷ xs) [] = refl
same-pointwise (x ∷ xs) (y ∷ ys) = ap (λ (t : Bool). eqb x y && t) (same-pointwise xs ys)

-- a fold over the pairs of two texts as long as each other joins the tests of their bytes
pub fold-same : (f : ℕ → ℕ) (so_far : Bool) (a b : List ℕ) → length a ≡ length b → fold (λ (s : Bool) (p : ℕ × ℕ). s && eqb (f p.0) (f p.1)) so_far (zip a b) ≡ (so_far && same_by f a b)
unfolding same_by
fold-same f s [] [] e = sym (and-true s)
fold-same f s [] (y ∷ ys) e = absurd (omega arith)
fold-same f s (x ∷ xs) [] e = absurd (omega arith)
fold-same f s (x ∷ xs) (y ∷ ys) e = fold-same f (s && eqb (f x) (f y)) xs ys (omega arith) ∙ and_assoc s (eqb (f x) (f y)) (same_by f xs ys)

-- the library's small letter of a byte
lower-by : (b : ℕ) (p q : Bool) → ltb b 65 ≡ p → ltb b 91 ≡ q → to_ascii_lowercase b ≡ lower b
unfolding lower between
lower-by b true q e f = simp (e, lt-leb 65 b (ltb-true b 65 e))
lower-by b false true e f = let h = ltb-true b 91 f in let k : b ≤ 90 = omega arith in simp (e, f, le-leb 65 b (ltb-false b 65 e), le-leb b 90 k)
lower-by b false false e f = let h = ltb-false b 91 f in let k : 90 < b = omega arith in simp (e, f, le-leb 65 b (ltb-false b 65 e), lt-leb b 90 k)

pub lower-is : (b : ℕ) → to_ascii_lowercase b ≡ lower b
lower-is b = lower-by b _ _ refl refl

-- two ways of seeing a byte that see the same
pub same-agree : (f g : ℕ → ℕ) → ((b : ℕ) → f b ≡ g b) → (a b : List ℕ) → same_by f a b ≡ same_by g a b
unfolding same_by
same-agree f g e [] [] = refl
same-agree f g e [] (y ∷ ys) = refl
same-agree f g e (x ∷ xs) [] = refl
same-agree f g e (x ∷ xs) (y ∷ ys) = rw (e x, e y, same-agree f g e xs ys)
