-- The check over codes answers as the definitions over whole numbers.
-- Assumes nothing.
use mathlib.Core.Path.{◌≡◌, refl, sym, ap, ap₂, ◌∙◌}
use mathlib.Core.Bool.{Bool, true, false, cond, not, ◌&&◌, ◌||◌}
use mathlib.Core.List.{List, [], ◌∷◌, map}
use Prim.Native.Nat.{ℕ, zero, suc, ◌+◌, ◌*◌, ◌/◌, ◌%◌, ◌<◌, ◌≤◌}
use native.Mathlib.Omega.{arith}
use native.Mathlib.Nat.{mod-eq_of_lt, mul-add, add-mul, mul_assoc, mul_comm, mul_left_comm}
use borrow.Author.Tests.{eqb-true}
use lib.Dec.{eqb}
use lib.IntN.{ℤ, pos, negsuc, neg_ℤ, sub_ℕ, nat_abs, ◌+ℤ◌, ◌-ℤ◌, ◌*ℤ◌}
use lib.ListN.{length, length-map}
use Rattle.text.specs.Run.{all, run_of}
use Rattle.text.proofs.Bools.{and_both, not-holds}
use Rattle.symmetry_operators.specs.Operator.{Part, Row, residue, dot, after, product, minor, determinant, identity, eq_z, same, fine, turns}
use Rattle.symmetry_operators.specs.Lists.{has, distinct, with_each, pairs_with}
use Rattle.symmetry_operators.specs.Check.{row_from, rows_from, closes, pairs, closing, judged, outcome}
use Rattle.symmetry_operators.specs.Residues.{reduced, scaled, residues_part, residues, dot_n, after_n, product_n, det_n, turns_n, part_word, packed, code_row, word_after, product_code, code, turning, closes_code, run_pairs, identity_code, closed_by, closed_n, codes_of, judged_n}
use Rattle.symmetry_operators.proofs.Residue.{Factor, minus, nought, one, reduced-small, mod-by, congruent, residue-below, scaled-residue}
use Rattle.symmetry_operators.proofs.Modulo.{part-path, row-path, strip-right}
use Rattle.symmetry_operators.proofs.Pigeon.{by_cases}
use Rattle.symmetry_operators.proofs.Runs.{run, run-append, all-run, looked-run, length-with, length_pairs}
use Rattle.symmetry_operators.proofs.Cut.{length_cut}
use Rattle.symmetry_operators.proofs.Rows.{FinePart, Fine, fine-row, same-is, same_self, eq_z-is, eq_z-self, product-residues, determinant-is}

-- ---- numbers near zero are known by their reduceds
pub record Near (n : ℕ) (z : ℤ) : Type 0 where
  pub near : nat_abs z ≤ n

near_sub : (a b m n : ℕ) → a ≤ m → b ≤ n → nat_abs (sub_ℕ a b) ≤ m + n
near_sub a b m n h k = go (lib.Dec.ltb a b) refl
  where
    go : (t : Bool) → lib.Dec.ltb a b ≡ t → nat_abs (sub_ℕ a b) ≤ m + n
    go true e = rw e (omega (arith, borrow.Author.Tests.ltb-true a b e))
    go false e = rw e (omega arith)

near_add : {y z : ℤ} {m n : ℕ} → Near m y → Near n z → Near (m + n) (y +ℤ z)
near_add {y = pos a} {z = pos b} h k = record { near = omega arith }
near_add {y = pos a} {z = negsuc b} {m} {n} h k = record { near = near_sub a (suc b) m n h.near k.near }
near_add {y = negsuc a} {z = pos b} {m} {n} h k = record { near = omega (arith, near_sub b (suc a) n m k.near h.near) }
near_add {y = negsuc a} {z = negsuc b} h k = record { near = omega arith }

near-neg : {z : ℤ} {n : ℕ} → Near n z → Near n (neg_ℤ z)
near-neg {z = pos zero} h = record { near = h.near }
near-neg {z = pos (suc a)} h = record { near = h.near }
near-neg {z = negsuc a} h = record { near = h.near }

near-minus : {y z : ℤ} {m n : ℕ} → Near m y → Near n z → Near (m + n) (y -ℤ z)
near-minus h k = near_add h (near-neg k)

near_times : {a : ℤ} → Factor a → {z : ℤ} {n : ℕ} → Near n z → Near n (a *ℤ z)
near_times minus {z = pos b} h = near-neg {z = pos (1 * b)} (record { near = omega arith })
near_times minus {z = negsuc b} h = record { near = omega arith }
near_times nought {z = pos b} h = record { near = omega arith }
near_times nought {z = negsuc b} h = near-neg {z = pos (0 * suc b)} (record { near = omega arith })
near_times one {z = pos b} h = record { near = omega arith }
near_times one {z = negsuc b} h = near-neg {z = pos (1 * suc b)} (record { near = omega arith })

near-factor : {a : ℤ} → Factor a → Near 1 a
near-factor minus = record { near = omega arith }
near-factor nought = record { near = omega arith }
near-factor one = record { near = omega arith }

near_same : {y z : ℤ} → Near 10 y → Near 10 z → reduced y ≡ reduced z → y ≡ z
near_same {y = pos a} {z = pos b} h k e = ap pos (sym (mod-eq_of_lt (omega arith)) ∙ e ∙ mod-eq_of_lt (omega arith))
near_same {y = pos a} {z = negsuc b} h k e = absurd
    (let p : a % 12288 ≡ a = mod-eq_of_lt (omega arith) in let q : b % 12288 ≡ b = mod-eq_of_lt (omega arith) in omega arith)
near_same {y = negsuc a} {z = pos b} h k e = absurd
    (let p : a % 12288 ≡ a = mod-eq_of_lt (omega arith) in let q : b % 12288 ≡ b = mod-eq_of_lt (omega arith) in omega arith)
near_same {y = negsuc a} {z = negsuc b} h k e = ap negsuc
    (let p : a % 12288 ≡ a = mod-eq_of_lt (omega arith) in let q : b % 12288 ≡ b = mod-eq_of_lt (omega arith) in omega arith)

more : {z : ℤ} {m n : ℕ} → Near m z → m ≤ n → Near n z
more h k = record { near = omega arith }

-- ---- the determinant
minor-near : {a b c d : ℤ} → Factor a → Factor b → Factor c → Factor d → Near 2 (minor a b c d)
minor-near f g h k = near-minus (near_times f (near-factor k)) (near_times g (near-factor h))

determinant-near : {r : Row ℤ} → Fine r → Near 6 (determinant r)
unfolding determinant
determinant-near f =
    let p = f.first in
    let q = f.second in
    let s = f.third in
    near_add (near-minus (near_times p.at_x (minor-near q.at_y q.at-z s.at_y s.at-z))
    (near_times p.at_y (minor-near q.at_x q.at-z s.at_x s.at-z)))
    (near_times p.at-z (minor-near q.at_x q.at_y s.at_x s.at_y))

test-same : (y z : ℤ) (n : ℕ) → Near 10 y → Near 10 z → reduced y ≡ n % 12288 → eq_z y z ≡ eqb (n % 12288) (reduced z)
test-same y z n h k e = by_cases (eqb (n % 12288) (reduced z))
    (λ t. ap (eq_z y) (sym (near_same h k (e ∙ eqb-true _ _ t))) ∙ eq_z-self y ∙ sym t)
    (λ t. not-holds (eq_z y z) (λ q. borrow.Author.Tests.eqb-false (n % 12288) (reduced z) t (sym e ∙ ap reduced (eq_z-is y z q))) ∙ sym t)

pub turns-residues : {r : Row ℤ} → Fine r → turns r ≡ turns_n (residues r)
unfolding turns turns_n
turns-residues {r} f =
    let d = more {n = 10} (determinant-near f) (omega arith) in
    let e = (determinant-is f).is in
    ap₂ ◌||◌ (test-same (determinant r) (pos 1) (det_n (residues r)) d (record { near = omega arith }) e)
    (test-same (determinant r) (negsuc 0) (det_n (residues r)) d (record { near = omega arith }) e)

pub all-turns : (l : List (Row ℤ)) → all fine l ≡ true → all turns l ≡ all turning l
unfolding all
all-turns [] h = refl
all-turns (r ∷ l) h = let b = and_both (fine r) _ h in ap₂ ◌&&◌ (turns-residues (fine-row r b.0)) (all-turns l b.1)

-- ---- rows that may be a product of two: factors from −3 to 3
pub record NearPart (p : Part ℤ) : Type 0 where
  pub at_x : Near 3 p.x
  pub at_y : Near 3 p.y
  pub at-z : Near 3 p.z
  pub at-t : p.t ≡ pos (residue p.t)

pub record NearRow (r : Row ℤ) : Type 0 where
  pub first : NearPart r.first
  pub second : NearPart r.second
  pub third : NearPart r.third

near-3 : {a : ℤ} → Factor a → Near 3 a
near-3 f = more (near-factor f) (omega arith)

fine-near-part : {p : Part ℤ} → FinePart p → NearPart p
fine-near-part f = record { at_x = near-3 f.at_x; at_y = near-3 f.at_y; at-z = near-3 f.at-z; at-t = f.at-t }

pub fine-near : {r : Row ℤ} → Fine r → NearRow r
fine-near f = record { first = fine-near-part f.first; second = fine-near-part f.second; third = fine-near-part f.third }

dot-near : {p : Part ℤ} → FinePart p → {a b c : ℤ} → Factor a → Factor b → Factor c → Near 3 (dot p a b c)
dot-near f g h k = near_add (near_add (near_times f.at_x (near-factor g)) (near_times f.at_y (near-factor h)))
    (near_times f.at-z (near-factor k))

after-near : {p : Part ℤ} → FinePart p → {s : Row ℤ} → Fine s → NearPart (after p s)
unfolding after
after-near {p} f {s} g = record {
  at_x = dot-near f g.first.at_x g.second.at_x g.third.at_x;
  at_y = dot-near f g.first.at_y g.second.at_y g.third.at_y;
  at-z = dot-near f g.first.at-z g.second.at-z g.third.at-z;
  at-t = ap pos (sym (mod-eq_of_lt (residue-below (dot p s.first.t s.second.t s.third.t +ℤ p.t))));
}

pub product-near : {r s : Row ℤ} → Fine r → Fine s → NearRow (product r s)
unfolding product
product-near f g = record { first = after-near f.first g; second = after-near f.second g; third = after-near f.third g }

-- ---- a word tells its part: each number raised by 3 is a digit below 8
raised : ℤ → ℕ
raised z = (reduced z + 3) % 12288

raised-small : {z : ℤ} → Near 3 z → raised z < 8
unfolding raised
raised-small {z = pos a} h = let k = h.near in omega arith
raised-small {z = negsuc a} h = let k = h.near in omega arith

raised-same : {y z : ℤ} → Near 3 y → Near 3 z → raised y ≡ raised z → y ≡ z
unfolding raised
raised-same {y} {z} h k e = near_same (more h (omega arith)) (more k (omega arith)) (go (reduced y) (reduced z) (reduced-small y) (reduced-small z) e)
  where
    go : (m n : ℕ) → m < 12288 → n < 12288 → (m + 3) % 12288 ≡ (n + 3) % 12288 → m ≡ n
    go m n h k e = omega arith

raised-word : (x y z t : ℕ) → (x + 3) % 12288 < 8 → (y + 3) % 12288 < 8 → (z + 3) % 12288 < 8 → t ≤ 11776
    → ((x + 8 * y + 64 * z + t) % 12288 + 219) % 12288 ≡ (x + 3) % 12288 + 8 * ((y + 3) % 12288) + 64 * ((z + 3) % 12288) + t
raised-word x y z t h k l m =
    mod-by ((x + 8 * y + 64 * z + t) % 12288 + 219) ((x + 3) % 12288 + 8 * ((y + 3) % 12288) + 64 * ((z + 3) % 12288) + t)
    ((x + 8 * y + 64 * z + t) / 12288) ((x + 3) / 12288 + 8 * ((y + 3) / 12288) + 64 * ((z + 3) / 12288)) (omega arith)
    ∙ mod-eq_of_lt (omega arith)

digit : (a b m n : ℕ) → a < 8 → b < 8 → a + 8 * m ≡ b + 8 * n → (a ≡ b) × (m ≡ n)
digit a b m n h k e = let q : m ≡ n = omega arith in (omega arith, q)

scaled-most : (z : ℤ) → scaled z ≤ 11776
scaled-most z = let h = residue-below z in let e = scaled-residue z in omega arith

part-value : {p : Part ℤ} → NearPart p
    → (part_word (residues_part p) + 219) % 12288 ≡ raised p.x + 8 * raised p.y + 64 * raised p.z + scaled p.t
unfolding raised
part-value {p} f = raised-word (reduced p.x) (reduced p.y) (reduced p.z) (scaled p.t) (raised-small f.at_x) (raised-small f.at_y)
    (raised-small f.at-z) (scaled-most p.t)

digits : (a b c m a' b' c' m' : ℕ) → a < 8 → b < 8 → c < 8 → a' < 8 → b' < 8 → c' < 8
    → a + 8 * b + 64 * c + 512 * m ≡ a' + 8 * b' + 64 * c' + 512 * m'
    → (a ≡ a') × (b ≡ b') × (c ≡ c') × (m ≡ m')
digits a b c m a' b' c' m' h i j h' i' j' e =
    let x = digit a a' (b + 8 * (c + 8 * m)) (b' + 8 * (c' + 8 * m')) h h' (omega arith) in
    let y = digit b b' (c + 8 * m) (c' + 8 * m') i i' x.1 in
    let z = digit c c' m m' j j' y.1 in
    (x.0, y.0, z.0, z.1)

word-known : {p q : Part ℤ} → NearPart p → NearPart q → part_word (residues_part p) ≡ part_word (residues_part q) → p ≡ q
word-known {p} {q} f g e =
    let s = scaled-residue p.t in
    let s' = scaled-residue q.t in
    let v = part-value f in
    let v' = part-value g in
    let same : (part_word (residues_part p) + 219) % 12288 ≡ (part_word (residues_part q) + 219) % 12288 = ap (λ (n : ℕ). (n + 219) % 12288) e in
    let d = digits (raised p.x) (raised p.y) (raised p.z) (residue p.t) (raised q.x) (raised q.y) (raised q.z) (residue q.t)
    (raised-small f.at_x) (raised-small f.at_y) (raised-small f.at-z) (raised-small g.at_x) (raised-small g.at_y)
    (raised-small g.at-z)
    (ap (λ (n : ℕ). raised p.x + 8 * raised p.y + 64 * raised p.z + n) (sym s) ∙ sym v ∙ same ∙ v'
    ∙ ap (λ (n : ℕ). raised q.x + 8 * raised q.y + 64 * raised q.z + n) s') in
    part-path (raised-same f.at_x g.at_x d.0) (raised-same f.at_y g.at_y d.1) (raised-same f.at-z g.at-z d.2)
    (f.at-t ∙ ap pos d.3 ∙ sym g.at-t)

-- ---- codes
word_small : (p : Part ℕ) → part_word p < 65536
word_small p = omega arith

packed-known : (a b c a' b' c' : ℕ) → b < 65536 → c < 65536 → b' < 65536 → c' < 65536 → packed a b c ≡ packed a' b' c'
    → (a ≡ a') × (b ≡ b') × (c ≡ c')
packed-known a b c a' b' c' h i h' i' e =
    let x : a * 65536 + b ≡ a' * 65536 + b' = omega arith in
    let y : a ≡ a' = omega arith in
    (y, omega arith, omega arith)

code-known : {r s : Row ℤ} → NearRow r → NearRow s → code r ≡ code s → r ≡ s
unfolding code_row
code-known {r} {s} f g e =
    let w = residues r in
    let v = residues s in
    let k = packed-known (part_word w.first) (part_word w.second) (part_word w.third) (part_word v.first) (part_word v.second) (part_word v.third)
    (word_small w.second) (word_small w.third) (word_small v.second) (word_small v.third) e in
    row-path (word-known f.first g.first k.0) (word-known f.second g.second k.1) (word-known f.third g.third k.2)

pub same_code : {r s : Row ℤ} → NearRow r → NearRow s → same r s ≡ eqb (code r) (code s)
same_code {r} {s} f g = by_cases (eqb (code r) (code s))
    (λ t. ap (same r) (sym (code-known f g (eqb-true _ _ t))) ∙ same_self r ∙ sym t)
    (λ t. not-holds (same r s) (λ q. borrow.Author.Tests.eqb-false (code r) (code s) t (ap code (same-is r s q))) ∙ sym t)

pub has_code : (l : List (Row ℤ)) → all fine l ≡ true → {r : Row ℤ} → NearRow r → has same l r ≡ has eqb (map code l) (code r)
unfolding all
has_code [] h f = refl
has_code (s ∷ l) h f = let b = and_both (fine s) _ h in ap₂ ◌||◌ (same_code f (fine-near (fine-row s b.0))) (has_code l b.1 f)

pub distinct-code : (l : List (Row ℤ)) → all fine l ≡ true → distinct same l ≡ distinct eqb (map code l)
unfolding all
distinct-code [] h = refl
distinct-code (s ∷ l) h =
    let b = and_both (fine s) _ h in
    ap₂ ◌&&◌ (ap not (has_code l b.1 (fine-near (fine-row s b.0)))) (distinct-code l b.1)

-- ---- the code of a product, from the words of the second
spread : (x y z t a b c d e f g h i j k l : ℕ)
    → (x * a + y * b + z * c) + 8 * (x * d + y * e + z * f) + 64 * (x * g + y * h + z * i) + (x * j + y * k + z * l + t)
    ≡ x * (a + 8 * d + 64 * g + j) + y * (b + 8 * e + 64 * h + k) + z * (c + 8 * f + 64 * i + l) + t
spread x y z t a b c d e f g h i j k l = simp (mul-add, add-mul, mul_assoc, mul_comm, mul_left_comm) (omega arith)

strip : (a b c d : ℕ) → (a % 12288 + 8 * (b % 12288) + 64 * (c % 12288) + d % 12288) % 12288 ≡ (a + 8 * b + 64 * c + d) % 12288
strip a b c d =
    mod-by (a % 12288 + 8 * (b % 12288) + 64 * (c % 12288) + d % 12288) (a + 8 * b + 64 * c + d)
    (a / 12288 + 8 * (b / 12288) + 64 * (c / 12288) + d / 12288) 0 (omega arith)

word-after : (p : Part ℕ) (s : Row ℕ) → part_word (after_n p s) ≡ word_after p (part_word s.first) (part_word s.second) (part_word s.third)
unfolding after_n
word-after p s =
    let q = s.first in
    let r = s.second in
    let u = s.third in
    strip (dot_n p q.x r.x u.x) (dot_n p q.y r.y u.y) (dot_n p q.z r.z u.z) (dot_n p q.t r.t u.t + p.t)
    ∙ ap (λ (n : ℕ). n % 12288)
    (spread p.x p.y p.z p.t q.x r.x u.x q.y r.y u.y q.z r.z u.z q.t r.t u.t)
    ∙ sym (congruent _ p.t _ p.t
    (strip-right (q.x + 8 * q.y + 64 * q.z + q.t) (r.x + 8 * r.y + 64 * r.z + r.t) (u.x + 8 * u.y + 64 * u.z + u.t) p.x p.y
    p.z) refl)

-- a code's three words
unpacked : (a b c : ℕ) → a < 65536 → b < 65536 → c < 65536
    → (packed a b c / 4294967296 % 65536 ≡ a) × (packed a b c / 65536 % 65536 ≡ b) × (packed a b c % 65536 ≡ c)
unpacked a b c h i j =
    let e : packed a b c / 65536 ≡ a * 65536 + b = omega arith in
    let f : packed a b c / 4294967296 ≡ a = omega arith in
    (ap (λ (n : ℕ). n % 65536) f ∙ mod-eq_of_lt h, ap (λ (n : ℕ). n % 65536) e ∙ omega arith, omega arith)

pub times-code : (r s : Row ℕ) → code_row (product_n r s) ≡ product_code r (code_row s)
unfolding code_row product_n product_code
times-code r s =
    let u = unpacked (part_word s.first) (part_word s.second) (part_word s.third) (word_small s.first) (word_small s.second) (word_small s.third)
    in
    (λ i. packed (word-after r.first s i) (word-after r.second s i) (word-after r.third s i))
    ∙ sym (λ i. packed (word_after r.first (u.0 i) (u.1 i) (u.2 i)) (word_after r.second (u.0 i) (u.1 i) (u.2 i))
    (word_after r.third (u.0 i) (u.1 i) (u.2 i)))

-- ---- the pairs
module _ (l : List (Row ℤ)) (h : all fine l ≡ true) where
  closes-code : {r s : Row ℤ} → Fine r → Fine s → closes l (r, s) ≡ closes_code (map code l) (residues r) (code s)
  closes-code {r} {s} f g = has_code l h (product-near f g)
      ∙ ap (has eqb (map code l)) (ap code_row (product-residues f s) ∙ times-code (residues r) (residues s))

  run-with : {r : Row ℤ} → Fine r → (m : List (Row ℤ)) → all fine m ≡ true
      → run (closes l) (with_each r m) ≡ run_of (closes_code (map code l) (residues r)) (map code m)
  unfolding all run_of
  run-with f [] k = refl
  run-with f (s ∷ m) k = let b = and_both (fine s) _ k in ap₂ (λ t n. cond t (suc n) 0) (closes-code f (fine-row s b.0)) (run-with f m b.1)

  run-pairs : (k : List (Row ℤ)) → all fine k ≡ true → run (closes l) (pairs_with k l) ≡ run_pairs (map code l) k
  unfolding all
  run-pairs [] i = refl
  run-pairs (r ∷ k) i =
      let b = and_both (fine r) _ i in
      let found = run-with (fine-row r b.0) l h in
      let size : length (with_each r l) ≡ length (map code l) = length-with r l ∙ sym (length-map l code) in
      run-append (closes l) (with_each r l) (pairs_with k l)
      ∙ ap (λ (t : Bool). cond t (length (with_each r l) + run (closes l) (pairs_with k l)) (run (closes l) (with_each r l)))
      (all-run (closes l) (with_each r l))
      ∙ (λ x. cond (eqb (found x) (size x)) (size x + run-pairs k b.1 x) (found x))

-- ---- the whole check
closing-run : (l : List (Row ℤ)) → closing l ≡ closed_by (run (closes l) (pairs l)) (length l * length l)
unfolding closing
closing-run l =
    ap (λ (n : ℕ). outcome (cond (all (closes l) (pairs l)) 0 17) n) (looked-run (closes l) (pairs l))
    ∙ ap (λ (t : Bool). outcome (cond t 0 17) (cond t (length (pairs l)) (suc (run (closes l) (pairs l))))) (all-run (closes l) (pairs l))
    ∙ go (eqb (run (closes l) (pairs l)) (length (pairs l))) (length (pairs l)) (suc (run (closes l) (pairs l)))
    ∙ ap (closed_by (run (closes l) (pairs l))) (length_pairs l l)
  where
    go : (t : Bool) (m n : ℕ) → outcome (cond t 0 17) (cond t m n) ≡ cond t (outcome 0 m) (outcome 17 n)
    go true m n = refl
    go false m n = refl

near-pos : {n : ℕ} → n ≤ 3 → Near 3 (pos n)
near-pos h = record { near = h }

identity-near : NearRow identity
unfolding identity
identity-near = record {
  first = record { at_x = near-pos (omega arith); at_y = near-pos (omega arith); at-z = near-pos (omega arith); at-t = refl };
  second = record { at_x = near-pos (omega arith); at_y = near-pos (omega arith); at-z = near-pos (omega arith); at-t = refl };
  third = record { at_x = near-pos (omega arith); at_y = near-pos (omega arith); at-z = near-pos (omega arith); at-t = refl };
}

identity-code : code identity ≡ identity_code
unfolding identity code_row
identity-code = refl

pub judged-codes : (n : ℕ) (m : List ℤ) → all fine (rows_from n m) ≡ true → judged (rows_from n m) ≡ judged_n n m
unfolding judged judged_n closed_n
judged-codes n m h =
    let l = rows_from n m in
    let there : has same l identity ≡ has eqb (codes_of n m) identity_code = has_code l h identity-near ∙ ap (has eqb (codes_of n m)) identity-code in
    let found = run-pairs l h l h in
    let size : length l ≡ n = length_cut row_from n m in
    (λ i. cond (all-turns l h i) (cond (there i) (cond (distinct-code l h i) (closing-run l i) (outcome 16 0)) (outcome 15 0)) (outcome 14 0))
    ∙ (λ i. cond (all turning l) (cond (has eqb (codes_of n m) identity_code)
    (cond (distinct eqb (codes_of n m)) (closed_by (found i) (size i * size i)) (outcome 16 0)) (outcome 15 0)) (outcome 14 0))
