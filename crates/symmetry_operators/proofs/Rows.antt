-- Rows of whole numbers and their residues: the product's residues are the product of the residues, and rows within their ranges are known by them.
-- Assumes nothing.
use mathlib.Core.Path.{◌≡◌, refl, sym, ap, ◌∙◌}
use mathlib.Core.Bool.{true, false≢true}
use mathlib.Core.Logic.{◌⊎◌, inl, inr, ⊎_elim}
use Prim.Native.Nat.{ℕ, ◌+◌, ◌*◌, ◌/◌, ◌%◌, ◌<◌}
use native.Mathlib.Omega.{arith}
use native.Mathlib.Nat.{mod-eq_of_lt, mod-mod, mul-add, add-mul, mul_assoc, mul_comm, mul_left_comm}
use borrow.Author.Tests.{eqb-true, eq-eqb}
use lib.IntN.{ℤ, pos, negsuc, ◌+ℤ◌}
use Rattle.symmetry_operators.specs.Operator.{Part, Row, residue, dot, after, product, minor, determinant, eq_z, same_part, same, fine_part, fine, is_factor, turns}
use Rattle.text.proofs.Bools.{and_both, or-either}
use Rattle.symmetry_operators.proofs.Residue.{Is, is-own, is-add, is-minus, is-times, Factor, factor-of, factor-same, translation-of, reduced-small, mod-by, congruent, scaled-is, scaled-again, scaled_small, scaled-same}
use Rattle.symmetry_operators.specs.Residues.{reduced, scaled, residues_part, residues, dot_n, after_n, product_n, minor_n, det_n}
use Rattle.symmetry_operators.proofs.Modulo.{part-path, row-path, strip-right, column-x, column-y, column-z}

-- ---- the tests
pub eq_z-is : (y z : ℤ) → eq_z y z ≡ true → y ≡ z
eq_z-is (pos a) (pos b) e = ap pos (eqb-true a b e)
eq_z-is (pos a) (negsuc b) e = absurd (false≢true e)
eq_z-is (negsuc a) (pos b) e = absurd (false≢true e)
eq_z-is (negsuc a) (negsuc b) e = ap negsuc (eqb-true a b e)

pub eq_z-self : (z : ℤ) → eq_z z z ≡ true
eq_z-self (pos a) = eq-eqb a a refl
eq_z-self (negsuc a) = eq-eqb a a refl

part-is : (p q : Part ℤ) → same_part p q ≡ true → p ≡ q
unfolding same_part
part-is p q e =
    let e₁ = (and_both (eq_z p.x q.x) _ e).1 in
    let e₂ = (and_both (eq_z p.y q.y) _ e₁).1 in
    part-path (eq_z-is _ _ (and_both (eq_z p.x q.x) _ e).0) (eq_z-is _ _ (and_both (eq_z p.y q.y) _ e₁).0)
    (eq_z-is _ _ (and_both (eq_z p.z q.z) _ e₂).0) (eq_z-is _ _ (and_both (eq_z p.z q.z) _ e₂).1)

part-self : (p : Part ℤ) → same_part p p ≡ true
unfolding same_part
part-self p = simp (eq_z-self p.x, eq_z-self p.y, eq_z-self p.z, eq_z-self p.t)

pub same-is : (r s : Row ℤ) → same r s ≡ true → r ≡ s
unfolding same
same-is r s e =
    let e₁ = (and_both (same_part r.first s.first) _ e).1 in
    row-path (part-is _ _ (and_both (same_part r.first s.first) _ e).0) (part-is _ _ (and_both (same_part r.second s.second) _ e₁).0)
    (part-is _ _ (and_both (same_part r.second s.second) _ e₁).1)

pub same_self : (r : Row ℤ) → same r r ≡ true
unfolding same
same_self r = simp (part-self r.first, part-self r.second, part-self r.third)

-- ---- a row within its ranges
pub record FinePart (p : Part ℤ) : Type 0 where
  pub at_x : Factor p.x
  pub at_y : Factor p.y
  pub at-z : Factor p.z
  pub at-t : p.t ≡ pos (residue p.t)

pub record Fine (r : Row ℤ) : Type 0 where
  pub first : FinePart r.first
  pub second : FinePart r.second
  pub third : FinePart r.third

fine-part : (p : Part ℤ) → fine_part p ≡ true → FinePart p
unfolding fine_part
fine-part p e =
    let e₁ = (and_both (is_factor p.x) _ e).1 in
    let e₂ = (and_both (is_factor p.y) _ e₁).1 in
    record {
      at_x = factor-of _ (and_both (is_factor p.x) _ e).0;
      at_y = factor-of _ (and_both (is_factor p.y) _ e₁).0;
      at-z = factor-of _ (and_both (is_factor p.z) _ e₂).0;
      at-t = translation-of _ (and_both (is_factor p.z) _ e₂).1;
    }

pub fine-row : (r : Row ℤ) → fine r ≡ true → Fine r
unfolding fine
fine-row r e =
    let e₁ = (and_both (fine_part r.first) _ e).1 in
    record {
      first = fine-part _ (and_both (fine_part r.first) _ e).0;
      second = fine-part _ (and_both (fine_part r.second) _ e₁).0;
      third =
          fine-part _ (and_both (fine_part r.second) _ e₁).1;
    }

-- ---- residues
reduced-rest : (z : ℤ) → reduced z % 12288 ≡ reduced z
reduced-rest z = mod-eq_of_lt (reduced-small z)

-- 512 times a sum of multiples and one more, and the sum of the scaled numbers
scaled-sum : (x y z a b c d : ℕ)
    → (512 * (x * a + y * b + z * c + d)) % 12288 ≡ (x * ((512 * a) % 12288) + y * ((512 * b) % 12288) + z * ((512 * c) % 12288) + (512 * d) % 12288)
    % 12288
scaled-sum x y z a b c d =
    ap (λ (n : ℕ). n % 12288) (spread x y z a b c d)
    ∙ sym (congruent _ ((512 * d) % 12288) _ (512 * d) (strip-right (512 * a) (512 * b) (512 * c) x y z) (mod-mod (512 * d) 12288))
  where
    spread : (x y z a b c d : ℕ) → 512 * (x * a + y * b + z * c + d) ≡ x * (512 * a) + y * (512 * b) + z * (512 * c) + 512 * d
    spread x y z a b c d = simp (mul-add, add-mul, mul_assoc, mul_comm, mul_left_comm) (omega arith)

module _ {p : Part ℤ} (f : FinePart p) where
  pub dot-is : (a b c : ℤ) → Is (dot p a b c) (dot_n (residues_part p) (reduced a) (reduced b) (reduced c))
  dot-is a b c = is-add (is-add (is-times f.at_x (is-own a)) (is-times f.at_y (is-own b))) (is-times f.at-z (is-own c))

  after-residues : (s : Row ℤ) → residues_part (after p s) ≡ after_n (residues_part p) (residues s)
  unfolding after after_n
  after-residues s = part-path (dot-is s.first.x s.second.x s.third.x).is (dot-is s.first.y s.second.y s.third.y).is
      (dot-is s.first.z s.second.z s.third.z).is
      (scaled-again (dot p s.first.t s.second.t s.third.t +ℤ p.t)
      ∙ scaled-is (is-add (dot-is s.first.t s.second.t s.third.t) (is-own p.t))
      ∙ scaled-sum (reduced p.x) (reduced p.y) (reduced p.z) (reduced s.first.t) (reduced s.second.t) (reduced s.third.t)
      (reduced p.t))

pub product-residues : {r : Row ℤ} → Fine r → (s : Row ℤ) → residues (product r s) ≡ product_n (residues r) (residues s)
unfolding product product_n
product-residues f s = row-path (after-residues f.first s) (after-residues f.second s) (after-residues f.third s)

part-known : {p q : Part ℤ} → FinePart p → FinePart q → residues_part p ≡ residues_part q → p ≡ q
part-known {p} {q} f g e = part-path (factor-same f.at_x g.at_x (ap (λ p. p.x) e)) (factor-same f.at_y g.at_y (ap (λ p. p.y) e))
    (factor-same f.at-z g.at-z (ap (λ p. p.z) e))
    (f.at-t ∙ ap pos (scaled-same p.t q.t (ap (λ r. r.t) e)) ∙ sym g.at-t)

pub known : {r s : Row ℤ} → Fine r → Fine s → residues r ≡ residues s → r ≡ s
known f g e = row-path (part-known f.first g.first (ap (λ r. r.first) e)) (part-known f.second g.second (ap (λ r. r.second) e))
    (part-known f.third g.third (ap (λ r. r.third) e))

-- ---- the determinant
minor-is : {a b : ℤ} → Factor a → Factor b → (c d : ℤ) → Is (minor a b c d) (minor_n (reduced a) (reduced b) (reduced c) (reduced d))
minor-is f g c d = is-minus (is-times f (is-own d)) (is-times g (is-own c))

pub determinant-is : {r : Row ℤ} → Fine r → Is (determinant r) (det_n (residues r))
unfolding determinant
determinant-is {r} f =
    let s = r.third in
    is-add (is-minus (is-times f.first.at_x (minor-is f.second.at_y f.second.at-z s.y s.z))
    (is-times f.first.at_y (minor-is f.second.at_x f.second.at-z s.x s.z)))
    (is-times f.first.at-z (minor-is f.second.at_x f.second.at_y s.x s.y))

pub unit : {r : Row ℤ} → Fine r → turns r ≡ true → (det_n (residues r) % 12288 ≡ 1) ⊎ (det_n (residues r) % 12288 ≡ 12287)
unfolding turns
unit {r} f e = ⊎_elim (λ h. inl (sym (determinant-is f).is ∙ ap reduced (eq_z-is (determinant r) (pos 1) h)))
    (λ h. inr (sym (determinant-is f).is ∙ ap reduced (eq_z-is (determinant r) (negsuc 0) h))) (or-either _ _ e)

-- ---- cancelling on the left
less : (m n t : ℕ) → (m + t) % 12288 ≡ (n + t) % 12288 → m % 12288 ≡ n % 12288
less m n t e = mod-by m n ((n + t) / 12288) ((m + t) / 12288) (omega arith)

-- a number that is its own rest
rest-same : (m n : ℕ) → m < 12288 → n < 12288 → m % 12288 ≡ n % 12288 → m ≡ n
rest-same m n h k e = sym (mod-eq_of_lt h) ∙ e ∙ mod-eq_of_lt k

module _ (q : Row ℕ) (one : (det_n q % 12288 ≡ 1) ⊎ (det_n q % 12288 ≡ 12287)) where
  record Column (a b c a' b' c' : ℕ) : Type 0 where
    pub at_first : a ≡ a'
    pub at_second : b ≡ b'
    pub at-third : c ≡ c'

  -- a column of numbers below 12288
  record Small (a b c : ℕ) : Type 0 where
    pub below-first : a < 12288
    pub below-second : b < 12288
    pub below-third : c < 12288

  column : {a b c a' b' c' : ℕ} → Small a b c → Small a' b' c' → dot_n q.first a b c % 12288 ≡ dot_n q.first a' b' c' % 12288
      → dot_n q.second a b c % 12288 ≡ dot_n q.second a' b' c' % 12288
      → dot_n q.third a b c % 12288 ≡ dot_n q.third a' b' c' % 12288 → Column a b c a' b' c'
  column {a} {b} {c} {a'} {b'} {c'} h k d e f = record {
    at_first = rest-same a a' h.below-first k.below-first (column-x q one a b c a' b' c' d e f);
    at_second = rest-same b b' h.below-second k.below-second (column-y q one a b c a' b' c' d e f);
    at-third = rest-same c c' h.below-third k.below-third (column-z q one a b c a' b' c' d e f);
  }

  small : (a b c : ℤ) → Small (reduced a) (reduced b) (reduced c)
  small a b c = record { below-first = reduced-small a; below-second = reduced-small b; below-third = reduced-small c }

  small-scaled : (a b c : ℤ) → Small (scaled a) (scaled b) (scaled c)
  small-scaled a b c = record { below-first = scaled_small a; below-second = scaled_small b; below-third = scaled_small c }

  cancel-residues : (r s : Row ℤ) → product_n q (residues r) ≡ product_n q (residues s) → residues r ≡ residues s
  unfolding product_n after_n
  cancel-residues r s e =
      let x = column (small r.first.x r.second.x r.third.x) (small s.first.x s.second.x s.third.x) (ap (λ w. w.first.x) e)
      (ap (λ w. w.second.x) e) (ap (λ w. w.third.x) e) in
      let y = column (small r.first.y r.second.y r.third.y) (small s.first.y s.second.y s.third.y) (ap (λ w. w.first.y) e)
      (ap (λ w. w.second.y) e) (ap (λ w. w.third.y) e) in
      let z = column (small r.first.z r.second.z r.third.z) (small s.first.z s.second.z s.third.z) (ap (λ w. w.first.z) e)
      (ap (λ w. w.second.z) e) (ap (λ w. w.third.z) e) in
      let t = column (small-scaled r.first.t r.second.t r.third.t) (small-scaled s.first.t s.second.t s.third.t)
      (less _ _ q.first.t (ap (λ w. w.first.t) e)) (less _ _ q.second.t (ap (λ w. w.second.t) e))
      (less _ _ q.third.t (ap (λ w. w.third.t) e)) in
      row-path (part-path x.at_first y.at_first z.at_first t.at_first)
      (part-path x.at_second y.at_second z.at_second t.at_second) (part-path x.at-third y.at-third z.at-third t.at-third)

pub cancel : {q r s : Row ℤ} → Fine q → turns q ≡ true → Fine r → Fine s → product q r ≡ product q s → r ≡ s
cancel {q} {r} {s} f e g h p = known g h
    (cancel-residues (residues q) (unit f e) r s (sym (product-residues f r) ∙ ap residues p ∙ product-residues f s))
