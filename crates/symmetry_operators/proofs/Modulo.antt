-- Operators modulo 12288, as rows of naturals: the product is associative, and a row whose determinant is a unit can be cancelled on the left.
-- Assumes nothing.
use mathlib.Core.Path.{◌≡◌, refl, sym, ap, ◌∙◌}
use mathlib.Core.Logic.{◌⊎◌, inl, inr}
use Prim.Native.Nat.{ℕ, ◌+◌, ◌*◌, ◌/◌, ◌%◌}
use native.Mathlib.Nat.{mul-add, add-mul, mul_assoc, mul_comm, mul_left_comm, div-add-mod, mod-mod}
use native.Mathlib.Omega.{arith}
use Rattle.symmetry_operators.specs.Operator.{Part, Row}
use Rattle.symmetry_operators.specs.Residues.{dot_n, after_n, product_n, minor_n, det_n}
use Rattle.symmetry_operators.proofs.Residue.{mod-by, congruent, multiple}

pub part-path : {A : Type 0} {p q : Part A} → p.x ≡ q.x → p.y ≡ q.y → p.z ≡ q.z → p.t ≡ q.t → p ≡ q
part-path a b c d = λ i. record { x = a i; y = b i; z = c i; t = d i }

pub row-path : {A : Type 0} {r s : Row A} → r.first ≡ s.first → r.second ≡ s.second → r.third ≡ s.third → r ≡ s
row-path a b c = λ i. record { first = a i; second = b i; third = c i }

-- ---- a rest inside a product
mul-rest : (m n : ℕ) → (m % 12288 * n) % 12288 ≡ (m * n) % 12288
mul-rest m n =
    let e : m * n ≡ 12288 * (m / 12288) * n + m % 12288 * n = ap (λ (k : ℕ). k * n) (sym (div-add-mod m 12288))
    ∙ add-mul (12288 * (m / 12288)) (m % 12288) n in
    let f : 12288 * (m / 12288) * n ≡ 12288 * (m / 12288 * n) = mul_assoc 12288 (m / 12288) n in
    mod-by (m % 12288 * n) (m * n) (m / 12288 * n) 0 (omega arith)

pub rest-mul : (m n : ℕ) → (m * (n % 12288)) % 12288 ≡ (m * n) % 12288
rest-mul m n = rw (mul_comm m (n % 12288), mul_comm m n) (mul-rest n m)

strip-left : (a b c x y z : ℕ) → (a % 12288 * x + b % 12288 * y + c % 12288 * z) % 12288 ≡ (a * x + b * y + c * z) % 12288
strip-left a b c x y z = congruent _ (c % 12288 * z) _ (c * z)
    (congruent (a % 12288 * x) (b % 12288 * y) (a * x) (b * y) (mul-rest a x) (mul-rest b y)) (mul-rest c z)

pub strip-right : (a b c x y z : ℕ) → (x * (a % 12288) + y * (b % 12288) + z * (c % 12288)) % 12288 ≡ (x * a + y * b + z * c) % 12288
strip-right a b c x y z = congruent _ (z * (c % 12288)) _ (z * c)
    (congruent (x * (a % 12288)) (y * (b % 12288)) (x * a) (y * b) (rest-mul x a) (rest-mul y b)) (rest-mul z c)

-- ---- associativity, at one place: a part p, the nine factors and three translations of the second, and a column of the third
module _ (p : Part ℕ) (r : Row ℕ) (a b c : ℕ) where
  column : dot_n (after_n p r) a b c % 12288 ≡ dot_n p (dot_n r.first a b c % 12288) (dot_n r.second a b c % 12288) (dot_n r.third a b c % 12288) %
      12288
  unfolding after_n
  column =
      let u = strip-left (dot_n p r.first.x r.second.x r.third.x) (dot_n p r.first.y r.second.y r.third.y)
      (dot_n p r.first.z r.second.z r.third.z) a b c in
      let v = strip-right (dot_n r.first a b c) (dot_n r.second a b c) (dot_n r.third a b c) p.x p.y p.z in
      u ∙ ap (λ (n : ℕ). n % 12288) (simp (mul-add, add-mul, mul_assoc) (omega arith)) ∙ sym v

  translation : (dot_n (after_n p r) a b c + (after_n p r).t) % 12288
      ≡ (dot_n p ((dot_n r.first a b c + r.first.t) % 12288) ((dot_n r.second a b c + r.second.t) % 12288)
      ((dot_n r.third a b c + r.third.t) % 12288) + p.t) % 12288
  unfolding after_n
  translation =
      let m = dot_n p r.first.t r.second.t r.third.t + p.t in
      let u = strip-left (dot_n p r.first.x r.second.x r.third.x) (dot_n p r.first.y r.second.y r.third.y)
      (dot_n p r.first.z r.second.z r.third.z) a b c in
      let v = strip-right (dot_n r.first a b c + r.first.t) (dot_n r.second a b c + r.second.t) (dot_n r.third a b c + r.third.t) p.x
      p.y p.z in
      congruent _ (m % 12288) _ m u (mod-mod m 12288) ∙ ap (λ (n : ℕ). n % 12288) (simp (mul-add, add-mul, mul_assoc) (omega arith))
      ∙ sym (congruent _ p.t _ p.t v refl)

after-assoc : (p : Part ℕ) (r s : Row ℕ) → after_n (after_n p r) s ≡ after_n p (product_n r s)
unfolding product_n after_n
after-assoc p r s = part-path (column p r s.first.x s.second.x s.third.x) (column p r s.first.y s.second.y s.third.y)
    (column p r s.first.z s.second.z s.third.z) (translation p r s.first.t s.second.t s.third.t)

pub times-assoc : (q r s : Row ℕ) → product_n (product_n q r) s ≡ product_n q (product_n r s)
unfolding product_n
times-assoc q r s = row-path (after-assoc q.first r s) (after-assoc q.second r s) (after-assoc q.third r s)

-- ---- cancelling: a column's three values, by the minors, give each of its numbers times the determinant
module _ (a b c d e f g h i x y z : ℕ) where
  -- x
  rule-x : (minor_n e f h i) * (a * x + b * y + c * z) + (minor_n c b i h) * (d * x + e * y + f * z) + (minor_n b c e f) * (g * x + h * y + i * z) +
      12288 * (12286 * (b * (f * g) * x))
      ≡ (a * minor_n e f h i + 12287 * (b * minor_n d f g i) + c * minor_n d e g h) * x + 12288 *
      ((b * (e * i) + b * (f * h) + c * (e * h)) * y + (c * (e * i) + c * (f * h) + b * (f * i)) * z)
  rule-x = simp (mul-add, add-mul, mul_assoc, mul_comm, mul_left_comm) (omega arith)

  -- y
  rule-y : (minor_n f d i g) * (a * x + b * y + c * z) + (minor_n a c g i) * (d * x + e * y + f * z) + (minor_n c a f d) * (g * x + h * y + i * z) +
      12288 * (12286 * (b * (f * g) * y))
      ≡ (a * minor_n e f h i + 12287 * (b * minor_n d f g i) + c * minor_n d e g h) * y + 12288 *
      ((a * (f * g) + a * (d * i) + c * (d * g)) * x + (c * (f * g) + c * (d * i) + a * (f * i)) * z)
  rule-y = simp (mul-add, add-mul, mul_assoc, mul_comm, mul_left_comm) (omega arith)

  -- z
  rule-z : (minor_n d e g h) * (a * x + b * y + c * z) + (minor_n b a h g) * (d * x + e * y + f * z) + (minor_n a b d e) * (g * x + h * y + i * z) +
      12288 * (12286 * (b * (f * g) * z))
      ≡ (a * minor_n e f h i + 12287 * (b * minor_n d f g i) + c * minor_n d e g h) * z + 12288 *
      ((a * (d * h) + a * (e * g) + b * (d * g)) * x + (b * (d * h) + b * (e * g) + a * (e * h)) * y)
  rule-z = simp (mul-add, add-mul, mul_assoc, mul_comm, mul_left_comm) (omega arith)

abbrev value : Row ℕ → ℕ → ℕ → ℕ → ℕ → ℕ → ℕ → ℕ
value r a b c x y z = a * dot_n r.first x y z + b * dot_n r.second x y z + c * dot_n r.third x y z

module _ (r : Row ℕ) where
  abbrev a : ℕ
  a = r.first.x

  abbrev b : ℕ
  b = r.first.y

  abbrev c : ℕ
  c = r.first.z

  abbrev d : ℕ
  d = r.second.x

  abbrev e : ℕ
  e = r.second.y

  abbrev f : ℕ
  f = r.second.z

  abbrev g : ℕ
  g = r.third.x

  abbrev h : ℕ
  h = r.third.y

  abbrev i : ℕ
  i = r.third.z

  cramer-x : (x y z : ℕ) → value r (minor_n e f h i) (minor_n c b i h) (minor_n b c e f) x y z % 12288 ≡ (det_n r * x) % 12288
  cramer-x x y z = mod-by (value r (minor_n e f h i) (minor_n c b i h) (minor_n b c e f) x y z) (det_n r * x) (12286 * (b * (f * g) * x))
      ((b * (e * i) + b * (f * h) + c * (e * h)) * y + (c * (e * i) + c * (f * h) + b * (f * i)) * z)
      (rule-x a b c d e f g h i x y z)

  cramer-y : (x y z : ℕ) → value r (minor_n f d i g) (minor_n a c g i) (minor_n c a f d) x y z % 12288 ≡ (det_n r * y) % 12288
  cramer-y x y z = mod-by (value r (minor_n f d i g) (minor_n a c g i) (minor_n c a f d) x y z) (det_n r * y) (12286 * (b * (f * g) * y))
      ((a * (f * g) + a * (d * i) + c * (d * g)) * x + (c * (f * g) + c * (d * i) + a * (f * i)) * z)
      (rule-y a b c d e f g h i x y z)

  cramer-z : (x y z : ℕ) → value r (minor_n d e g h) (minor_n b a h g) (minor_n a b d e) x y z % 12288 ≡ (det_n r * z) % 12288
  cramer-z x y z = mod-by (value r (minor_n d e g h) (minor_n b a h g) (minor_n a b d e) x y z) (det_n r * z) (12286 * (b * (f * g) * z))
      ((a * (d * h) + a * (e * g) + b * (d * g)) * x + (b * (d * h) + b * (e * g) + a * (e * h)) * y)
      (rule-z a b c d e f g h i x y z)

  module _ (unit : (det_n r % 12288 ≡ 1) ⊎ (det_n r % 12288 ≡ 12287)) where
    divide : (m n : ℕ) → (det_n r * m) % 12288 ≡ (det_n r * n) % 12288 → m % 12288 ≡ n % 12288
    divide m n q = go unit
      where
        both : (k : ℕ) → det_n r % 12288 ≡ k → (k * m) % 12288 ≡ (k * n) % 12288
        both k l = ap (λ (j : ℕ). (j * m) % 12288) (sym l) ∙ mul-rest (det_n r) m ∙ q ∙ sym (mul-rest (det_n r) n) ∙ ap (λ (j : ℕ). (j * n) % 12288) l

        again : (k : ℕ) → (12287 * (12287 * k)) % 12288 ≡ k % 12288
        again k = mod-by (12287 * (12287 * k)) k 0 (12286 * k) (omega arith)

        go : (det_n r % 12288 ≡ 1) ⊎ (det_n r % 12288 ≡ 12287) → m % 12288 ≡ n % 12288
        go (inl l) = let w = both 1 l in omega arith
        go (inr l) = sym (again m) ∙ multiple (12287 * m) (12287 * n) (both 12287 l) ∙ again n

    module _ (x y z x' y' z' : ℕ) (p : dot_n r.first x y z % 12288 ≡ dot_n r.first x' y' z' % 12288)
        (q : dot_n r.second x y z % 12288 ≡ dot_n r.second x' y' z' % 12288)
        (s : dot_n r.third x y z % 12288 ≡ dot_n r.third x' y' z' % 12288) where
      values : (k l m : ℕ) → value r k l m x y z % 12288 ≡ value r k l m x' y' z' % 12288
      values k l m =
          sym (strip-right (dot_n r.first x y z) (dot_n r.second x y z) (dot_n r.third x y z) k l m)
          ∙ (λ j. (k * p j + l * q j + m * s j) % 12288)
          ∙ strip-right (dot_n r.first x' y' z') (dot_n r.second x' y' z') (dot_n r.third x' y' z') k l m

      pub column-x : x % 12288 ≡ x' % 12288
      column-x = divide x x' (sym (cramer-x x y z) ∙ values (minor_n e f h i) (minor_n c b i h) (minor_n b c e f) ∙ cramer-x x' y' z')

      pub column-y : y % 12288 ≡ y' % 12288
      column-y = divide y y' (sym (cramer-y x y z) ∙ values (minor_n f d i g) (minor_n a c g i) (minor_n c a f d) ∙ cramer-y x' y' z')

      pub column-z : z % 12288 ≡ z' % 12288
      column-z = divide z z' (sym (cramer-z x y z) ∙ values (minor_n d e g h) (minor_n b a h g) (minor_n a b d e) ∙ cramer-z x' y' z')
