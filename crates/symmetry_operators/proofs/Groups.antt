-- An accepted list of operators is a group.
-- Assumes nothing.
use mathlib.Core.Path.{◌≡◌, sym, ap, subst, ◌∙◌}
use mathlib.Core.Bool.{Bool, true, false≢true}
use mathlib.Core.List.{List, [], ◌∷◌}
use Prim.Native.Nat.{ℕ, ◌+◌, ◌*◌, ◌%◌, ◌<◌}
use native.Mathlib.Omega.{arith}
use lib.IntN.{ℤ}
use Rattle.symmetry_operators.specs.Operator.{Part, Row, product, identity, same, fine, turns}
use Rattle.symmetry_operators.specs.Lists.{has, distinct, with_each, pairs_with}
use Rattle.symmetry_operators.specs.Check.{closes, pairs}
use Rattle.symmetry_operators.specs.Wording.{In}
use Rattle.symmetry_operators.specs.Group.{Inverse, Group}
use Rattle.text.specs.Run.{all}
use Rattle.text.proofs.Bools.{and_both}
use Rattle.text.proofs.Runs.{all_both}
use Rattle.symmetry_operators.proofs.Residue.{reduced-small, scaled_small}
use Rattle.symmetry_operators.specs.Residues.{residues_part, residues, after_n, product_n}
use Rattle.symmetry_operators.proofs.Modulo.{times-assoc, part-path, row-path}
use Rattle.symmetry_operators.proofs.Pigeon.{in-cases, has_in, in-has, reached}
use Rattle.symmetry_operators.proofs.Rows.{Fine, fine-row, same-is, same_self, product-residues, known, cancel}

abbrev Has : List (Row ℤ) → Row ℤ → Type 0
Has l r = has same l r ≡ true

-- the tests of a list that is accepted
pub record Passed (l : List (Row ℤ)) : Type 0 where
  pub ranges : all fine l ≡ true
  pub determinants : all turns l ≡ true
  pub identity_there : has same l identity ≡ true
  pub none-twice : distinct same l ≡ true
  pub products : all (closes l) (pairs l) ≡ true

-- ---- what holds of all pairs holds of each
pub all-has : (p : Row ℤ → Bool) (l : List (Row ℤ)) (r : Row ℤ) → all p l ≡ true → Has l r → p r ≡ true
unfolding all
all-has p [] r h i = absurd (false≢true i)
all-has p (c ∷ l) r h i = in-cases same same-is same_self c l r i (λ q. subst (λ d. p d ≡ true) (sym q) (and_both (p c) (all p l) h).0)
    (λ j. all-has p l r (and_both (p c) (all p l) h).1 j)

with-each : (p : Row ℤ × Row ℤ → Bool) (r s : Row ℤ) (m : List (Row ℤ)) → all p (with_each r m) ≡ true → Has m s → p (r, s) ≡ true
unfolding all
with-each p r s [] e i = absurd (false≢true i)
with-each p r s (c ∷ m) e i = in-cases same same-is same_self c m s i (λ q. subst (λ d. p (r, d) ≡ true) (sym q) (and_both (p (r, c)) _ e).0)
    (λ j. with-each p r s m (and_both (p (r, c)) _ e).1 j)

pub each-pair : (p : Row ℤ × Row ℤ → Bool) (l m : List (Row ℤ)) (r s : Row ℤ) → all p (pairs_with l m) ≡ true → Has l r → Has m s → p (r, s) ≡ true
each-pair p [] m r s e i j = absurd (false≢true i)
each-pair p (c ∷ l) m r s e i j = in-cases same same-is same_self c l r i
    (λ q. subst (λ d. p (d, s) ≡ true) (sym q) (with-each p c s m (all_both p (with_each c m) (pairs_with l m) e).0 j))
    (λ k. each-pair p l m r s (all_both p (with_each c m) (pairs_with l m) e).1 k j)

-- ---- the identity
identity-residues : (s : Row ℤ) → product_n (residues identity) (residues s) ≡ residues s
unfolding product_n after_n identity
identity-residues s = row-path
    (part-path (at_first _ _ (reduced-small s.first.x)) (at_first _ _ (reduced-small s.first.y)) (at_first _ _ (reduced-small s.first.z))
    (at-first₀ _ _ (scaled_small s.first.t)))
    (part-path (at_second _ _ (reduced-small s.second.x)) (at_second _ _ (reduced-small s.second.y))
    (at_second _ _ (reduced-small s.second.z)) (at-second₀ _ _ (scaled_small s.second.t)))
    (part-path (at-third _ _ (reduced-small s.third.x)) (at-third _ _ (reduced-small s.third.y)) (at-third _ _ (reduced-small s.third.z))
    (at-third₀ _ _ (scaled_small s.third.t)))
  where
    at_first : {n : ℕ} (b c : ℕ) → n < 12288 → (1 * n + 0 * b + 0 * c) % 12288 ≡ n
    at_first b c h = omega arith

    at-first₀ : {n : ℕ} (b c : ℕ) → n < 12288 → (1 * n + 0 * b + 0 * c + 0) % 12288 ≡ n
    at-first₀ b c h = omega arith

    at_second : {n : ℕ} (b c : ℕ) → n < 12288 → (0 * b + 1 * n + 0 * c) % 12288 ≡ n
    at_second b c h = omega arith

    at-second₀ : {n : ℕ} (b c : ℕ) → n < 12288 → (0 * b + 1 * n + 0 * c + 0) % 12288 ≡ n
    at-second₀ b c h = omega arith

    at-third : {n : ℕ} (b c : ℕ) → n < 12288 → (0 * b + 0 * c + 1 * n) % 12288 ≡ n
    at-third b c h = omega arith

    at-third₀ : {n : ℕ} (b c : ℕ) → n < 12288 → (0 * b + 0 * c + 1 * n + 0) % 12288 ≡ n
    at-third₀ b c h = omega arith

after-identity : (p : Part ℤ) → after_n (residues_part p) (residues identity) ≡ residues_part p
unfolding after_n identity
after-identity p = part-path (omega (arith, reduced-small p.x)) (omega (arith, reduced-small p.y)) (omega (arith, reduced-small p.z))
    (omega (arith, scaled_small p.t))

residues-identity : (s : Row ℤ) → product_n (residues s) (residues identity) ≡ residues s
unfolding product_n
residues-identity s = row-path (after-identity s.first) (after-identity s.second) (after-identity s.third)

-- ---- the theorem
module _ (l : List (Row ℤ)) (ok : Passed l) where
  fine-in : (r : Row ℤ) → Has l r → Fine r
  fine-in r i = fine-row r (all-has fine l r ok.ranges i)

  closed : (r s : Row ℤ) → Has l r → Has l s → Has l (product r s)
  closed r s i j = each-pair (closes l) l l r s ok.products i j

  associative : (q r s : Row ℤ) → Has l q → Has l r → Has l s → product (product q r) s ≡ product q (product r s)
  associative q r s i j k =
      known (fine-in _ (closed (product q r) s (closed q r i j) k)) (fine-in _ (closed q (product r s) i (closed r s j k)))
      (product-residues (fine-in _ (closed q r i j)) s ∙ ap (λ w. product_n w (residues s)) (product-residues (fine-in q i) r)
      ∙ times-assoc (residues q) (residues r) (residues s)
      ∙ sym (product-residues (fine-in q i) (product r s) ∙ ap (product_n (residues q)) (product-residues (fine-in r j) s)))

  there : Has l identity
  there = ok.identity_there

  identity_left : (r : Row ℤ) → Has l r → product identity r ≡ r
  identity_left r i = known (fine-in _ (closed identity r there i)) (fine-in r i) (product-residues (fine-in identity there) r ∙ identity-residues r)

  identity_right : (r : Row ℤ) → Has l r → product r identity ≡ r
  identity_right r i = known (fine-in _ (closed r identity i there)) (fine-in r i) (product-residues (fine-in r i) identity ∙ residues-identity r)

  -- a right inverse, by the pigeonhole principle
  right : (r : Row ℤ) → Has l r → (s : Row ℤ) × (Has l s × (product r s ≡ identity))
  right r i = reached same same-is same_self (product r) l ok.none-twice (λ s j. closed r s i j)
      (λ s t j k e. cancel (fine-in r i) (all-has turns l r ok.determinants i) (fine-in s j) (fine-in t k) e) identity there

  -- it is a left inverse too: with s of r, and t of s, r = r (s t) = (r s) t = t
  inverse : (r : Row ℤ) → Has l r → Inverse l r
  inverse r i =
      let a = right r i in
      let s = a.0 in
      let j = a.1.0 in
      let b = right s j in
      let t = b.0 in
      let k = b.1.0 in
      let back : r ≡ t = sym (identity_right r i) ∙ ap (product r) (sym b.1.1) ∙ sym (associative r s t i j k) ∙ ap (λ w. product w t) a.1.1
      ∙ identity_left t k in
      record { row = s; inside = has_in same same-is same_self l s j; right = a.1.1; left = ap (product s) back ∙ b.1.1 }

  has-it : {r : Row ℤ} → In l r → Has l r
  has-it {r} i = in-has same same-is same_self l r i

  pub group : Group l
  group = record {
    closed = λ r s i j. has_in same same-is same_self l (product r s) (closed r s (has-it i) (has-it j));
    associative = λ q r s i j k. associative q r s (has-it i) (has-it j) (has-it k);
    identity_inside = has_in same same-is same_self l identity there;
    identity_left = λ r i. identity_left r (has-it i);
    identity_right = λ r i. identity_right r (has-it i);
    inverse = λ r i. inverse r (has-it i);
  }
