-- The tests of the check are the request's words, both ways; an accepted list is a group.
-- Assumes nothing.
use mathlib.Core.Path.{◌≡◌, refl, sym, ap, subst, ◌∙◌}
use mathlib.Core.Bool.{Bool, true, false, cond, not, ◌&&◌, true≢false}
use mathlib.Core.Logic.{inl, inr, ⊎_elim, ◌↔◌}
use mathlib.Core.List.{List, [], ◌∷◌}
use Prim.Native.Nat.{ℕ, zero, suc, ◌*◌, ◌%◌, ◌<◌}
use native.Mathlib.Omega.{arith}
use borrow.Author.Tests.{eqb-true, eqb-false, eq-eqb, leb-true, leb-false, le-leb}
use lib.Dec.{eqb, leb}
use lib.IntN.{ℤ, pos, negsuc}
use lib.ListN.{length, get_or}
use Rattle.text.specs.Run.{all}
use Rattle.text.proofs.Bools.{and_both, or-either, not-holds, or_left, or_right, fails}
use Rattle.text.proofs.Runs.{all_append, all-at}
use Rattle.symmetry_operators.specs.Operator.{Row, product, determinant, identity, eq_z, same, fine, turns}
use Rattle.symmetry_operators.specs.Lists.{has, distinct, with_each, pairs_with}
use Rattle.symmetry_operators.specs.Check.{row_most, operator_rows, closes, pairs, closing, judged, list_shaped, checked, outcome, Outcome}
use Rattle.symmetry_operators.specs.Wording.{In, Some, operator_row, NoList, too_many, part_row, out_of_range, HasUnit, NoUnit, EqualRows, ProductMissing, IsList, Accepted}
use Rattle.symmetry_operators.specs.Group.{Group}
use Rattle.symmetry_operators.proofs.Pigeon.{by_cases, not_is, has_in, in-has}
use Rattle.symmetry_operators.proofs.Rows.{eq_z-is, eq_z-self, same-is, same_self}
use Rattle.symmetry_operators.proofs.Groups.{Passed, each-pair, group}

-- ---- what stands in a list
module _ {A : Type 0} where
  pub in-first : (a : A) (l : List A) → In (a ∷ l) a
  in-first a l = record { place = 0; within = omega arith; here = refl }

  pub in_rest : (b : A) {l : List A} {a : A} → In l a → In (b ∷ l) a
  in_rest b i = let w = i.within in record { place = suc i.place; within = omega arith; here = i.here }

  get_d_any : (l : List A) (k : ℕ) (d e : A) → k < length l → get_or l k d ≡ get_or l k e
  get_d_any [] k d e h = absurd (omega arith)
  get_d_any (b ∷ l) zero d e h = refl
  get_d_any (b ∷ l) (suc k) d e h = get_d_any l k d e (omega arith)

  -- what stands at a place is in the list
  pub in-at : (l : List A) (k : ℕ) (d : A) → k < length l → In l (get_or l k d)
  in-at l k d h = record { place = k; within = h; here = get_d_any l k (get_or l k d) d h }

  -- a test of all: what holds of all holds of each; where it fails it fails of some
  pub each : (p : A → Bool) (l : List A) → all p l ≡ true → (a : A) → In l a → p a ≡ true
  each p l e a i = subst (λ b. p b ≡ true) i.here (all-at p l i.place a e i.within)

  pub all_of : (p : A → Bool) (l : List A) → ((a : A) → In l a → p a ≡ true) → all p l ≡ true
  unfolding all
  all_of p [] f = refl
  all_of p (a ∷ l) f = rw (f a (in-first a l)) (all_of p l (λ b i. f b (in_rest a i)))

  pub some-fails : (p : A → Bool) (l : List A) → all p l ≡ false → Some l (λ (a : A). p a ≡ false)
  unfolding all
  some-fails p [] e = absurd (true≢false e)
  some-fails p (a ∷ l) e = go (some-fails p l) (p a) refl e
    where
      go : (all p l ≡ false → Some l (λ (a : A). p a ≡ false)) → (t : Bool) → p a ≡ t → (t && all p l) ≡ false → Some (a ∷ l) (λ (a : A). p a ≡ false)
      go ih true q e = let s = ih e in record { one = s.one; inside = in_rest a s.inside; so = s.so }
      go ih false q e = record { one = a; inside = in-first a l; so = q }

-- ---- rows
pub has-row : (l : List (Row ℤ)) (r : Row ℤ) → has same l r ≡ true → In l r
has-row = has_in same same-is same_self

pub row_has : (l : List (Row ℤ)) (r : Row ℤ) → In l r → has same l r ≡ true
row_has = in-has same same-is same_self

-- "more than 192 rows, a part row or a number out of range"
pub shaped-is : (n : List ℤ) → list_shaped n ≡ true → IsList n
unfolding list_shaped
shaped-is n e =
    let a = and_both (eqb (length n % 12) 0) _ e in
    let b = and_both (leb (length n) (12 * row_most)) _ a.1 in
    record { few = leb-true (length n) (12 * row_most) b.0; whole_rows = eqb-true _ _ a.0; in_range = each fine (operator_rows n) b.1 }

pub shaped-taken : (n : List ℤ) → IsList n → list_shaped n ≡ true
unfolding list_shaped
shaped-taken n h = rw (eq-eqb (length n % 12) 0 h.whole_rows, le-leb (length n) (12 * row_most) h.few) (all_of fine (operator_rows n) h.in_range)

pub not-shaped : (n : List ℤ) → list_shaped n ≡ false → NoList n
unfolding list_shaped
not-shaped n e = by_cases (eqb (length n % 12) 0)
    (λ a. by_cases (leb (length n) (12 * row_most))
    (λ b. out_of_range (some-fails fine (operator_rows n) (sym (and-two a b) ∙ e)))
    (λ b. too_many (leb-false (length n) (12 * row_most) b)))
    (λ a. part_row (eqb-false (length n % 12) 0 a))
  where
    and-two : {s t u : Bool} → s ≡ true → t ≡ true → (s && (t && u)) ≡ u
    and-two a b = rw (a, b)

pub list-or-not : (n : List ℤ) → IsList n → NoList n → ⊥
list-or-not n h (too_many f) = let k = h.few in omega arith
list-or-not n h (part_row f) = f h.whole_rows
list-or-not n h (out_of_range s) = fails s.so (h.in_range s.one s.inside)

pub not-list : (n : List ℤ) → NoList n → outcome 13 0 ≡ checked n
unfolding checked
not-list n h = ap (λ (t : Bool). cond t (judged (operator_rows n)) (outcome 13 0)) (sym (not-holds (list_shaped n) (λ e. list-or-not n (shaped-is n e) h)))

-- "every determinant is 1 or −1"
pub turns-is : (r : Row ℤ) → turns r ≡ true → HasUnit r
unfolding turns
turns-is r e = ⊎_elim (λ h. inl (eq_z-is _ _ h)) (λ h. inr (eq_z-is _ _ h)) (or-either (eq_z (determinant r) (pos 1)) _ e)

pub turns-taken : (r : Row ℤ) → HasUnit r → turns r ≡ true
unfolding turns
turns-taken r (inl e) = or_left _ _ (ap (λ (z : ℤ). eq_z z (pos 1)) e ∙ eq_z-self (pos 1))
turns-taken r (inr e) = or_right (eq_z (determinant r) (pos 1)) _ (ap (λ (z : ℤ). eq_z z (negsuc 0)) e ∙ eq_z-self (negsuc 0))

pub no-unit : (l : List (Row ℤ)) → all turns l ≡ false → NoUnit l
no-unit l e = let s = some-fails turns l e in record { one = s.one; inside = s.inside; so = λ h. fails s.so (turns-taken s.one h) }

pub units-or-not : (l : List (Row ℤ)) → all turns l ≡ true → NoUnit l → ⊥
units-or-not l e s = s.so (turns-is s.one (each turns l e s.one s.inside))

-- "no two are equal"
pub distinct-is : (l : List (Row ℤ)) → distinct same l ≡ true → (i j : ℕ) → i < j → j < length l → operator_row l i ≡ operator_row l j → ⊥
distinct-is [] e i j h k q = absurd (omega arith)
distinct-is (a ∷ l) e i zero h k q = absurd (omega arith)
distinct-is (a ∷ l) e zero (suc j) h k q =
    let b = and_both (not (has same l a)) _ e in
    not_is (has same l a) b.0 (row_has l a (subst (In l) (sym q) (in-at l j identity (omega arith))))
distinct-is (a ∷ l) e (suc i) (suc j) h k q = distinct-is l (and_both (not (has same l a)) _ e).1 i j (omega arith) (omega arith) q

pub equal-rows : (l : List (Row ℤ)) → distinct same l ≡ false → EqualRows l
equal-rows [] e = absurd (true≢false e)
equal-rows (a ∷ l) e = go (equal-rows l) (has same l a) refl e
  where
    go : (distinct same l ≡ false → EqualRows l) → (t : Bool) → has same l a ≡ t → (not t && distinct same l) ≡ false → EqualRows (a ∷ l)
    go ih true q e =
        let i = has-row l a q in
        let w = i.within in
        record {
          first = 0;
          second = suc i.place;
          apart = omega arith;
          within = omega arith;
          equal = sym
              (get_d_any l i.place identity a w ∙ i.here);
        }
    go ih false q e =
        let r = ih e in
        let h = r.apart in
        let w = r.within in
        record { first = suc r.first; second = suc r.second; apart = omega arith; within = omega arith; equal = r.equal }

pub distinct-taken : (l : List (Row ℤ)) → ((i j : ℕ) → i < j → j < length l → operator_row l i ≡ operator_row l j → ⊥) → distinct same l ≡ true
distinct-taken l f = by_cases (distinct same l) (λ e. e)
    (λ e. let r = equal-rows l e in absurd (f r.first r.second r.apart r.within r.equal))

-- "each product of two, or of one with itself, is in the list"
pub closes-is : (l : List (Row ℤ)) → all (closes l) (pairs l) ≡ true → (r s : Row ℤ) → In l r → In l s → In l (product r s)
closes-is l e r s i j = has-row l (product r s) (each-pair (closes l) l l r s e (row_has l r i) (row_has l s j))

all-with : (p : Row ℤ × Row ℤ → Bool) (r : Row ℤ) (m : List (Row ℤ)) → ((s : Row ℤ) → In m s → p (r, s) ≡ true) → all p (with_each r m) ≡ true
unfolding all
all-with p r [] f = refl
all-with p r (s ∷ m) f = rw (f s (in-first s m)) (all-with p r m (λ q i. f q (in_rest s i)))

all-pairs : (p : Row ℤ × Row ℤ → Bool) (l m : List (Row ℤ)) → ((r s : Row ℤ) → In l r → In m s → p (r, s) ≡ true) → all p (pairs_with l m) ≡ true
unfolding all
all-pairs p [] m f = refl
all-pairs p (r ∷ l) m f = all_append p (with_each r m) (pairs_with l m) (all-with p r m (λ s j. f r s (in-first r l) j))
    (all-pairs p l m (λ q s i j. f q s (in_rest r i) j))

pub closes-taken : (l : List (Row ℤ)) → ((r s : Row ℤ) → In l r → In l s → In l (product r s)) → all (closes l) (pairs l) ≡ true
closes-taken l f = all-pairs (closes l) l l (λ r s i j. row_has l (product r s) (f r s i j))

pub products-or-not : (l : List (Row ℤ)) → all (closes l) (pairs l) ≡ true → ProductMissing l → ⊥
products-or-not l e m = m.missing (closes-is l e m.first m.second m.first_in m.second_in)

-- ---- "Accept it exactly when"
cond-answer : (t : Bool) (a b : Outcome) → (b.answer ≡ 0 → ⊥) → (cond t a b).answer ≡ 0 → (t ≡ true) × (a.answer ≡ 0)
cond-answer true a b n e = (refl, e)
cond-answer false a b n e = absurd (n e)

closed_all : (t : Bool) → ◌≡◌ {A = ℕ} (cond t 0 17) 0 → t ≡ true
closed_all true e = refl
closed_all false e = absurd (omega arith)

-- the tests of a list that gets 0
record AllPassed (n : List ℤ) : Type 0 where
  pub list : list_shaped n ≡ true
  pub passed : Passed (operator_rows n)

all-passed : (n : List ℤ) → (checked n).answer ≡ 0 → AllPassed n
unfolding checked list_shaped judged closing
all-passed n e =
    let l = operator_rows n in
    let a = cond-answer (list_shaped n) (judged l) (outcome 13 0) (λ h. omega arith) e in
    let b = cond-answer (all turns l) _ (outcome 14 0) (λ h. omega arith) a.1 in
    let c = cond-answer (has same l identity) _ (outcome 15 0) (λ h. omega arith) b.1 in
    let d = cond-answer (distinct same l) (closing l) (outcome 16 0) (λ h. omega arith) c.1 in
    let f = and_both (leb (length n) (12 * row_most)) (all fine l) (and_both (eqb (length n % 12) 0) _ a.0).1 in
    record {
      list = a.0;
      passed = record
          { ranges = f.1; determinants = b.0; identity_there = c.0; none-twice = d.0; products = closed_all _ d.1 };
    }

pub accepted-is : (n : List ℤ) → (checked n).answer ≡ 0 → IsList n × Accepted (operator_rows n)
accepted-is n e =
    let l = operator_rows n in
    let a = all-passed n e in
    let p = a.passed in (
      shaped-is n a.list,
      record {
        determinants = λ r i. turns-is r (each turns l p.determinants r i);
        identity_there = has-row l identity p.identity_there;
        none_equal = distinct-is l p.none-twice;
        products = closes-is l p.products;
      },
    )

pub accepted-taken : (n : List ℤ) → IsList n → Accepted (operator_rows n) → (checked n).answer ≡ 0
unfolding checked judged closing
accepted-taken n h a =
    let l = operator_rows n in
    rw (
      shaped-taken n h,
      all_of turns l (λ r i. turns-taken r (a.determinants r i)),
      row_has l identity a.identity_there,
      distinct-taken l a.none_equal,
      closes-taken l a.products,
    )

-- "Accept it exactly when every determinant is 1 or −1, the identity is there, no two are equal and each product of two, or of one with itself, is in the list."
pub accepted-exactly : (n : List ℤ) → ((checked n).answer ≡ 0) ↔ (IsList n × Accepted (operator_rows n))
accepted-exactly n = (accepted-is n, λ h. accepted-taken n h.0 h.1)

-- "An accepted list is proved to be a group: inverses are there too."
pub accepted-group : (n : List ℤ) → (checked n).answer ≡ 0 → Group (operator_rows n)
accepted-group n e = group (operator_rows n) (all-passed n e).passed
