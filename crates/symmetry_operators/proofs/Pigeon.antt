-- Lists without two equal elements: a map into the list that takes no two elements to one takes some element to each.
-- Assumes nothing.
use mathlib.Core.Path.{◌≡◌, refl, sym, ap, subst, ◌∙◌}
use mathlib.Core.Bool.{Bool, true, false, cond, not, false≢true, true≢false}
use mathlib.Core.List.{List, [], ◌∷◌, map}
use Prim.Native.Nat.{ℕ, zero, suc, ◌≤◌, ◌<◌}
use native.Mathlib.Omega.{arith}
use lib.ListN.{length, length-map, get_or}
use Rattle.text.proofs.Bools.{and_both, not-holds, or_left, or_right}
use Rattle.symmetry_operators.specs.Lists.{has, distinct}
use Rattle.symmetry_operators.specs.Wording.{In}

pub by_cases : {C : Type 0} (t : Bool) → (t ≡ true → C) → (t ≡ false → C) → C
by_cases true f g = f refl
by_cases false f g = g refl

pub not_is : (t : Bool) → not t ≡ true → t ≡ true → ⊥
not_is true e f = false≢true e
not_is false e f = false≢true f

module _ {A : Type 0} (same : A → A → Bool) (is_same : (a b : A) → same a b ≡ true → a ≡ b) (self : (a : A) → same a a ≡ true) where
  abbrev Has : List A → A → Type 0
  Has l a = has same l a ≡ true

  pub in-cases : {C : Type 0} (b : A) (l : List A) (a : A) → Has (b ∷ l) a → (a ≡ b → C) → (Has l a → C) → C
  in-cases b l a i f g = by_cases (same a b) (λ e. f (is_same a b e)) (λ e. g (rw e at i))

  pub in_head : (a : A) (l : List A) → Has (a ∷ l) a
  in_head a l = or_left (same a a) (has same l a) (self a)

  pub in_tail : (b : A) (l : List A) (a : A) → Has l a → Has (b ∷ l) a
  in_tail b l a i = or_right (same a b) (has same l a) i

  -- what the test finds stands at some place, and what stands there it finds
  pub has_in : (l : List A) (a : A) → Has l a → In l a
  has_in [] a i = absurd (false≢true i)
  has_in (b ∷ l) a i = in-cases b l a i (λ e. record { place = 0; within = omega arith; here = sym e })
      (λ j. let r = has_in l a j in let w = r.within in record { place = suc r.place; within = omega arith; here = r.here })

  at_has : (l : List A) (a : A) (k : ℕ) → k < length l → get_or l k a ≡ a → Has l a
  at_has [] a k h e = absurd (omega arith)
  at_has (b ∷ l) a zero h e = or_left (same a b) (has same l a) (subst (λ c. same a c ≡ true) (sym e) (self a))
  at_has (b ∷ l) a (suc k) h e = in_tail b l a (at_has l a k (omega arith) e)

  pub in-has : (l : List A) (a : A) → In l a → Has l a
  in-has l a i = at_has l a i.place i.within i.here

  -- the list without the first that is a
  abbrev remove : List A → A → List A
  remove [] a = []
  remove (b ∷ l) a = cond (same a b) l (b ∷ remove l a)

  length-remove : (l : List A) (a : A) → Has l a → length l ≡ suc (length (remove l a))
  length-remove [] a i = absurd (false≢true i)
  length-remove (b ∷ l) a i = by_cases (same a b) (λ e. rw e) (λ e. rw e (ap suc (length-remove l a (rw e at i))))

  still-in : (l : List A) (a b : A) → (b ≡ a → ⊥) → Has l b → Has (remove l a) b
  still-in [] a b n i = absurd (false≢true i)
  still-in (c ∷ l) a b n i = by_cases (same a c)
      (λ e. rw e (in-cases c l b i (λ q. absurd (n (q ∙ sym (is_same a c e)))) (λ j. j)))
      (λ e. rw e (in-cases c l b i (λ q. subst (λ d. Has (c ∷ remove l a) d) (sym q) (in_head c (remove l a)))
      (λ j. in_tail c (remove l a) b (still-in l a b n j))))

  -- where the distinct l are all in m, and m is no longer, all of m are in l
  pub fills : (l m : List A) → distinct same l ≡ true → ((a : A) → Has l a → Has m a) → length m ≤ length l → (b : A) → Has m b → Has l b
  fills [] [] d into k b i = i
  fills [] (c ∷ m) d into k b i = absurd (omega arith)
  fills (a ∷ l) m d into k b i =
      let mine = into a (in_head a l) in
      let new = not_is (has same l a) (and_both (not (has same l a)) (distinct same l) d).0 in
      let size = length-remove m a mine in
      by_cases (same b a) (λ e. or_left (same b a) (has same l b) e) (λ e. in_tail a l b
      (fills l (remove m a) (and_both (not (has same l a)) (distinct same l) d).1
      (λ c j. still-in m a c (λ q. new (subst (Has l) q j)) (into c (in_tail a l c j)))
      (omega arith) b (still-in m a b (λ q. true≢false (sym (self b) ∙ ap (same b) q ∙ e)) i)))

  in_image : (f : A → A) (l : List A) (b : A) → Has (map f l) b → (a : A) × (Has l a × (f a ≡ b))
  in_image f [] b i = absurd (false≢true i)
  in_image f (c ∷ l) b i = in-cases (f c) (map f l) b i (λ e. (c, (in_head c l, sym e)))
      (λ j. let r = in_image f l b j in (r.0, (in_tail c l r.0 r.1.0, r.1.1)))

  distinct-image : (f : A → A) (l : List A) → ((a b : A) → Has l a → Has l b → f a ≡ f b → a ≡ b) → distinct same l ≡ true
      → distinct same (map f l) ≡ true
  distinct-image f [] one d = refl
  distinct-image f (a ∷ l) one d =
      let new = not_is (has same l a) (and_both (not (has same l a)) (distinct same l) d).0 in
      let other = not-holds (has same (map f l) (f a)) (λ i. let r = in_image f l (f a) i in
      new (subst (Has l) (one r.0 a (in_tail a l r.0 r.1.0) (in_head a l) r.1.1) r.1.0)) in
      rw other (distinct-image f l (λ b c i j. one b c (in_tail a l b i) (in_tail a l c j)) (and_both (not (has same l a)) (distinct same l) d).1)

  -- the pigeonhole principle
  pub reached : (f : A → A) (l : List A) → distinct same l ≡ true → ((a : A) → Has l a → Has l (f a))
      → ((a b : A) → Has l a → Has l b → f a ≡ f b → a ≡ b)
      → (b : A) → Has l b → (a : A) × (Has l a × (f a ≡ b))
  reached f l d into one b i =
      let size = length-map l f in
      in_image f l b (fills (map f l) l (distinct-image f l one d)
      (λ c j. let r = in_image f l c j in subst (Has l) r.1.1 (into r.0 r.1.0)) (omega arith) b i)
