-- Checks of the definition of `gather`: it does what its words in specs/Gather.antt say, `Regrouped`.
-- Assumes nothing.
use mathlib.Core.Path.{◌≡◌, refl, sym, ap, ◌∙◌}
use mathlib.Core.Bool.{Bool, true, false}
use mathlib.Core.List.{List, [], ◌∷◌, ◌++◌, append-nil}
use Prim.Native.Nat.{ℕ, ◌+◌}
use native.Mathlib.Omega.{arith}
use lib.Dec.{eqb}
use lib.Seq.{append_snoc}
use borrow.Author.Tests.{eqb-true, eqb-false, eq-eqb, ne_eqb}
use Rattle.theorem_work.specs.Calls.{Call, key, ask}
use Rattle.theorem_work.specs.Gather.{of_bench, own, others, cons_if, gather_from, gather, marks, next_of, Gathered, at_end, before_own, at_enter, at_question, weight, Regrouped}
use Rattle.theorem_work.proofs.EndOrder.{id, marks-append, marks-parts, trailing-from}

own-append : (b : ℕ) (P Q : List Call) → own id b (P ++ Q) ≡ own id b P ++ own id b Q
own-append b [] Q = refl
own-append b (c ∷ P) Q = go (of_bench b c) (own-append b P Q)
  where
    go : (t : Bool) → own id b (P ++ Q) ≡ own id b P ++ own id b Q → cons_if id t c (own id b (P ++ Q)) ≡ cons_if id t c (own id b P) ++ own id b Q
    go true e = ap (λ r. c ∷ r) e
    go false e = e

none : (b e : ℕ) → (b ≡ e → ⊥) → (P : List Call) → own id b (own id e P) ≡ []
none b e n [] = refl
none b e n (ask q ∷ P) = none b e n P
none b e n (key a j ∷ P) = go (eqb a e) refl (none b e n P)
  where
    go : (t : Bool) → eqb a e ≡ t → own id b (own id e P) ≡ [] → own id b (own id e (key a j ∷ P)) ≡ []
    go false p r = rw p r
    go true p r = rw (p, ne_eqb a b (λ x. n (sym x ∙ eqb-true a e p))) r

-- bench b's calls of a list from which bench e's were taken out to stand before its Enter
split : (b e : ℕ) (P : List Call) → own id b (own id e P) ++ own id b (others id e P) ≡ own id b P
split b e [] = refl
split b e (ask q ∷ P) = split b e P
split b e (key a j ∷ P) = go (eqb a e) (eqb a b) refl refl (split b e P)
  where
    go : (t u : Bool) → eqb a e ≡ t → eqb a b ≡ u → own id b (own id e P) ++ own id b (others id e P) ≡ own id b P
        → own id b (own id e (key a j ∷ P)) ++ own id b (others id e (key a j ∷ P)) ≡ own id b (key a j ∷ P)
    go true true p q r = rw (p, q) (ap (λ r. key a j ∷ r) r)
    go true false p q r = rw (p, q) r
    go false false p q r = rw (p, q) r
    go false true p q r =
        let z = none b e (λ x. eqb-false a e p (eqb-true a b q ∙ x)) P in
        rw (p, q, z) (ap (λ r. key a j ∷ r) (rw z at r))

-- none of bench e's calls is left among the others
gone : (e : ℕ) (P : List Call) → own id e (others id e P) ≡ []
gone e [] = refl
gone e (ask q ∷ P) = gone e P
gone e (key a j ∷ P) = go (eqb a e) refl (gone e P)
  where
    go : (t : Bool) → eqb a e ≡ t → own id e (others id e P) ≡ [] → own id e (others id e (key a j ∷ P)) ≡ []
    go true p r = rw p r
    go false p r = rw (p, p) r

tail : (t : Bool) (c : Call) (X Y : List Call) → (X ++ cons_if id t c []) ++ Y ≡ X ++ cons_if id t c Y
tail true c X Y = append_snoc X c Y
tail false c X Y = ap (λ r. r ++ Y) (append-nil X)

bench-order-from : (b : ℕ) (cs P : List Call) → own id b (gather_from id P cs) ≡ own id b P ++ own id b cs
bench-order-from b [] P = sym (append-nil (own id b P))
bench-order-from b (ask q ∷ cs) P = bench-order-from b cs P
bench-order-from b (key a j ∷ cs) P = go (bench-order-from b cs) (eqb j 10) refl
  where
    go : ((P : List Call) → own id b (gather_from id P cs) ≡ own id b P ++ own id b cs) → (t : Bool) → eqb j 10 ≡ t
        → own id b (gather_from id P (key a j ∷ cs)) ≡ own id b P ++ own id b (key a j ∷ cs)
    go ih false t = rw (t, gather_from) (ih (P ++ (key a j ∷ [])) ∙ rw (own-append b P (key a j ∷ [])) (tail (eqb a b) (key a j) (own id b P) (own id b cs)))
    go ih true t = rw (t, gather_from) (own-append b (own id a P) (key a j ∷ gather_from id (others id a P) cs) ∙ at (eqb a b) refl)
      where
        at : (u : Bool) → eqb a b ≡ u → own id b (own id a P) ++ own id b (key a j ∷ gather_from id (others id a P) cs) ≡ own id b P ++ own id b (key a j ∷ cs)
        at true u =
            let z : own id b (others id a P) ≡ [] = rw (eqb-true a b u) (gone b P) in
            let s = sym (append-nil (own id b (own id a P))) ∙ rw z at (split b a P) in
            rw (u, ih (others id a P), z, s)
        at false u =
            let z = none b a (λ x. eqb-false a b u (sym x)) P in
            rw (u, ih (others id a P), z, rw z at (split b a P))

-- Each bench's calls keep their order.
bench_order : (b : ℕ) (cs : List Call) → own id b (gather cs) ≡ own id b cs
bench_order b cs = bench-order-from b cs []

marks-order-from : (cs P : List Call) → marks P ≡ [] → marks (gather_from id P cs) ≡ marks cs
marks-order-from [] P e = e
marks-order-from (ask q ∷ cs) P e = ap (λ r. ask q ∷ r) (marks-order-from cs P e)
marks-order-from (key a j ∷ cs) P e = go (marks-order-from cs) (eqb j 10) refl
  where
    go : ((P : List Call) → marks P ≡ [] → marks (gather_from id P cs) ≡ marks cs) → (t : Bool) → eqb j 10 ≡ t → marks (gather_from id P (key a j ∷ cs)) ≡ marks (key a j ∷ cs)
    go ih false t = rw (t, gather_from) (ih (P ++ (key a j ∷ [])) (marks-append P (key a j ∷ []) e ∙ rw t))
    go ih true t =
        let p = marks-parts a P e in
        rw (t, gather_from) (marks-append (own id a P) (key a j ∷ gather_from id (others id a P) cs) p.0 ∙ rw t (ap (λ r. key a j ∷ r) (ih (others id a P) p.1)))

-- Enters and questions keep their order.
marks_order : (cs : List Call) → marks (gather cs) ≡ marks cs
marks_order cs = marks-order-from cs [] refl

-- the keys of bench b, taken out to stand before a key of b
row : (b k : ℕ) (P cs : List Call) → Gathered (key b k ∷ cs) → (next_of b (own id b P ++ (key b k ∷ cs)) ≡ true) × Gathered (own id b P ++ (key b k ∷ cs))
row b k [] cs g = (eq-eqb b b refl, g)
row b k (ask q ∷ P) cs g = row b k P cs g
row b k (key a j ∷ P) cs g = go (eqb a b) refl (row b k P cs g)
  where
    go : (t : Bool) → eqb a b ≡ t → (next_of b (own id b P ++ (key b k ∷ cs)) ≡ true) × Gathered (own id b P ++ (key b k ∷ cs))
        → (next_of b (own id b (key a j ∷ P) ++ (key b k ∷ cs)) ≡ true) × Gathered (own id b (key a j ∷ P) ++ (key b k ∷ cs))
    go false t r = rw t r
    go true t r =
        let next : next_of a (own id b P ++ (key b k ∷ cs)) ≡ true = rw (eqb-true a b t) r.0 in
        rw t (t, before_own next r.1)

gathered-from : (cs P : List Call) → marks P ≡ [] → Gathered (gather_from id P cs)
gathered-from [] P e = at_end e
gathered-from (ask q ∷ cs) P e = at_question (gathered-from cs P e)
gathered-from (key a j ∷ cs) P e = go (gathered-from cs) (eqb j 10) refl
  where
    go : ((P : List Call) → marks P ≡ [] → Gathered (gather_from id P cs)) → (t : Bool) → eqb j 10 ≡ t → Gathered (gather_from id P (key a j ∷ cs))
    go ih false t = rw (t, gather_from) (ih (P ++ (key a j ∷ [])) (marks-append P (key a j ∷ []) e ∙ rw t))
    go ih true t =
        let last : Gathered (key a j ∷ gather_from id (others id a P) cs) = rw (eqb-true j 10 t) (at_enter (ih (others id a P) (marks-parts a P e).1)) in
        rw (t, gather_from) (row a j P (gather_from id (others id a P) cs) last).1

module _ (f : Call → ℕ) where
  weight-append : (P Q : List Call) → weight f (P ++ Q) ≡ weight f P + weight f Q
  weight-append [] Q = omega arith
  weight-append (c ∷ P) Q = omega (arith, weight-append P Q)

  weight-parts : (b : ℕ) (P : List Call) → weight f (own id b P) + weight f (others id b P) ≡ weight f P
  weight-parts b [] = omega arith
  weight-parts b (c ∷ P) = go (of_bench b c) refl (weight-parts b P)
    where
      go : (t : Bool) → of_bench b c ≡ t → weight f (own id b P) + weight f (others id b P) ≡ weight f P
          → weight f (own id b (c ∷ P)) + weight f (others id b (c ∷ P)) ≡ weight f (c ∷ P)
      go true t r = rw t (omega arith)
      go false t r = rw t (omega arith)

  weight-from : (cs P : List Call) → weight f (gather_from id P cs) ≡ weight f P + weight f cs
  weight-from [] P = omega arith
  weight-from (ask q ∷ cs) P = omega (arith, weight-from cs P)
  weight-from (key a j ∷ cs) P = go (weight-from cs) (eqb j 10) refl
    where
      go : ((P : List Call) → weight f (gather_from id P cs) ≡ weight f P + weight f cs) → (t : Bool) → eqb j 10 ≡ t
          → weight f (gather_from id P (key a j ∷ cs)) ≡ weight f P + weight f (key a j ∷ cs)
      go ih false t = rw (t, gather_from) (omega (arith, ih (P ++ (key a j ∷ [])), weight-append P (key a j ∷ [])))
      go ih true t =
          let g = gather_from id (others id a P) cs in
          rw (t, gather_from) (omega (arith, weight-append (own id a P) (key a j ∷ g), ih (others id a P), weight-parts a P))

-- `gather` does what its words say.
pub gather-regroups : (cs : List Call) → Regrouped cs (gather cs)
gather-regroups cs = record {
  gathered = gathered-from cs [] refl;
  bench_order = λ b. bench_order b cs;
  end_order = trailing-from cs [] refl;
  marks_order = marks_order cs;
  same_calls = λ f. weight-from f cs [] ∙ (let z : 0 + weight f cs ≡ weight f cs = omega arith in z);
}
