-- Gathering each bench's keys before its Enter changes no answer and no final state, of any machine that meets `Laws`.
-- Assumes nothing.
use mathlib.Core.Path.{◌≡◌, refl, sym, ap, ap₂, ◌∙◌}
use mathlib.Core.Bool.{Bool, true, false}
use mathlib.Core.List.{List, [], ◌∷◌, ◌++◌}
use Prim.Native.Nat.{ℕ}
use lib.Dec.{eqb}
use borrow.Author.Tests.{eqb-true, eqb-false}
use Rattle.theorem_work.specs.Calls.{Call, key, ask, Question, answered, final}
use Rattle.theorem_work.specs.Gather.{own, others, gather_from, gather, gather_answered}

module _ {S A : Type 0} (step : Call → S → A × S) where
  -- a sequence of two parts
  pub answered-append : (P Q : List Call) (s : S) → answered step s (P ++ Q) ≡ answered step s P ++ answered step (final step s P) Q
  answered-append [] Q s = refl
  answered-append (c ∷ P) Q s = ap (λ r. (c, (step c s).0) ∷ r) (answered-append P Q (step c s).1)

  pub final-append : (P Q : List Call) (s : S) → final step s (P ++ Q) ≡ final step (final step s P) Q
  final-append [] Q s = refl
  final-append (c ∷ P) Q s = final-append P Q (step c s).1

  -- Two calls c and k at the state s: neither sees the other, and either order leaves the same.
  pub record Swap (c k : Call) (s : S) : Type 0 where
    pub first : (step c (step k s).1).0 ≡ (step c s).0
    pub second : (step k (step c s).1).0 ≡ (step k s).0
    pub state : (step k (step c s).1).1 ≡ (step c (step k s).1).1

  -- What the theorem asks of a machine, on states that meet I.
  pub record Laws (I : S → Type 0) : Type 0 where
    pub keep : (c : Call) (s : S) → I s → I (step c s).1
    pub ask-state : (q : Question) (s : S) → I s → (step (ask q) s).1 ≡ s
    pub ask-answer : (q : Question) (a j : ℕ) → eqb j 10 ≡ false → (s : S) → I s → (step (ask q) (step (key a j) s).1).0 ≡ (step (ask q) s).0
    pub swap : (b i a j : ℕ) → (a ≡ b → ⊥) → eqb j 10 ≡ false → (s : S) → I s → Swap (key b i) (key a j) s

module _ {S A : Type 0} (step : Call → S → A × S) (I : S → Type 0) (L : Laws step I) where
  -- every call is a key other than Enter
  abbrev Plains : List Call → Type 0
  Plains [] = Unit {0}
  Plains (key a j ∷ P) = (eqb j 10 ≡ false) × Plains P
  Plains (ask q ∷ P) = ⊥

  record Passed (k : Call) (s : S) (Q : List Call) : Type 0 where
    same : answered step (step k s).1 Q ≡ answered step s Q
    mine : (step k (final step s Q)).0 ≡ (step k s).0
    left : final step (step k s).1 Q ≡ (step k (final step s Q)).1
    kept : I (final step s Q)

  pass : (b a j : ℕ) → (a ≡ b → ⊥) → eqb j 10 ≡ false → (P : List Call) (s : S) → I s → Passed (key a j) s (own (λ c. c) b P)
  pass b a j n e [] s h = record { same = refl; mine = refl; left = refl; kept = h }
  pass b a j n e (ask q ∷ P) s h = pass b a j n e P s h
  pass b a j n e (key d i ∷ P) s h = go (pass b a j n e P) (eqb d b) refl
    where
      go : ((s : S) → I s → Passed (key a j) s (own (λ c. c) b P)) → (t : Bool) → eqb d b ≡ t → Passed (key a j) s (own (λ c. c) b (key d i ∷ P))
      go ih false t = rw t (ih s h)
      go ih true t =
          let sw = L.swap d i a j (λ x. n (x ∙ eqb-true d b t)) e s h in
          let p = ih (step (key d i) s).1 (L.keep (key d i) s h) in
          rw t (record { same = rw (sw.first, ← sw.state, p.same); mine = p.mine ∙ sw.second; left = ap (λ x. final step x (own (λ c. c) b P)) (sym sw.state) ∙ p.left; kept = p.kept })

  -- The calls P, all plain keys, with bench b's taken out before x, a key of b: O is b's, R the rest, OA and Ra their answers.
  record Block (x : Call) (s : S) (P O R : List Call) (OA Ra : List (Call × A)) : Type 0 where
    own-answers : answered step s O ≡ OA
    answer : (step x (final step s O)).0 ≡ (step x (final step s P)).0
    rest-answers : answered step (step x (final step s O)).1 R ≡ Ra
    left : final step (step x (final step s O)).1 R ≡ (step x (final step s P)).1
    kept : I (final step s O)

  block : (b i : ℕ) (P : List Call) → Plains P → (s : S) → I s
      → Block (key b i) s P (own (λ c. c) b P) (others (λ c. c) b P) (own (λ p. p.0) b (answered step s P)) (others (λ p. p.0) b (answered step s P))
  block b i [] u s h = record { own-answers = refl; answer = refl; rest-answers = refl; left = refl; kept = h }
  block b i (ask q ∷ P) u s h = absurd u
  block b i (key a j ∷ P) u s h = go (eqb a b) refl (block b i P u.1 (step (key a j) s).1 (L.keep (key a j) s h))
    where
      go : (t : Bool) → eqb a b ≡ t
          → Block (key b i) (step (key a j) s).1 P (own (λ c. c) b P) (others (λ c. c) b P)
          (own (λ p. p.0) b (answered step (step (key a j) s).1 P)) (others (λ p. p.0) b (answered step (step (key a j) s).1 P))
          → Block (key b i) s (key a j ∷ P) (own (λ c. c) b (key a j ∷ P)) (others (λ c. c) b (key a j ∷ P))
          (own (λ p. p.0) b (answered step s (key a j ∷ P))) (others (λ p. p.0) b (answered step s (key a j ∷ P)))
      go true t r = rw t (record { own-answers = rw r.own-answers; answer = r.answer; rest-answers = r.rest-answers; left = r.left; kept = r.kept })
      go false t r =
          let p = pass b a j (eqb-false a b t) u.0 P s h in
          let sw = L.swap b i a j (eqb-false a b t) u.0 (final step s (own (λ c. c) b P)) p.kept in
          rw t (record {
            own-answers = sym p.same ∙ r.own-answers;
            answer = sym sw.first ∙ rw (← p.left) r.answer;
            rest-answers = rw (sw.second, p.mine, sw.state, ← p.left, r.rest-answers);
            left = ap (λ x. final step x (others (λ c. c) b P)) (sw.state ∙ ap (λ x. (step (key b i) x).1) (sym p.left)) ∙ r.left;
            kept = p.kept;
          })

  kept-final : (P : List Call) (s : S) → I s → I (final step s P)
  kept-final [] s h = h
  kept-final (c ∷ P) s h = kept-final P (step c s).1 (L.keep c s h)

  asked : (q : Question) (P : List Call) → Plains P → (s : S) → I s → (step (ask q) (final step s P)).0 ≡ (step (ask q) s).0
  asked q [] u s h = refl
  asked q (ask r ∷ P) u s h = absurd u
  asked q (key a j ∷ P) u s h = asked q P u.1 (step (key a j) s).1 (L.keep (key a j) s h) ∙ L.ask-answer q a j u.0 s h

  plains_snoc : (P : List Call) (a j : ℕ) → Plains P → eqb j 10 ≡ false → Plains (P ++ (key a j ∷ []))
  plains_snoc [] a j u e = (e, tt)
  plains_snoc (ask q ∷ P) a j u e = u
  plains_snoc (key b i ∷ P) a j u e = (u.0, plains_snoc P a j u.1 e)

  plains-others : (b : ℕ) (P : List Call) → Plains P → Plains (others (λ c. c) b P)
  plains-others b [] u = u
  plains-others b (ask q ∷ P) u = absurd u
  plains-others b (key a j ∷ P) u = go (eqb a b) refl (plains-others b P u.1)
    where
      go : (t : Bool) → eqb a b ≡ t → Plains (others (λ c. c) b P) → Plains (others (λ c. c) b (key a j ∷ P))
      go true t r = rw t r
      go false t r = rw t (u.0, r)

  -- The gathered sequence from s, against the calls cs from where the waiting keys P have led.
  abbrev Same : S → List Call → List Call → Type 0
  Same s P cs =
      (answered step s (gather_from (λ c. c) P cs) ≡ gather_from (λ p. p.0) (answered step s P) (answered step (final step s P) cs))
      × (final step s (gather_from (λ c. c) P cs) ≡ final step (final step s P) cs)

  main : (cs P : List Call) → Plains P → (s : S) → I s → Same s P cs
  main [] P u s h = (refl, refl)
  main (ask q ∷ cs) P u s h =
      let r = main cs P u s h in
      let e = L.ask-state q s h in
      let f = L.ask-state q (final step s P) (kept-final P s h) in
      let g = gather_from (λ c. c) P cs in
      let answers = ap (λ x. answered step x g) e ∙ r.0 ∙ ap (λ x. gather_from (λ p. p.0) (answered step s P) (answered step x cs)) (sym f) in (
        ap₂ (λ a rest. (ask q, a) ∷ rest) (sym (asked q P u s h)) answers,
        ap (λ x. final step x g) e ∙ r.1 ∙ ap (λ x. final step x cs) (sym f),
      )
  main (key b i ∷ cs) P u s h = go (main cs) (eqb i 10) refl
    where
      go : ((P : List Call) → Plains P → (s : S) → I s → Same s P cs) → (t : Bool) → eqb i 10 ≡ t → Same s P (key b i ∷ cs)
      go ih false t =
          let r = ih (P ++ (key b i ∷ [])) (plains_snoc P b i u t) s h in
          rw (t, gather_from) (rw (answered-append step P (key b i ∷ []) s, final-append step P (key b i ∷ []) s) at r)
      go ih true t =
          let k = block b i P u s h in
          let r = ih (others (λ c. c) b P) (plains-others b P u) (step (key b i) (final step s (own (λ c. c) b P))).1 (L.keep (key b i) (final step s (own (λ c. c) b P)) k.kept) in
          let g = gather_from (λ c. c) (others (λ c. c) b P) cs in
          let f = rw (k.rest-answers, k.left) at r in
          rw (t, gather_from) (
            answered-append step (own (λ c. c) b P) (key b i ∷ g) s ∙ rw (k.own-answers, k.answer, f.0),
            final-append step (own (λ c. c) b P) (key b i ∷ g) s ∙ f.1,
          )

  -- Gathered, every call gets the answer it got before, and the end is the same.
  pub gathered : (cs : List Call) (s : S) → I s
      → (answered step s (gather cs) ≡ gather_answered (answered step s cs)) × (final step s (gather cs) ≡ final step s cs)
  gathered cs s h = main cs [] tt s h
