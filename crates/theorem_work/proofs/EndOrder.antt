-- An example of `gather`; and the trailing keys of a gathered sequence are those of the sequence, in the order they had.
-- Assumes nothing.
use mathlib.Core.Path.{◌≡◌, refl, sym, ap, ◌∙◌}
use mathlib.Core.Bool.{Bool, true, false, cond}
use mathlib.Core.List.{List, [], ◌∷◌, ◌++◌, append-nil, cons≢nil}
use Prim.Native.Nat.{ℕ}
use lib.Dec.{eqb}
use lib.Seq.{append_snoc}
use borrow.Author.Tests.{eqb-true, eqb-false, eq-eqb, ne_eqb}
use Rattle.theorem_work.specs.Calls.{Call, key, ask, report}
use Rattle.theorem_work.specs.Gather.{kind, Kind, plain, enter, question, own, others, cons_if, gather_from, gather, unless_plain, marks, is_empty, trailing}

-- benches 0 and 1 type in turn, bench 0 enters, goes on, bench 1 enters, and bench 7 presses Enter
example : gather (key 0 65 ∷ key 1 66 ∷ ask (report 0 1) ∷ key 0 67 ∷ key 0 10 ∷ key 0 68 ∷ key 1 10 ∷ key 7 10 ∷ [])
    ≡ ask (report 0 1) ∷ key 0 65 ∷ key 0 67 ∷ key 0 10 ∷ key 1 66 ∷ key 1 10 ∷ key 7 10 ∷ key 0 68 ∷ []
example = refl

abbrev pub id : Call → Call
id c = c

pub marks-append : (P Q : List Call) → marks P ≡ [] → marks (P ++ Q) ≡ marks Q
marks-append [] Q e = refl
marks-append (c ∷ P) Q e = go (kind c) e (marks-append P Q)
  where
    go : (κ : Kind) → unless_plain κ c (marks P) ≡ [] → (marks P ≡ [] → marks (P ++ Q) ≡ marks Q) → unless_plain κ c (marks (P ++ Q)) ≡ marks Q
    go (plain b) p r = r p
    go (enter b) p r = absurd (cons≢nil p)
    go question p r = absurd (cons≢nil p)

-- taking calls out of a list without Enters and questions leaves none
pub marks-parts : (b : ℕ) (P : List Call) → marks P ≡ [] → (marks (own id b P) ≡ []) × (marks (others id b P) ≡ [])
marks-parts b [] e = (refl, refl)
marks-parts b (ask q ∷ P) e = absurd (cons≢nil e)
marks-parts b (key a j ∷ P) e = go (eqb j 10) (eqb a b) refl refl e (marks-parts b P)
  where
    go : (t u : Bool) → eqb j 10 ≡ t → eqb a b ≡ u → marks (key a j ∷ P) ≡ [] → (marks P ≡ [] → (marks (own id b P) ≡ []) × (marks (others id b P) ≡ []))
        → (marks (own id b (key a j ∷ P)) ≡ []) × (marks (others id b (key a j ∷ P)) ≡ [])
    go true u p q e r = absurd (cons≢nil (rw p at e))
    go false true p q e r = rw (q, p) (r (rw p at e))
    go false false p q e r = rw (q, p) (r (rw p at e))

-- those of the keys P of whose bench no call is in `later`
abbrev untaken : (ℕ → List Call) → List Call → List Call
untaken later [] = []
untaken later (ask q ∷ P) = untaken later P
untaken later (key a j ∷ P) = cond (is_empty (later a)) (key a j ∷ untaken later P) (untaken later P)

-- bench b's calls among the Enters and questions of Q
abbrev enters_in : List Call → ℕ → List Call
enters_in Q b = own id b (marks Q)

trailing-append : (P Q : List Call) → marks P ≡ [] → trailing (P ++ Q) ≡ untaken (enters_in Q) P ++ trailing Q
trailing-append [] Q e = refl
trailing-append (ask q ∷ P) Q e = absurd (cons≢nil e)
trailing-append (key a j ∷ P) Q e = go (eqb j 10) refl e (trailing-append P Q) (marks-append P Q)
  where
    go : (t : Bool) → eqb j 10 ≡ t → marks (key a j ∷ P) ≡ [] → (marks P ≡ [] → trailing (P ++ Q) ≡ untaken (enters_in Q) P ++ trailing Q) → (marks P ≡ [] → marks (P ++ Q) ≡ marks Q)
        → trailing (key a j ∷ (P ++ Q)) ≡ untaken (enters_in Q) (key a j ∷ P) ++ trailing Q
    go true t e r m = absurd (cons≢nil (rw t at e))
    go false t e r m =
        let f : marks P ≡ [] = rw t at e in
        rw (t, m f, r f) (at (is_empty (own id a (marks Q))))
      where
        at : (u : Bool) → cond u (key a j ∷ (untaken (enters_in Q) P ++ trailing Q)) (untaken (enters_in Q) P ++ trailing Q)
            ≡ cond u (key a j ∷ untaken (enters_in Q) P) (untaken (enters_in Q) P) ++ trailing Q
        at true = refl
        at false = refl

-- an Enter of bench e takes e's keys, and the others are left as they were
module _ (e : ℕ) (c : Call) (later : ℕ → List Call) where
  abbrev with_enter : ℕ → List Call
  with_enter b = cons_if id (eqb e b) c (later b)

  taken : (P : List Call) → (untaken with_enter (own id e P) ≡ []) × (untaken with_enter P ≡ untaken later (others id e P))
  taken [] = (refl, refl)
  taken (ask q ∷ P) = taken P
  taken (key a i ∷ P) = go (eqb a e) refl (taken P)
    where
      go : (t : Bool) → eqb a e ≡ t → (untaken with_enter (own id e P) ≡ []) × (untaken with_enter P ≡ untaken later (others id e P))
          → (untaken with_enter (own id e (key a i ∷ P)) ≡ []) × (untaken with_enter (key a i ∷ P) ≡ untaken later (others id e (key a i ∷ P)))
      go true t r = let u = eq-eqb e a (sym (eqb-true a e t)) in rw (t, u) r
      go false t r = let u = ne_eqb e a (λ x. eqb-false a e t (sym x)) in rw (t, u) (r.0, rw r.1)

enter-takes : (a : ℕ) (P Q : List Call) → marks P ≡ []
    → (trailing (own id a P ++ (key a 10 ∷ Q)) ≡ trailing Q) × (trailing (P ++ (key a 10 ∷ Q)) ≡ trailing (others id a P ++ Q))
enter-takes a P Q e =
    let p = marks-parts a P e in
    let k = taken a (key a 10) (enters_in Q) P in (
      trailing-append (own id a P) (key a 10 ∷ Q) p.0 ∙ ap (λ (r : List Call). r ++ trailing Q) k.0,
      trailing-append P (key a 10 ∷ Q) e ∙ ap (λ (r : List Call). r ++ trailing Q) k.1 ∙ sym (trailing-append (others id a P) Q p.1),
    )

-- gathered after the waiting keys P, the trailing keys are those of P and cs together
pub trailing-from : (cs P : List Call) → marks P ≡ [] → trailing (gather_from id P cs) ≡ trailing (P ++ cs)
trailing-from [] P e = ap trailing (sym (append-nil P))
trailing-from (ask q ∷ cs) P e = trailing-from cs P e ∙ trailing-append P cs e ∙ sym (trailing-append P (ask q ∷ cs) e)
trailing-from (key a j ∷ cs) P e = go (trailing-from cs) (eqb j 10) refl
  where
    go : ((P : List Call) → marks P ≡ [] → trailing (gather_from id P cs) ≡ trailing (P ++ cs)) → (t : Bool) → eqb j 10 ≡ t
        → trailing (gather_from id P (key a j ∷ cs)) ≡ trailing (P ++ (key a j ∷ cs))
    go ih false t = rw (t, gather_from) (ih (P ++ (key a j ∷ [])) (marks-append P (key a j ∷ []) e ∙ rw t) ∙ ap trailing (append_snoc P (key a j) cs))
    go ih true t =
        rw (eqb-true j 10 t)
        ((enter-takes a P (gather_from id (others id a P) cs) e).0 ∙ ih (others id a P) (marks-parts a P e).1 ∙ sym (enter-takes a P cs e).1)
