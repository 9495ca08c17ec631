-- Only one sequence is the regrouping of a sequence: the words of `Regrouped` (specs/Gather.antt) leave no order open.
-- Assumes nothing.
use mathlib.Core.Path.{◌≡◌, refl, sym, ap, ap₂, ◌∙◌, subst}
use mathlib.Core.Bool.{Bool, true, false, cond, true≢false}
use mathlib.Core.List.{List, [], ◌∷◌, cons≢nil}
use Prim.Native.Nat.{ℕ}
use native.Mathlib.Omega.{arith}
use lib.Dec.{eqb}
use borrow.Author.Tests.{eqb-true, eq-eqb}
use Rattle.theorem_work.specs.Calls.{Question, Call, key, ask}
use Rattle.theorem_work.specs.Gather.{Kind, plain, enter, question, kind, of_bench, own, cons_if, unless_plain, marks, is_empty, if_trailing, trailing, next_of, Gathered, at_end, before_own, at_enter, at_question, Regrouped}
use Rattle.theorem_work.proofs.EndOrder.{id}

-- what two regroupings of one sequence have in common
record Alike (ds es : List Call) : Type 0 where
  bench_order : (b : ℕ) → own id b ds ≡ own id b es
  end_order : trailing ds ≡ trailing es
  marks_order : marks ds ≡ marks es

-- ---- a call taken from both

own-tails : (t : Bool) (c : Call) (X Y : List Call) → cons_if id t c X ≡ cons_if id t c Y → X ≡ Y
own-tails true c X Y e = cc
own-tails false c X Y e = e

marks-tails : (κ : Kind) (c : Call) (X Y : List Call) → unless_plain κ c X ≡ unless_plain κ c Y → X ≡ Y
marks-tails (plain b) c X Y e = e
marks-tails (enter b) c X Y e = cc
marks-tails question c X Y e = cc

cond-tails : (t : Bool) (c : Call) (X Y : List Call) → cond t (c ∷ X) X ≡ cond t (c ∷ Y) Y → X ≡ Y
cond-tails true c X Y e = cc
cond-tails false c X Y e = e

end-tails : (κ : Kind) (c : Call) (ds es X Y : List Call) → marks ds ≡ marks es → if_trailing κ c ds X ≡ if_trailing κ c es Y → X ≡ Y
end-tails (plain b) c ds es X Y m e = cond-tails (is_empty (own id b (marks es))) c X Y (rw m at e)
end-tails (enter b) c ds es X Y m e = e
end-tails question c ds es X Y m e = e

tails : (c : Call) (ds es : List Call) → Alike (c ∷ ds) (c ∷ es) → Alike ds es
tails c ds es h =
    let m = marks-tails (kind c) c (marks ds) (marks es) h.marks_order in
    record {
      bench_order = λ b. own-tails (of_bench b c) c (own id b ds) (own id b es) (h.bench_order b);
      end_order = end-tails (kind c) c ds es (trailing ds) (trailing es) m h.end_order;
      marks_order = m;
    }

-- ---- a gathered sequence

no-marks-tail : (c : Call) (cs : List Call) → marks (c ∷ cs) ≡ [] → marks cs ≡ []
no-marks-tail c cs e = go (kind c) e
  where
    go : (κ : Kind) → unless_plain κ c (marks cs) ≡ [] → marks cs ≡ []
    go (plain b) e = e
    go (enter b) e = absurd (cons≢nil e)
    go question e = absurd (cons≢nil e)

gathered-tail : (c : Call) (cs : List Call) → Gathered (c ∷ cs) → Gathered cs
gathered-tail c cs (at_end e) = at_end (no-marks-tail c cs e)
gathered-tail c cs (before_own n g) = g
gathered-tail c cs (at_enter g) = g
gathered-tail c cs (at_question g) = g

-- the first Enter or question, if there is one, is bench b's Enter
abbrev Leads : ℕ → List Call → Type 0
Leads b [] = Unit {0}
Leads b (key a j ∷ ms) = a ≡ b
Leads b (ask q ∷ ms) = ⊥

leads : (b k : ℕ) (cs : List Call) → eqb k 10 ≡ false → Gathered (key b k ∷ cs) → Leads b (marks cs)
leads b k cs t (at_end e) = let z : marks cs ≡ [] = no-marks-tail (key b k) cs e in rw z tt
leads b k cs t (at_enter g) = absurd (true≢false t)
leads b k [] t (before_own n g) = tt
leads b k (ask q ∷ cs) t (before_own n g) = absurd (true≢false (sym n))
leads b k (key a j ∷ cs) t (before_own n g) = go (eqb j 10) refl (λ u. leads a j cs u g)
  where
    go : (u : Bool) → eqb j 10 ≡ u → (eqb j 10 ≡ false → Leads a (marks cs)) → Leads b (marks (key a j ∷ cs))
    go true u ih = rw u (eqb-true a b n)
    go false u ih = rw u (subst (λ d. Leads d (marks cs)) (eqb-true a b n) (ih u))

-- a sequence of keys other than Enter is its own end
all-trailing : (cs : List Call) → marks cs ≡ [] → trailing cs ≡ cs
all-trailing [] e = refl
all-trailing (ask q ∷ cs) e = absurd (cons≢nil e)
all-trailing (key a j ∷ cs) e = go (eqb j 10) refl (all-trailing cs)
  where
    go : (t : Bool) → eqb j 10 ≡ t → (marks cs ≡ [] → trailing cs ≡ cs) → trailing (key a j ∷ cs) ≡ key a j ∷ cs
    go true t ih = absurd (cons≢nil (rw t at e))
    go false t ih = let z : marks cs ≡ [] = rw t at e in rw (t, z) (ap (λ r. key a j ∷ r) (ih z))

-- ---- two gathered sequences that are alike begin alike

one-bench : (b k a j : ℕ) (cs ds : List Call) → Alike (key b k ∷ cs) (key a j ∷ ds) → b ≡ a → key b k ≡ key a j
one-bench b k a j cs ds l e =
    let t = eq-eqb b b refl in
    let u = eq-eqb a b (sym e) in
    let h : key b k ∷ own id b cs ≡ key a j ∷ own id b ds = rw (t, u) at (l.bench_order b) in
    cc

no-question : (a j : ℕ) (q : Question) (ds ms : List Call) → Gathered (key a j ∷ ds) → marks (key a j ∷ ds) ≡ ask q ∷ ms → ⊥
no-question a j q ds ms g e = go (eqb j 10) refl
  where
    go : (t : Bool) → eqb j 10 ≡ t → ⊥
    go true t = let h : key a j ∷ marks ds ≡ ask q ∷ ms = rw t at e in let z : ◌≡◌ {A = ℕ} 0 1 = cc in absurd (omega arith)
    go false t = let h : marks ds ≡ ask q ∷ ms = rw t at e in rw h at (leads a j ds t g)

two-leads : (b a : ℕ) (c : Call) (ms : List Call) → Leads b (c ∷ ms) → Leads a (c ∷ ms) → b ≡ a
two-leads b a (key x i) ms p q = sym p ∙ q
two-leads b a (ask r) ms p q = absurd p

two-keys : (b k a j : ℕ) (cs ds : List Call) → Gathered (key b k ∷ cs) → Gathered (key a j ∷ ds) → Alike (key b k ∷ cs) (key a j ∷ ds) → key b k ≡ key a j
two-keys b k a j cs ds g h l = go (eqb k 10) (eqb j 10) refl refl l.marks_order
  where
    plains : (ms : List Call) → eqb k 10 ≡ false → eqb j 10 ≡ false → marks cs ≡ ms → marks ds ≡ ms → key b k ≡ key a j
    plains [] t u m n =
        let p : key b k ∷ cs ≡ key a j ∷ ds = sym (all-trailing (key b k ∷ cs) (rw (t, m))) ∙ l.end_order ∙ all-trailing (key a j ∷ ds) (rw (u, n)) in
        cc
    plains (c ∷ ms) t u m n = one-bench b k a j cs ds l (two-leads b a c ms (rw m at (leads b k cs t g)) (rw n at (leads a j ds u h)))

    go : (t u : Bool) → eqb k 10 ≡ t → eqb j 10 ≡ u → marks (key b k ∷ cs) ≡ marks (key a j ∷ ds) → key b k ≡ key a j
    go true true t u m = let n : key b k ∷ marks cs ≡ key a j ∷ marks ds = rw (t, u) at m in cc
    go true false t u m =
        let n : key b k ∷ marks cs ≡ marks ds = rw (t, u) at m in
        one-bench b k a j cs ds l (rw (sym n) at (leads a j ds u h))
    go false true t u m =
        let n : marks cs ≡ key a j ∷ marks ds = rw (t, u) at m in
        one-bench b k a j cs ds l (sym (rw n at (leads b k cs t g)))
    go false false t u m =
        let n : marks cs ≡ marks ds = rw (t, u) at m in
        plains (marks ds) t u n refl

heads : (c d : Call) (cs ds : List Call) → Gathered (c ∷ cs) → Gathered (d ∷ ds) → Alike (c ∷ cs) (d ∷ ds) → c ≡ d
heads (ask q) (ask r) cs ds g h l = let m = l.marks_order in cc
heads (ask q) (key a j) cs ds g h l = absurd (no-question a j q ds (marks cs) h (sym l.marks_order))
heads (key b k) (ask r) cs ds g h l = absurd (no-question b k r cs (marks ds) g l.marks_order)
heads (key b k) (key a j) cs ds g h l = two-keys b k a j cs ds g h l

alike_same : (cs ds : List Call) → Gathered cs → Gathered ds → Alike cs ds → cs ≡ ds
alike_same [] [] g h l = refl
alike_same [] (key a j ∷ ds) g h l = absurd (cons≢nil (sym (rw (eq-eqb a a refl) at (l.bench_order a))))
alike_same [] (ask q ∷ ds) g h l = absurd (cons≢nil (sym l.marks_order))
alike_same (key a j ∷ cs) [] g h l = absurd (cons≢nil (rw (eq-eqb a a refl) at (l.bench_order a)))
alike_same (ask q ∷ cs) [] g h l = absurd (cons≢nil l.marks_order)
alike_same (c ∷ cs) (d ∷ ds) g h l =
    let e = heads c d cs ds g h l in
    let k : Alike (c ∷ cs) (c ∷ ds) = subst (λ x. Alike (c ∷ cs) (x ∷ ds)) (sym e) l in
    ap₂ (λ x xs. x ∷ xs) e (alike_same cs ds (gathered-tail c cs g) (gathered-tail d ds h) (tails c cs ds k))

pub one_regrouping : (cs ds es : List Call) → Regrouped cs ds → Regrouped cs es → ds ≡ es
one_regrouping cs ds es p q = alike_same ds es p.gathered q.gathered (record {
  bench_order = λ b. p.bench_order b ∙ sym (q.bench_order b);
  end_order = p.end_order ∙ sym q.end_order;
  marks_order = p.marks_order ∙ sym q.marks_order;
})
