-- The sum of a formula's weights is far below what a machine number holds.
-- Assumes nothing.
use Rattle.std.specs.Prelude.{Option, Some, None}
use mathlib.Core.Path.{◌≡◌, subst}
use mathlib.Core.Bool.{Bool, true, false, cond}
use mathlib.Core.List.{List, [], ◌∷◌, map}
use Prim.Native.Nat.{ℕ, suc, ◌*◌, ◌^◌, ◌≤◌, ◌<◌}
use native.Mathlib.Omega.{arith}
use borrow.Author.Tests.{leb-true}
use lib.Dec.{leb, eqb}
use lib.ListN.{length}
use Rattle.text.proofs.Bools.{cond-first}
use Rattle.formula_terms.specs.Term.{most_count, term_of}
use Rattle.formula_terms.specs.Terms.{attach, cut, terms_of}
use Rattle.formula_elements.specs.Elements.{weight_of, heaviest}
use Rattle.formula_sum.specs.Sum.{most_summed, times, plus, term_weight, total_weight, sum_of, SmallCount, SmallWeight}
use Rattle.formula_terms.specs.declared.term.Term.{Term}
use Rattle.formula_sum.proofs.Sums.{term-small, product_small, no-sum}
use Rattle.formula_elements.proofs.Weights.{Light, weight-light}

times-small : (n : ℕ) (w : Option ℕ) → n ≤ most_count → Light w → SmallWeight (times n w)
times-small n (Some w) h l = product_small n w h l
times-small n None h l = tt

weight-small : (t : Option Term) → SmallCount t → SmallWeight (term_weight t)
weight-small (Some t) h = times-small t.count (weight_of t.symbol.first t.symbol.second) h (weight-light t.symbol.first t.symbol.second)
weight-small None h = tt

-- at most so many times the heaviest term
AtMost : ℕ → Option ℕ → Type 0
AtMost k (Some w) = w ≤ k * (most_count * heaviest)
AtMost k None = Unit {0}

plus-small : (k : ℕ) (u v : Option ℕ) → SmallWeight u → AtMost k v → AtMost (suc k) (plus u v)
unfolding AtMost
plus-small k (Some u) (Some v) h l = omega arith
plus-small k (Some u) None h l = tt
plus-small k None v h l = tt

total-small : (ts : List (List ℕ)) → AtMost (length ts) (total_weight (map term_of ts))
unfolding total_weight AtMost
total-small [] = omega arith
total-small (t ∷ ts) = plus-small (length ts) (term_weight (term_of t)) (total_weight (map term_of ts)) (weight-small (term_of t) (term-small t)) (total-small ts)

attach-length : (b n : ℕ) (ts : List (List ℕ)) → 1 ≤ n → length ts ≤ n → length (attach b ts) ≤ n
attach-length b n [] h l = h
attach-length b n (t ∷ ts) h l = l

cut_by : (t : Bool) (b n : ℕ) (ts : List (List ℕ)) → length ts ≤ n → length (cond t ([] ∷ ts) (attach b ts)) ≤ suc n
cut_by true b n ts l = omega arith
cut_by false b n ts l = attach-length b (suc n) ts (omega arith) (omega arith)

-- a text has at most one term more than bytes
cut-length : (s : List ℕ) → length (cut s) ≤ suc (length s)
unfolding cut
cut-length [] = omega arith
cut-length (b ∷ bs) = cut_by (eqb b 32) b (suc (length bs)) (cut bs) (cut-length bs)

pub sum-small : (s : List ℕ) (n : ℕ) → sum_of s ≡ Some n → n < 10 ^ 13
unfolding sum_of AtMost
sum-small s n e =
    let h = cond-first (leb (length s) most_summed) (total_weight (terms_of s)) None (Some n) (no-sum n) e in
    let short = leb-true (length s) most_summed h.0 in
    let terms = cut-length s in
    let small : n ≤ length (cut s) * (most_count * heaviest) = subst (AtMost (length (cut s))) h.1 (total-small (cut s)) in
    omega arith
