-- A text that is read has the document's form: it is the text of a tree of the subset, and what follows. Assumes nothing.
use Prim.Native.Nat.{ℕ, zero, suc, ◌+◌, ◌-◌}
use mathlib.Core.Path.{◌≡◌, refl, sym, ap, subst, ◌∙◌}
use mathlib.Core.Bool.{Bool, true, false, cond}
use mathlib.Core.List.{List, [], ◌∷◌, ◌++◌, append_assoc, append-nil}
use native.Mathlib.Omega.{arith}
use native.Mathlib.Numerals.{sub-one}
use borrow.Author.Tests.{eqb-true}
use lib.Dec.{eqb, eqb-suc-zero}
use lib.ListN.{length, drop, take-append-drop}
use lib.Seq.{drop-cons}
use Rattle.text.specs.Run.{run_of, has_at}
use Rattle.text.proofs.Runs.{has_within, has-byte, has_first}
use Rattle.formula_terms.specs.Term.{term_of}
use Rattle.formula_sum.specs.Recognised.{is_recognised}
use Rattle.formula_moiety.specs.Grammar.{Part, Moiety, term, group, one, shown_part, shown, shown_all, most_deep, IsPart, IsMoiety, is_term, is_group, is_one, is_more, AreMoieties, none, next}
use Rattle.formula_moiety.specs.Reading.{Got, got, is_times, in_word, word, past, word_part, closed, in_brackets, with_part, goes_on, part_of, moiety_of, Whole, whole, unread, listed, further, enough, whole_text_of, moieties_of}
use Rattle.formula_moiety.specs.Reading as R
use Rattle.formula_moiety.proofs.Leaves.{is_leaf, is-times}

-- what is said of what was read
abbrev pub Sound : {A : Type 0} → (A → Type 0) → (A → List ℕ) → List ℕ → Got A → Type 0
Sound Is text t (got x r) = Is x × (t ≡ text x ++ r)
Sound Is text t R.none = Unit {0}

word_sound : (d : ℕ) (t : List ℕ) → Sound (IsPart d) shown_part t (word_part t)
unfolding word_part shown_part
word_sound d t = go (is_recognised (term_of (word t))) refl
  where
    go : (b : Bool) → is_recognised (term_of (word t)) ≡ b → Sound (IsPart d) shown_part t (cond b (got (term (word t)) (past t)) R.none)
    go true e = (is_term (is_leaf (word t) e), sym (take-append-drop (run_of in_word t) t))
    go false e = tt

closed-sound : (d : ℕ) (t : List ℕ) (m : Moiety) (r : List ℕ) → IsMoiety d m → t ≡ shown m ++ r → Sound (IsPart (suc d)) shown_part (40 ∷ t) (closed m r)
unfolding closed shown_part
closed-sound d t m r is e = go (has_at r 0 41) (is_times (word (drop 1 r))) refl refl
  where
    go : (a b : Bool) → has_at r 0 41 ≡ a → is_times (word (drop 1 r)) ≡ b
        → Sound (IsPart (suc d)) shown_part (40 ∷ t) (cond a (cond b (got (group m (word (drop 1 r))) (past (drop 1 r))) R.none) R.none)
    go true true h c =
        let back : drop 1 r ≡ word (drop 1 r) ++ past (drop 1 r) = sym (take-append-drop (run_of in_word (drop 1 r)) (drop 1 r)) in
        let end : r ≡ (41 ∷ word (drop 1 r)) ++ past (drop 1 r) = has_first r 41 h ∙ ap (λ (x : List ℕ). 41 ∷ x) back in
        (is_group is (is-times (word (drop 1 r)) c), ap (λ (x : List ℕ). 40 ∷ x) (e ∙ ap (λ (x : List ℕ). shown m ++ x) end ∙ sym (append_assoc (shown m) (41 ∷ word (drop 1 r)) (past (drop 1 r)))))
    go true false h c = tt
    go false b h c = tt

brackets-sound : (d : ℕ) (t : List ℕ) (g : Got Moiety) → Sound (IsMoiety d) shown t g → Sound (IsPart (suc d)) shown_part (40 ∷ t) (in_brackets g)
brackets-sound d t (got m r) s = closed-sound d t m r s.0 s.1
brackets-sound d t R.none s = tt

joined-sound : (d : ℕ) (t u : List ℕ) (p : Part) (g : Got Moiety) → IsPart d p → t ≡ shown_part p ++ (32 ∷ u) → Sound (IsMoiety d) shown u g → Sound (IsMoiety d) shown t (with_part p g)
unfolding shown
joined-sound d t u p (got m r) is e s =
    (is_more is s.0, e ∙ ap (λ (x : List ℕ). shown_part p ++ (32 ∷ x)) s.1 ∙ sym (append_assoc (shown_part p) (32 ∷ shown m) r))
joined-sound d t u p R.none is e s = tt

goes-sound : (d : ℕ) (t : List ℕ) (g : Got Part) (k : List ℕ → Got Moiety) → Sound (IsPart d) shown_part t g → ((u : List ℕ) → Sound (IsMoiety d) shown u (k u))
    → Sound (IsMoiety d) shown t (goes_on g k)
unfolding shown
goes-sound d t (got p r) k s h = go (has_at r 0 32) refl
  where
    go : (b : Bool) → has_at r 0 32 ≡ b → Sound (IsMoiety d) shown t (cond b (with_part p (k (drop 1 r))) (got (one p) r))
    go true e = joined-sound d t (drop 1 r) p (k (drop 1 r)) s.0 (s.1 ∙ ap (λ (x : List ℕ). shown_part p ++ x) (has_first r 32 e)) (h (drop 1 r))
    go false e = (is_one s.0, s.1)
goes-sound d t R.none k s h = tt

deep : (d : ℕ) (t : List ℕ) (g : ℕ → Got Moiety) → ((n : ℕ) → Sound (IsMoiety n) shown t (g n)) → Sound (IsPart d) shown_part (40 ∷ t) (cond (eqb d 0) R.none (in_brackets (g (d - 1))))
deep zero t g h = tt
deep (suc d) t g h = rw (eqb-suc-zero d, sub-one (suc d)) (brackets-sound d t (g d) (h d))

part_by : (d : ℕ) (t : List ℕ) (g : ℕ → Got Moiety) → ((n : ℕ) → Sound (IsMoiety n) shown (drop 1 t) (g n)) → (b : Bool) → has_at t 0 40 ≡ b
    → Sound (IsPart d) shown_part t (cond b (cond (eqb d 0) R.none (in_brackets (g (d - 1)))) (word_part t))
part_by d t g h true e = subst (λ (x : List ℕ). Sound (IsPart d) shown_part x (cond (eqb d 0) R.none (in_brackets (g (d - 1))))) (sym (has_first t 40 e)) (deep d (drop 1 t) g h)
part_by d t g h false e = word_sound d t

mutual
  unfolding part_of

  pub part_sound : (f d : ℕ) (t : List ℕ) → Sound (IsPart d) shown_part t (part_of f d t)
  part_sound zero d t = tt
  part_sound (suc f) d t = part_by d t (λ (n : ℕ). moiety_of f n (drop 1 t)) (λ n. moiety-sound f n (drop 1 t)) (has_at t 0 40) refl

  pub moiety-sound : (f d : ℕ) (t : List ℕ) → Sound (IsMoiety d) shown t (moiety_of f d t)
  moiety-sound zero d t = tt
  moiety-sound (suc f) d t = goes-sound d t (part_of f d t) (moiety_of f d) (part_sound f d t) (λ u. moiety-sound f d u)

-- the whole text
abbrev WholeSound : List ℕ → Whole → Type 0
WholeSound t (whole m ms) = AreMoieties (m ∷ ms) × (t ≡ shown_all m ms)
WholeSound t unread = Unit {0}

empty : (r : List ℕ) → eqb (length r) 0 ≡ true → r ≡ []
empty [] e = refl
empty (b ∷ r) e = let z : suc (length r) ≡ 0 = eqb-true _ _ e in absurd (omega arith)

second : (r : List ℕ) → has_at r 0 44 ≡ true → has_at r 1 32 ≡ true → r ≡ 44 ∷ (32 ∷ drop 2 r)
second r h k = has_first r 44 h ∙ ap (λ (x : List ℕ). 44 ∷ x) (drop-cons r 1 0 (has_within r 1 32 k) ∙ ap (λ (x : ℕ). x ∷ drop 2 r) (has-byte r 1 32 k))

listed-sound : (t r : List ℕ) (m : Moiety) (w : Whole) → IsMoiety most_deep m → t ≡ shown m ++ (44 ∷ (32 ∷ r)) → WholeSound r w → WholeSound t (listed m w)
unfolding shown_all
listed-sound t r m (whole n ms) is e s = (next is s.0, e ∙ ap (λ (x : List ℕ). shown m ++ (44 ∷ (32 ∷ x))) s.1)
listed-sound t r m unread is e s = tt

further-sound : (t : List ℕ) (g : Got Moiety) (k : List ℕ → Whole) → Sound (IsMoiety most_deep) shown t g → ((u : List ℕ) → WholeSound u (k u)) → WholeSound t (further g k)
unfolding shown_all
further-sound t (got m r) k s h = go (eqb (length r) 0) (has_at r 0 44) (has_at r 1 32) refl refl refl
  where
    go : (a b c : Bool) → eqb (length r) 0 ≡ a → has_at r 0 44 ≡ b → has_at r 1 32 ≡ c
        → WholeSound t (cond a (whole m []) (cond b (cond c (listed m (k (drop 2 r))) unread) unread))
    go true b c p q x = (next s.0 none, s.1 ∙ ap (λ (x : List ℕ). shown m ++ x) (empty r p) ∙ append-nil (shown m))
    go false true true p q x = listed-sound t (drop 2 r) m (k (drop 2 r)) s.0 (s.1 ∙ ap (λ (x : List ℕ). shown m ++ x) (second r q x)) (h (drop 2 r))
    go false true false p q x = tt
    go false false c p q x = tt
further-sound t R.none k s h = tt

whole-sound : (f : ℕ) (t : List ℕ) → WholeSound t (whole_text_of f t)
unfolding whole_text_of
whole-sound zero t = tt
whole-sound (suc f) t = further-sound t (moiety_of (enough t) most_deep t) (whole_text_of f) (moiety-sound (enough t) most_deep t) (whole-sound f)

-- a text that is read is the text of its tree, which is of the subset
pub is_read : (t : List ℕ) (m : Moiety) (ms : List Moiety) → moieties_of t ≡ whole m ms → AreMoieties (m ∷ ms) × (t ≡ shown_all m ms)
unfolding moieties_of
is_read t m ms e = subst (WholeSound t) e (whole-sound (length t + 1) t)
