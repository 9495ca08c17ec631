-- `term_of` and `cut` are the wording of document 01: a text is read as a term exactly when it is one, and is cut exactly at its spaces.
-- Assumes nothing.
use Rattle.std.specs.Prelude.{Option, Some, None}
use mathlib.Core.Path.{◌≡◌, refl, sym, ap, subst, ◌∙◌}
use mathlib.Core.Bool.{Bool, true, false, cond, ◌&&◌, not, and-false}
use mathlib.Core.List.{List, [], ◌∷◌, ◌++◌}
use Prim.Native.Nat.{ℕ, suc, ◌≤◌, ◌<◌}
use native.Mathlib.Nat.{suc-ne-zero}
use native.Mathlib.Omega.{arith}
use borrow.Author.Tests.{leb-true, eqb-true, eqb-false, le-leb, lt-leb, lt-ltb, ne_eqb, not-true}
use lib.Dec.{leb, ltb, eqb}
use lib.ListN.{length, get_or}
use Rattle.text.specs.Run.{between, other, all, is_digit, is_capital, is_small, kind_at}
use Rattle.text.proofs.Bools.{and_both}
use Rattle.text.proofs.Runs.{run-all}
use Rattle.number_decimal.specs.Digits.{value_from, value_of}
use Rattle.number_decimal.proofs.Digits.{first-digit}
use Rattle.formula_terms.specs.Term.{most_count, is_count, count_of, with_count, term_of, well}
use Rattle.formula_terms.specs.declared.term.Term.{Term}
use Rattle.formula_terms.specs.Terms.{attach, cut}
use Rattle.formula_terms.specs.Grammar.{SymbolText, capital, capital_small, CountText, none, written, IsTerm, joined, spaceless}
use Rattle.formula_terms.proofs.TermCases.{kind-within, kind-byte, no-capital, two-letters, one-letter}
use Rattle.formula_terms.proofs.Cuts.{cut-last}

-- a text that is a count is read as that count
written_of : (ds : List ℕ) → all is_digit ds ≡ true → (get_or ds 0 0 ≡ 48 → ⊥) → 1 ≤ value_of ds → value_of ds ≤ most_count → count_of ds ≡ Some (value_of ds)
unfolding count_of is_count value_from
written_of [] a z l m = absurd (omega arith)
written_of (d ∷ ds) a z l m =
    simp (ne_eqb (suc (length ds)) 0 (suc-ne-zero (length ds)), a, ne_eqb d 48 z, le-leb 1 (value_of (d ∷ ds)) l, le-leb (value_of (d ∷ ds)) most_count m)

pub count-of : {ds : List ℕ} {n : ℕ} → CountText ds n → count_of ds ≡ Some n
unfolding count_of
count-of none = refl
count-of (written ds a z l m) = written_of ds a z l m

-- and no small letter begins a count
digit-not-small : (d : ℕ) → d ≤ 57 → is_small d ≡ false
unfolding between
digit-not-small d h = let k : d < 97 = omega arith in simp (lt-leb 97 d k)

written-not-small : (ds : List ℕ) → all is_digit ds ≡ true → is_small (get_or ds 0 0) ≡ false
unfolding between
written-not-small [] a = refl
written-not-small (d ∷ ds) a = digit-not-small d (first-digit d ds a).1

count-not-small : {ds : List ℕ} {n : ℕ} → CountText ds n → is_small (get_or ds 0 0) ≡ false
unfolding between
count-not-small none = refl
count-not-small (written ds a z l m) = written-not-small ds a

kind-here : (p : ℕ → Bool) (s : List ℕ) (at : ℕ) → at < length s → p (get_or s at 0) ≡ true → kind_at p s at ≡ true
unfolding kind_at
kind-here p s at l e = rw (lt-ltb at (length s) l) e

kind-not : (p : ℕ → Bool) (s : List ℕ) (at : ℕ) → p (get_or s at 0) ≡ false → kind_at p s at ≡ false
unfolding kind_at
kind-not p s at e = ap (λ (x : Bool). ltb at (length s) && x) e ∙ and-false (ltb at (length s))

from_parts : {symbol : List ℕ} {a b n : ℕ} (count : List ℕ) → SymbolText symbol a b → CountText count n → term_of (symbol ++ count) ≡ well a b n
from_parts count (capital a up) k =
    one-letter (a ∷ count) (kind-here is_capital (a ∷ count) 0 (omega arith) up) (kind-not is_small (a ∷ count) 1 (count-not-small k))
    ∙ ap (with_count a 32) (count-of k)
from_parts count (capital_small a b up low) k =
    two-letters (a ∷ (b ∷ count)) (kind-here is_capital (a ∷ (b ∷ count)) 0 (omega arith) up) (kind-here is_small (a ∷ (b ∷ count)) 1 (omega arith) low)
    ∙ ap (with_count a b) (count-of k)

-- a text of the document's form is read as that term
pub term-of : (t : List ℕ) (a b n : ℕ) → IsTerm t a b n → term_of t ≡ well a b n
term-of t a b n h = ap term_of h.text ∙ from_parts h.count h.is_symbol h.is_count

-- a text that is read as a count is one
count_by : (ds : List ℕ) (n : ℕ) (t : Bool) → is_count ds ≡ t → cond t (Some (value_of ds)) None ≡ Some n → CountText ds n
unfolding is_count
count_by ds n true e q =
    let a = and_both (all is_digit ds) _ e in
    let b = and_both (not (eqb (get_or ds 0 0) 48)) _ a.1 in
    let c = and_both (leb 1 (value_of ds)) _ b.1 in
    let worth : value_of ds ≡ n = cc in
    subst (CountText ds) worth (written ds a.0 (eqb-false _ _ (not-true _ b.0)) (leb-true _ _ c.0) (leb-true _ _ c.1))
count_by ds n false e q = let z : ◌≡◌ {A = ℕ} 0 1 = cc in absurd (omega arith)

pub count-is : (ds : List ℕ) (n : ℕ) → count_of ds ≡ Some n → CountText ds n
unfolding count_of
count-is [] n e = let worth : 1 ≡ n = cc in subst (CountText []) worth none
count-is (d ∷ ds) n e =
    let some : eqb (suc (length ds)) 0 ≡ false = ne_eqb (suc (length ds)) 0 (suc-ne-zero (length ds)) in
    count_by (d ∷ ds) n (is_count (d ∷ ds)) refl (rw some at e)

-- a symbol and a count that were put together are those of the term
record Counted (x y a b n : ℕ) (c : Option ℕ) : Type 0 where
  first : x ≡ a
  second : y ≡ b
  count : c ≡ Some n

counted_is : (x y a b n : ℕ) (c : Option ℕ) → with_count x y c ≡ well a b n → Counted x y a b n c
counted_is x y a b n (Some m) e =
    let q : ◌≡◌ {A = Term} (record { symbol = record { first = x; second = y }; count = m }) (record { symbol = record { first = a; second = b }; count = n }) = cc in
    record { first = ap (λ (t : Term). t.symbol.first) q; second = ap (λ (t : Term). t.symbol.second) q; count = ap (λ (t : Term). Some t.count) q }
counted_is x y a b n None e = let z : ◌≡◌ {A = ℕ} 0 1 = cc in absurd (omega arith)

not-term : (t : List ℕ) (a b n : ℕ) → term_of t ≡ None → term_of t ≡ well a b n → ⊥
not-term t a b n i e = let z : ◌≡◌ {A = ℕ} 0 1 = cc in omega arith

-- a symbol of a capital alone, or of two letters
one-is : (x : ℕ) (r : List ℕ) (a b n : ℕ) → is_capital x ≡ true → with_count x 32 (count_of r) ≡ well a b n → IsTerm (x ∷ r) a b n
one-is x r a b n up e =
    let h = counted_is x 32 a b n (count_of r) e in
    record {
      symbol = x ∷ [];
      count = r;
      text = refl;
      is_symbol = subst (SymbolText (x ∷ []) a) h.second (subst (λ (y : ℕ). SymbolText (x ∷ []) y 32) h.first (capital x up));
      is_count = count-is r n h.count;
    }

two_is : (x y : ℕ) (r : List ℕ) (a b n : ℕ) → is_capital x ≡ true → is_small y ≡ true → with_count x y (count_of r) ≡ well a b n → IsTerm (x ∷ (y ∷ r)) a b n
two_is x y r a b n up low e =
    let h = counted_is x y a b n (count_of r) e in
    record {
      symbol = x ∷ (y ∷ []);
      count = r;
      text = refl;
      is_symbol = subst (SymbolText (x ∷ (y ∷ [])) a) h.second (subst (λ (z : ℕ). SymbolText (x ∷ (y ∷ [])) z y) h.first (capital_small x y up low));
      is_count = count-is r n h.count;
    }

second_is : (x : ℕ) (r : List ℕ) (a b n : ℕ) (t : Bool) → kind_at is_capital (x ∷ r) 0 ≡ true → kind_at is_small (x ∷ r) 1 ≡ t → term_of (x ∷ r) ≡ well a b n → IsTerm (x ∷ r) a b n
second_is x r a b n false up low e = one-is x r a b n (kind-byte is_capital (x ∷ r) 0 up) (sym (one-letter (x ∷ r) up low) ∙ e)
second_is x [] a b n true up low e = let h = kind-within is_small (x ∷ []) 1 low in absurd (omega arith)
second_is x (y ∷ r) a b n true up low e =
    two_is x y r a b n (kind-byte is_capital (x ∷ (y ∷ r)) 0 up) (kind-byte is_small (x ∷ (y ∷ r)) 1 low) (sym (two-letters (x ∷ (y ∷ r)) up low) ∙ e)

first-is : (t : List ℕ) (a b n : ℕ) (x : Bool) → kind_at is_capital t 0 ≡ x → term_of t ≡ well a b n → IsTerm t a b n
first-is t a b n false up e = absurd (not-term t a b n (no-capital t up) e)
first-is [] a b n true up e = let h = kind-within is_capital [] 0 up in absurd (omega arith)
first-is (x ∷ r) a b n true up e = second_is x r a b n (kind_at is_small (x ∷ r) 1) up refl e

-- a text that is read as a term has the document's form
pub term_is : (t : List ℕ) (a b n : ℕ) → term_of t ≡ well a b n → IsTerm t a b n
term_is t a b n e = first-is t a b n (kind_at is_capital t 0) refl e

-- the terms of a text with a space between each two are the text
attach-some : (b : ℕ) (ts : List (List ℕ)) → attach b ts ≡ [] → ⊥
attach-some b [] e = let z : ◌≡◌ {A = ℕ} 0 1 = cc in omega arith
attach-some b (t ∷ ts) e = let z : ◌≡◌ {A = ℕ} 0 1 = cc in omega arith

some-by : (b : ℕ) (ts : List (List ℕ)) (t : Bool) → cond t ([] ∷ ts) (attach b ts) ≡ [] → ⊥
some-by b ts true e = let z : ◌≡◌ {A = ℕ} 0 1 = cc in omega arith
some-by b ts false e = attach-some b ts e

cut-some : (s : List ℕ) → cut s ≡ [] → ⊥
unfolding cut
cut-some [] e = let z : ◌≡◌ {A = ℕ} 0 1 = cc in omega arith
cut-some (b ∷ bs) e = some-by b (cut bs) (eqb b 32) e

join-space : (ts : List (List ℕ)) → (ts ≡ [] → ⊥) → joined ([] ∷ ts) ≡ 32 ∷ joined ts
unfolding joined
join-space [] h = absurd (h refl)
join-space (t ∷ ts) h = refl

join-attach : (b : ℕ) (ts : List (List ℕ)) → (ts ≡ [] → ⊥) → joined (attach b ts) ≡ b ∷ joined ts
unfolding joined
join-attach b [] h = absurd (h refl)
join-attach b (t ∷ []) h = refl
join-attach b (t ∷ (u ∷ ts)) h = refl

joins-by : (b : ℕ) (ts : List (List ℕ)) (t : Bool) → eqb b 32 ≡ t → (ts ≡ [] → ⊥) → joined (cond t ([] ∷ ts) (attach b ts)) ≡ b ∷ joined ts
joins-by b ts true e h = join-space ts h ∙ ap (λ (x : ℕ). x ∷ joined ts) (sym (eqb-true b 32 e))
joins-by b ts false e h = join-attach b ts h

pub cut-joins : (s : List ℕ) → joined (cut s) ≡ s
unfolding cut joined
cut-joins [] = refl
cut-joins (b ∷ bs) = joins-by b (cut bs) (eqb b 32) refl (cut-some bs) ∙ ap (λ (r : List ℕ). b ∷ r) (cut-joins bs)

-- no term of a text has a space
attach-spaceless : (b : ℕ) (ts : List (List ℕ)) → eqb b 32 ≡ false → spaceless ts ≡ true → spaceless (attach b ts) ≡ true
unfolding all other
attach-spaceless b [] e h = rw e
attach-spaceless b (t ∷ ts) e h = rw e h

spaceless-by : (b : ℕ) (ts : List (List ℕ)) (t : Bool) → eqb b 32 ≡ t → spaceless ts ≡ true → spaceless (cond t ([] ∷ ts) (attach b ts)) ≡ true
unfolding all
spaceless-by b ts true e h = h
spaceless-by b ts false e h = attach-spaceless b ts e h

pub cut-spaceless : (s : List ℕ) → spaceless (cut s) ≡ true
unfolding cut all
cut-spaceless [] = refl
cut-spaceless (b ∷ bs) = spaceless-by b (cut bs) (eqb b 32) refl (cut-spaceless bs)

-- texts with no space are cut out of their joined text again
cut-append : (t r : List ℕ) → all (other 32) t ≡ true → cut (t ++ (32 ∷ r)) ≡ t ∷ cut r
unfolding cut all other
cut-append [] r h = refl
cut-append (b ∷ t) r h =
    let k = and_both (not (eqb b 32)) (all (other 32) t) h in
    let no : eqb b 32 ≡ false = not-true _ k.0 in
    rw (no, cut-append t r k.1)

cut-one : (t : List ℕ) → all (other 32) t ≡ true → cut t ≡ t ∷ []
cut-one t h = cut-last t (eqb-true _ _ (run-all (other 32) t ∙ h))

pub cut-joined : (t : List ℕ) (ts : List (List ℕ)) → spaceless (t ∷ ts) ≡ true → cut (joined (t ∷ ts)) ≡ t ∷ ts
unfolding joined all
cut-joined t [] h = cut-one t (and_both (all (other 32) t) _ h).0
cut-joined t (u ∷ ts) h =
    let k = and_both (all (other 32) t) (spaceless (u ∷ ts)) h in
    cut-append t (joined (u ∷ ts)) k.0 ∙ ap (λ (r : List (List ℕ)). t ∷ r) (cut-joined u ts k.1)
