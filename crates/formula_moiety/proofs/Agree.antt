-- "Exactly these texts are read, each in one way" (document 02, No. 12): `agree`, `exactly`, `one_way`.
-- Assumes nothing.
use Prim.Native.Nat.{ℕ, zero, suc, ◌+◌, ◌<◌}
use mathlib.Core.Path.{◌≡◌, refl, sym, ap, ◌∙◌}
use mathlib.Core.Bool.{true}
use mathlib.Core.List.{List, [], ◌∷◌, ◌++◌, append-nil}
use native.Mathlib.Omega.{arith}
use borrow.Author.Tests.{lt-ltb, eq-eqb}
use lib.Dec.{eqb-suc-zero}
use lib.ListN.{length, length-append}
use Rattle.text.specs.Run.{kind_at, has_at}
use Rattle.formula_moiety.specs.Grammar.{Moiety, shown, shown_all, most_deep, IsMoiety, AreMoieties, none, next, IsText}
use Rattle.formula_moiety.specs.Reading.{got, moiety_of, Whole, whole, unread, enough, whole_text_of, moieties_of, ReadAs}
use Rattle.formula_moiety.proofs.Sound.{is_read}
use Rattle.formula_moiety.proofs.Complete.{Ends, front-is, at-comma, at_end, moiety-reads}

first_reads : {m : Moiety} (r : List ℕ) → IsMoiety most_deep m → Ends r → moiety_of (enough (shown m ++ r)) most_deep (shown m ++ r) ≡ got m r
first_reads {m} r is z = let long = length-append (shown m) r in moiety-reads is (enough (shown m ++ r)) (omega arith) r z

second_is : (a b : ℕ) (r : List ℕ) → has_at (a ∷ (b ∷ r)) 1 b ≡ true
unfolding has_at kind_at
second_is a b r = let l : 1 < suc (suc (length r)) = omega arith in simp (lt-ltb 1 (suc (suc (length r))) l, eq-eqb b b refl)

all_read : {m : Moiety} {ms : List Moiety} → AreMoieties ms → IsMoiety most_deep m → (f : ℕ) → length (shown_all m ms) < f → whole_text_of f (shown_all m ms) ≡ whole m ms
unfolding whole_text_of shown_all
all_read none is zero l = absurd (omega arith)
all_read {m} none is (suc f) l =
    let whole-text : moiety_of (enough (shown m)) most_deep (shown m) ≡ got m [] =
    ap (λ (t : List ℕ). moiety_of (enough t) most_deep t) (sym (append-nil (shown m))) ∙ first_reads [] is at_end in
    rw whole-text
all_read (next i is) j zero l = absurd (omega arith)
all_read {m} (next {m = n} {ms = ms} i is) j (suc f) l =
    let r = shown_all n ms in
    let long = length-append (shown m) (44 ∷ (32 ∷ r)) in
    let first : moiety_of (enough (shown m ++ (44 ∷ (32 ∷ r)))) most_deep (shown m ++ (44 ∷ (32 ∷ r))) ≡ got m (44 ∷ (32 ∷ r)) = first_reads (44 ∷ (32 ∷ r)) j (at-comma (32 ∷ r)) in
    let rest : whole_text_of f r ≡ whole n ms = all_read is i f (omega arith) in
    rw (first, eqb-suc-zero (suc (length r)), front-is 44 (32 ∷ r), second_is 44 32 r, rest)

-- the text of every tree of the subset is read as that tree
pub is-text : {m : Moiety} {ms : List Moiety} → AreMoieties (m ∷ ms) → moieties_of (shown_all m ms) ≡ whole m ms
unfolding moieties_of
is-text {m} {ms} (next i is) = all_read is i (length (shown_all m ms) + 1) (omega arith)

is_whole : (t : List ℕ) (m : Moiety) (ms : List Moiety) → IsText t m ms → moieties_of t ≡ whole m ms
is_whole t m ms h = ap moieties_of h.1 ∙ is-text h.0

-- "Exactly these texts are read": a text is read as some moieties exactly when it is their text
pub exactly : (t : List ℕ) (m : Moiety) (ms : List Moiety) → (moieties_of t ≡ whole m ms → IsText t m ms) × (IsText t m ms → moieties_of t ≡ whole m ms)
exactly t m ms = (is_read t m ms, is_whole t m ms)

-- and one that is not read is the text of none
pub agree : (t : List ℕ) (w : Whole) → w ≡ moieties_of t → ReadAs t w
agree t (whole m ms) e = is_read t m ms (sym e)
agree t unread e = λ m ms h. not-whole m ms (e ∙ is_whole t m ms h)
  where
    not-whole : (m : Moiety) (ms : List Moiety) → unread ≡ whole m ms → ⊥
    not-whole m ms q = let z : ◌≡◌ {A = ℕ} 0 1 = cc in omega arith

-- "each in one way": no text is that of two trees
pub one_way : {t : List ℕ} {m n : Moiety} {ms ns : List Moiety} → IsText t m ms → IsText t n ns → (m ≡ n) × (ms ≡ ns)
one_way {t} {m} {n} {ms} {ns} a b =
    let q : whole m ms ≡ whole n ns = sym (is_whole t m ms a) ∙ is_whole t n ns b in
    ((cc), (cc))
