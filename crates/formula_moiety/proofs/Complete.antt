-- The text of every tree of the subset is read as that tree, so no text is that of two. Assumes nothing.
use Prim.Native.Nat.{ℕ, zero, suc, ◌+◌, ◌*◌, ◌≤◌, ◌<◌}
use mathlib.Core.Path.{◌≡◌, refl, sym, subst}
use mathlib.Core.Bool.{true, false}
use mathlib.Core.List.{List, [], ◌∷◌, ◌++◌, append_assoc}
use native.Mathlib.Omega.{arith}
use native.Mathlib.Numerals.{sub-one}
use borrow.Author.Tests.{leb-true, ne_eqb, eq-eqb, lt-ltb}
use lib.Dec.{leb, eqb-suc-zero}
use lib.ListN.{length, length-append}
use lib.Seq.{take_at, drop_at}
use Rattle.text.specs.Run.{run_of, all, between, other, kind_at, has_at, is_digit, is_capital}
use Rattle.text.proofs.Bools.{and_both, not-holds}
use Rattle.text.proofs.Runs.{has-byte, run-append, run_none}
use Rattle.formula_terms.specs.Grammar.{SymbolText, capital, capital_small, CountText, written}
use Rattle.formula_terms.specs.Grammar as G
use Rattle.formula_moiety.specs.Grammar.{Part, Moiety, term, group, shown_part, shown, IsTimes, IsLeaf, IsPart, IsMoiety, is_term, is_group, is_one, is_more}
use Rattle.formula_moiety.specs.Reading.{got, in_word, word, past, word_part, closed, part_of, moiety_of}
use Rattle.formula_moiety.proofs.Leaves.{leaf-read, times-read}

-- every byte above the comma may stand in a word
in-word : (b : ℕ) → 45 ≤ b → in_word b ≡ true
unfolding in_word other
in-word b h =
    let n₁ : b ≡ 32 → ⊥ = λ e. omega arith in
    let n₂ : b ≡ 41 → ⊥ = λ e. omega arith in
    let n₃ : b ≡ 44 → ⊥ = λ e. omega arith in
    simp (ne_eqb b 32 n₁, ne_eqb b 41 n₂, ne_eqb b 44 n₃)

kind-in : (lo hi b : ℕ) → 45 ≤ lo → between lo hi b ≡ true → in_word b ≡ true
unfolding between
kind-in lo hi b h e = let k = leb-true lo b (and_both (leb lo b) (leb b hi) e).0 in in-word b (omega arith)

digits_in : (ds : List ℕ) → all is_digit ds ≡ true → all in_word ds ≡ true
unfolding all
digits_in [] a = refl
digits_in (d ∷ ds) a =
    let k = and_both (is_digit d) (all is_digit ds) a in
    rw (kind-in 48 57 d (omega arith) k.0) (digits_in ds k.1)

count-in : {c : List ℕ} {n : ℕ} → CountText c n → all in_word c ≡ true
unfolding all
count-in G.none = refl
count-in (written ds a z l m) = digits_in ds a

no-bracket : (a : ℕ) (r : List ℕ) → is_capital a ≡ true → has_at (a ∷ r) 0 40 ≡ false
unfolding between
no-bracket a r up =
    let k = leb-true 65 a (and_both (leb 65 a) (leb a 90) up).0 in
    not-holds (has_at (a ∷ r) 0 40) (λ h. let e : a ≡ 40 = has-byte (a ∷ r) 0 40 h in omega arith)

-- a term is a word that begins with no bracket
record TermWord (w : List ℕ) : Type 0 where
  plain : all in_word w ≡ true
  first : (r : List ℕ) → has_at (w ++ r) 0 40 ≡ false

term-by : {symbol : List ℕ} {a b n : ℕ} (c : List ℕ) → SymbolText symbol a b → CountText c n → TermWord (symbol ++ c)
unfolding all
term-by c (capital a up) k =
    record { plain = rw (kind-in 65 90 a (omega arith) up) (count-in k); first = λ r. no-bracket a (c ++ r) up }
term-by c (capital_small a b up low) k =
    record {
      plain = rw (kind-in 65 90 a (omega arith) up, kind-in 97 122 b (omega arith) low) (count-in k);
      first = λ r. no-bracket a (b ∷ (c ++ r)) up;
    }

term-word : {w : List ℕ} → IsLeaf w → TermWord w
term-word l = let t = l.is in subst TermWord (sym t.text) (term-by t.count t.is_symbol t.is_count)

-- a word ends where no byte of a word follows
module _ (w r : List ℕ) (a : all in_word w ≡ true) (e : run_of in_word r ≡ 0) where
  word-is : word (w ++ r) ≡ w
  word-is = take_at w r (run_of in_word (w ++ r)) (sym (run-append in_word w r a e))

  past_is : past (w ++ r) ≡ r
  past_is = drop_at w r (run_of in_word (w ++ r)) (sym (run-append in_word w r a e))

-- no byte of a word follows, and for a moiety no space either
abbrev pub Ends : List ℕ → Type 0
Ends r = (run_of in_word r ≡ 0) × (has_at r 0 32 ≡ false)

ends : (b : ℕ) (r : List ℕ) → in_word b ≡ false → run_of in_word (b ∷ r) ≡ 0
ends b r e = run_none in_word b r e

pub front-is : (b : ℕ) (r : List ℕ) → has_at (b ∷ r) 0 b ≡ true
unfolding has_at kind_at
front-is b r = let l : 0 < suc (length r) = omega arith in simp (lt-ltb 0 (suc (length r)) l, eq-eqb b b refl)

front-not : (b x : ℕ) (r : List ℕ) → (b ≡ x → ⊥) → has_at (b ∷ r) 0 x ≡ false
front-not b x r n = not-holds (has_at (b ∷ r) 0 x) (λ h. n (has-byte (b ∷ r) 0 x h))

at_bracket : (r : List ℕ) → Ends (41 ∷ r)
unfolding in_word other
at_bracket r = (ends 41 r refl, front-not 41 32 r (λ e. omega arith))

at-space : (r : List ℕ) → run_of in_word (32 ∷ r) ≡ 0
unfolding in_word other
at-space r = ends 32 r refl

pub at-comma : (r : List ℕ) → Ends (44 ∷ r)
unfolding in_word other
at-comma r = (ends 44 r refl, front-not 44 32 r (λ e. omega arith))

pub at_end : Ends []
unfolding run_of has_at kind_at
at_end = (refl, refl)

word-reads : (w r : List ℕ) → IsLeaf w → run_of in_word r ≡ 0 → word_part (w ++ r) ≡ got (term w) r
unfolding word_part
word-reads w r l z =
    let a = (term-word l).plain in
    rw (word-is w r a z, past_is w r a z, leaf-read w l)

closed-reads : (m : Moiety) (c r : List ℕ) → IsTimes c → run_of in_word r ≡ 0 → closed m (41 ∷ (c ++ r)) ≡ got (group m c) r
unfolding closed
closed-reads m c r t z =
    let a = count-in t.is in
    rw (front-is 41 (c ++ r), word-is c r a z, past_is c r a z, times-read c t)

mutual
  unfolding part_of shown_part

  pub part-reads : {d : ℕ} {p : Part} → IsPart d p → (f : ℕ) → 2 * length (shown_part p) < f → (r : List ℕ) → run_of in_word r ≡ 0 → part_of f d (shown_part p ++ r) ≡ got p r
  part-reads (is_term e) zero l r z = absurd (omega arith)
  part-reads {d} {p} (is_term {w = w} e) (suc f) l r z = rw ((term-word e).first r) (word-reads w r e z)
  part-reads (is_group is e) zero l r z = absurd (omega arith)
  part-reads (is_group {d} {m} {c} is e) (suc f) l r z =
      let long = length-append (shown m) (41 ∷ c) in
      let inner : moiety_of f d (shown m ++ (41 ∷ (c ++ r))) ≡ got m (41 ∷ (c ++ r)) = moiety-reads is f (omega arith) (41 ∷ (c ++ r)) (at_bracket (c ++ r)) in
      rw (append_assoc (shown m) (41 ∷ c) r, front-is 40 (shown m ++ (41 ∷ (c ++ r))), eqb-suc-zero d, sub-one (suc d), inner) (closed-reads m c r e z)

  pub moiety-reads : {d : ℕ} {m : Moiety} → IsMoiety d m → (f : ℕ) → 2 * length (shown m) + 1 < f → (r : List ℕ) → Ends r → moiety_of f d (shown m ++ r) ≡ got m r
  moiety-reads (is_one is) zero l r z = absurd (omega arith)
  moiety-reads (is_one {p = p} is) (suc f) l r z = rw (part-reads is f (omega arith) r z.0, z.1)
  moiety-reads (is_more is ms) zero l r z = absurd (omega arith)
  moiety-reads {d} (is_more {p = p} {m = m} is ms) (suc f) l r z =
      let long = length-append (shown_part p) (32 ∷ shown m) in
      let first : part_of f d (shown_part p ++ (32 ∷ (shown m ++ r))) ≡ got p (32 ∷ (shown m ++ r)) = part-reads is f (omega arith) (32 ∷ (shown m ++ r)) (at-space (shown m ++ r)) in
      let rest : moiety_of f d (shown m ++ r) ≡ got m r = moiety-reads ms f (omega arith) r z in
      rw (append_assoc (shown_part p) (32 ∷ shown m) r, first, front-is 32 (shown m ++ r), rest)
