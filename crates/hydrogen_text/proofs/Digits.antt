-- The text of n hydrogens is the term of n hydrogens, and has no space.
-- Assumes nothing.
use Prim.Native.Nat.{ℕ, ◌+◌, ◌-◌, ◌*◌, ◌/◌, ◌%◌, ◌≤◌, ◌<◌}
use mathlib.Core.Path.{◌≡◌, refl, ap, subst, ◌∙◌}
use mathlib.Core.Bool.{Bool, true, false, cond}
use mathlib.Core.List.{List, [], ◌∷◌, ◌++◌}
use native.Mathlib.Omega.{arith}
use borrow.Author.Tests.{leb-true, leb-false, le-leb, lt-ltb, le-ltb}
use lib.Dec.{leb, ltb}
use lib.ListN.{get_or}
use Rattle.text.specs.Run.{all, between, other, is_digit, is_capital}
use Rattle.text.proofs.Runs.{all-lack}
use Rattle.number_decimal.specs.Digits.{value_from, value_of, digit, last_digits}
use Rattle.formula_terms.specs.Term.{most_count, term_of, well}
use Rattle.formula_terms.specs.Grammar.{capital, CountText, written, IsTerm}
use Rattle.formula_terms.specs.Grammar as grammar
use Rattle.formula_terms.proofs.Wording.{term-of}
use Rattle.hydrogen_text.specs.Hydrogens.{decimal_of, hydrogen_text}

abbrev pub last_digit : ℕ → ℕ
last_digit n = digit (n % 10)

is-digit : (n : ℕ) → is_digit (last_digit n) ≡ true
unfolding between
is-digit n = let a : 48 ≤ last_digit n = omega arith in let b : last_digit n ≤ 57 = omega arith in simp (le-leb 48 (last_digit n) a, le-leb (last_digit n) 57 b)

-- by how many digits there are
pub decimal-cases : (n : ℕ) → decimal_of n
    ≡ cond (leb n 9) (last_digit n ∷ [])
    (cond (leb n 99) (last_digit (n / 10) ∷ (last_digit n ∷ []))
    (cond (leb n 999) (last_digit (n / 10 / 10) ∷ (last_digit (n / 10) ∷ (last_digit n ∷ [])))
    (last_digit (n / 10 / 10 / 10) ∷ (last_digit (n / 10 / 10) ∷ (last_digit (n / 10) ∷ (last_digit n ∷ []))))))
unfolding decimal_of last_digits
decimal-cases n = go (leb n 9) (leb n 99) (leb n 999) (ltb (n / 10 / 10 / 10) 10) refl refl refl
  where
    go : (a b c d : Bool) → leb n 9 ≡ a → leb n 99 ≡ b → leb n 999 ≡ c
        → cond (ltb n 10) [] (cond (ltb (n / 10) 10) [] (cond (ltb (n / 10 / 10) 10) [] (cond d [] [] ++ (last_digit (n / 10 / 10 / 10) ∷ [])) ++ (last_digit (n / 10 / 10) ∷ [])) ++ (last_digit (n / 10) ∷ [])) ++ (last_digit n ∷ [])
        ≡ cond a (last_digit n ∷ [])
        (cond b (last_digit (n / 10) ∷ (last_digit n ∷ []))
        (cond c (last_digit (n / 10 / 10) ∷ (last_digit (n / 10) ∷ (last_digit n ∷ [])))
        (last_digit (n / 10 / 10 / 10) ∷ (last_digit (n / 10 / 10) ∷ (last_digit (n / 10) ∷ (last_digit n ∷ []))))))
    go true b c d x y z = let h = leb-true n 9 x in rw (lt-ltb n 10 (omega arith))
    go false true c d x y z =
        let h = leb-false n 9 x in
        let k = leb-true n 99 y in
        rw (le-ltb n 10 (omega arith), lt-ltb (n / 10) 10 (omega arith))
    go false false true d x y z =
        let k = leb-false n 99 y in
        let l = leb-true n 999 z in
        rw (le-ltb n 10 (omega arith), le-ltb (n / 10) 10 (omega arith), lt-ltb (n / 10 / 10) 10 (omega arith))
    go false false false true x y z =
        let l = leb-false n 999 z in
        rw (le-ltb n 10 (omega arith), le-ltb (n / 10) 10 (omega arith), le-ltb (n / 10 / 10) 10 (omega arith))
    go false false false false x y z =
        let l = leb-false n 999 z in
        rw (le-ltb n 10 (omega arith), le-ltb (n / 10) 10 (omega arith), le-ltb (n / 10 / 10) 10 (omega arith))

-- digits that write n, with no leading zero
record Writes (n : ℕ) (ds : List ℕ) : Type 0 where
  digits : all is_digit ds ≡ true
  leads : get_or ds 0 0 ≡ 48 → ⊥
  worth : value_of ds ≡ n

module _ (n : ℕ) where
  write-1 : 1 ≤ n → n ≤ 9 → Writes n (last_digit n ∷ [])
  unfolding all value_from
  write-1 l m = record { digits = rw (is-digit n); leads = λ e. omega arith; worth = omega arith }

  write-2 : 9 < n → n ≤ 99 → Writes n (last_digit (n / 10) ∷ (last_digit n ∷ []))
  unfolding all value_from
  write-2 l m = record { digits = rw (is-digit n, is-digit (n / 10)); leads = λ e. omega arith; worth = omega arith }

  write-3 : 99 < n → n ≤ 999 → Writes n (last_digit (n / 10 / 10) ∷ (last_digit (n / 10) ∷ (last_digit n ∷ [])))
  unfolding all value_from
  write-3 l m = record { digits = rw (is-digit n, is-digit (n / 10), is-digit (n / 10 / 10)); leads = λ e. omega arith; worth = omega arith }

  write-4 : 999 < n → n ≤ most_count → Writes n (last_digit (n / 10 / 10 / 10) ∷ (last_digit (n / 10 / 10) ∷ (last_digit (n / 10) ∷ (last_digit n ∷ []))))
  unfolding all value_from
  write-4 l m =
      let a : 100 ≤ n / 10 = omega arith in
      let b : 10 ≤ n / 10 / 10 = omega arith in
      let c : 1 ≤ n / 10 / 10 / 10 = omega arith in
      let u : n / 10 ≤ 999 = omega arith in
      let v : n / 10 / 10 ≤ 99 = omega arith in
      let w : n / 10 / 10 / 10 ≤ 9 = omega arith in
      let e₀ : n / 10 * 10 + (last_digit n - 48) ≡ n = omega arith in
      let e₁ : n / 10 / 10 * 10 + (last_digit (n / 10) - 48) ≡ n / 10 = omega arith in
      let e₂ : n / 10 / 10 / 10 * 10 + (last_digit (n / 10 / 10) - 48) ≡ n / 10 / 10 = omega arith in
      let e₃ : 0 * 10 + (last_digit (n / 10 / 10 / 10) - 48) ≡ n / 10 / 10 / 10 = omega arith in
      record {
        digits = rw (is-digit n, is-digit (n / 10), is-digit (n / 10 / 10), is-digit (n / 10 / 10 / 10));
        leads = λ e. omega arith;
        worth =
            ap (λ (x : ℕ). ((x * 10 + (last_digit (n / 10 / 10) - 48)) * 10 + (last_digit (n / 10) - 48)) * 10 + (last_digit n - 48)) e₃
            ∙ ap (λ (x : ℕ). (x * 10 + (last_digit (n / 10) - 48)) * 10 + (last_digit n - 48)) e₂
            ∙ ap (λ (x : ℕ). x * 10 + (last_digit n - 48)) e₁
            ∙ e₀;
      }

  module _ (l : 1 ≤ n) (m : n ≤ most_count) where
    digits-write : Writes n (decimal_of n)
    digits-write = rw (decimal-cases n) (go (leb n 9) (leb n 99) (leb n 999) refl refl refl)
      where
        go : (a b c : Bool) → leb n 9 ≡ a → leb n 99 ≡ b → leb n 999 ≡ c
            → Writes n (cond a (last_digit n ∷ []) (cond b (last_digit (n / 10) ∷ (last_digit n ∷ [])) (cond c (last_digit (n / 10 / 10) ∷ (last_digit (n / 10) ∷ (last_digit n ∷ []))) (last_digit (n / 10 / 10 / 10) ∷ (last_digit (n / 10 / 10) ∷ (last_digit (n / 10) ∷ (last_digit n ∷ [])))))))
        go true b c x y z = write-1 l (leb-true n 9 x)
        go false true c x y z = write-2 (leb-false n 9 x) (leb-true n 99 y)
        go false false true x y z = write-3 (leb-false n 99 y) (leb-true n 999 z)
        go false false false x y z = write-4 (leb-false n 999 z) m

    text-is : IsTerm (hydrogen_text n) 72 32 n
    unfolding hydrogen_text between
    text-is = go (leb n 1) refl
      where
        up : is_capital 72 ≡ true
        up = refl

        go : (a : Bool) → leb n 1 ≡ a → IsTerm (cond a (72 ∷ []) (72 ∷ decimal_of n)) 72 32 n
        go true e =
            let k = leb-true n 1 e in
            let z : 1 ≡ n = omega arith in
            record { symbol = 72 ∷ []; count = []; text = refl; is_symbol = capital 72 up; is_count = subst (CountText []) z grammar.none }
        go false e =
            let w = digits-write in
            let v = w.worth in
            record {
              symbol = 72 ∷ [];
              count = decimal_of n;
              text = refl;
              is_symbol = capital 72 up;
              is_count = subst (CountText (decimal_of n)) v (written (decimal_of n) w.digits w.leads (omega arith) (omega arith));
            }

    -- it is read as the term of n hydrogens
    pub text-reads : term_of (hydrogen_text n) ≡ well 72 32 n
    text-reads = term-of (hydrogen_text n) 72 32 n text-is

    -- it has no space
    pub text-spaceless : all (other 32) (hydrogen_text n) ≡ true
    unfolding hydrogen_text all other between
    text-spaceless = go (leb n 1) (all-lack is_digit 32 refl (decimal_of n) digits-write.digits)
      where
        go : (a : Bool) → all (other 32) (decimal_of n) ≡ true → all (other 32) (cond a (72 ∷ []) (72 ∷ decimal_of n)) ≡ true
        go true q = refl
        go false q = q
