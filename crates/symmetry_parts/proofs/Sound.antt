-- Every text that is read as a part is one of the grammar's, with those numbers.
-- Assumes nothing.
use mathlib.Core.Path.{◌≡◌, refl, sym, ap, subst, ◌∙◌}
use mathlib.Core.Bool.{Bool, true, false, cond, false≢true}
use mathlib.Core.Logic.{◌⊎◌, inl, inr}
use mathlib.Core.List.{List, [], ◌∷◌, ◌++◌, append-nil}
use Prim.Native.Nat.{ℕ, ◌+◌, ◌≤◌, ◌<◌}
use native.Mathlib.Omega.{arith}
use borrow.Author.Tests.{eqb-true, leb-false}
use lib.Dec.{eqb, leb}
use lib.ListN.{length, drop, length-append}
use lib.Seq.{drop_at}
use lib.IntN.{ℤ, pos}
use Rattle.std.specs.Prelude.{Option, Some, None, option_map}
use Rattle.std.proofs.lemmas.Option.{none-some, same_Some}
use Rattle.text.proofs.Bools.{or-either, cond-first}
use Rattle.symmetry_operators.specs.Operator.{Part}
use Rattle.symmetry_fractions.specs.Grammar.{sign_byte, with_sign, IsFraction}
use Rattle.symmetry_fractions.specs.Reading.{is_sign, signed24ths, fraction_of}
use Rattle.symmetry_fractions.proofs.Wording.{fraction-size, fraction-length, begins}
use Rattle.symmetry_parts.specs.Grammar.{Letter, letter_byte, Signed, sum_text, times_in, WithFraction, MayLackPlus, IsPart}
use Rattle.symmetry_parts.specs.Reading.{part_numbers, is_free, with_letter, with_translation, last_fraction, more_of, first_of, after_first_sign, part_of}
use Rattle.symmetry_parts.specs.declared.Sum.{Sum}
use Rattle.symmetry_parts.proofs.Letters.{put_all, fits, all-translation}
use Rattle.symmetry_parts.proofs.Worth.{Tail, start, factors, sum-worth, own-worth, fit-once, signed-residue, signed-some}

-- a choice that is not its first side is its second, and the test fails
cond-second : (t : Bool) (x y z : Option Sum) → (x ≡ z → ⊥) → cond t x y ≡ z → (t ≡ false) × (y ≡ z)
cond-second true x y z n e = absurd (n e)
cond-second false x y z n e = (refl, e)

-- the sign and the letter that a byte is
record SignOf (b : ℕ) : Type 0 where
  minus : Bool
  is : b ≡ sign_byte minus

sign_of : (b : ℕ) → is_sign b ≡ true → SignOf b
unfolding is_sign
sign_of b e = by (or-either (eqb b 43) (eqb b 45) e)
  where
    by : (eqb b 43 ≡ true) ⊎ (eqb b 45 ≡ true) → SignOf b
    by (inl h) = record { minus = false; is = eqb-true b 43 h }
    by (inr h) = record { minus = true; is = eqb-true b 45 h }

record LetterOf (b : ℕ) : Type 0 where
  letter : Letter
  is : b ≡ letter_byte letter

letter-by : (p : Sum) (b : ℕ) (x y z : Bool) → eqb b 120 ≡ x → eqb b 121 ≡ y → eqb b 122 ≡ z
    → cond x (eqb p.x 0) (cond y (eqb p.y 0) (cond z (eqb p.z 0) false)) ≡ true → LetterOf b
letter-by p b true y z h k l e = record { letter = Letter.X; is = eqb-true b 120 h }
letter-by p b false true z h k l e = record { letter = Letter.Y; is = eqb-true b 121 k }
letter-by p b false false true h k l e = record { letter = Letter.Z; is = eqb-true b 122 l }
letter-by p b false false false h k l e = absurd (false≢true e)

letter-of : (p : Sum) (b : ℕ) → is_free p b ≡ true → LetterOf b
unfolding is_free
letter-of p b e = letter-by p b (eqb b 120) (eqb b 121) (eqb b 122) refl refl refl e

-- a text that is as long as the fraction that it begins with is that fraction
empty_of : (r : List ℕ) → length r ≡ 0 → r ≡ []
empty_of [] e = refl
empty_of (b ∷ r) e = absurd (omega arith)

fraction-whole : (s : List ℕ) (size : ℕ) → length s ≡ 3 → fraction_of s ≡ Some size → IsFraction s size
fraction-whole s size e some =
    let b = begins s size some in
    let long : length s ≡ length b.fraction + length b.rest = ap length b.text ∙ length-append b.fraction b.rest in
    let none : b.rest ≡ [] = empty_of b.rest (omega (arith, fraction-length b.is-fraction)) in
    let same : b.fraction ≡ s = sym (b.text ∙ ap (λ (r : List ℕ). b.fraction ++ r) none ∙ append-nil b.fraction) in
    subst (λ (t : List ℕ). IsFraction t size) same b.is-fraction

last-by : (p : Sum) (minus : Bool) (s : List ℕ) (q : Sum) (x : Option ℕ) → fraction_of s ≡ x → length s ≡ 3 → p.t ≡ 0
    → option_map (λ (size : ℕ). with_translation p (signed24ths (sign_byte minus) size)) x ≡ Some q → Tail p (sign_byte minus ∷ s) q
last-by p minus s q None h l z e = absurd (none-some q e)
last-by p minus s q (Some n) h l z e = subst (Tail p (sign_byte minus ∷ s)) (same_Some _ q e) (Tail.last minus s n (fraction-whole s n l h) z)

last-is : (p : Sum) (minus : Bool) (s : List ℕ) (q : Sum) → last_fraction p (sign_byte minus) s ≡ Some q → Tail p (sign_byte minus ∷ s) q
unfolding last_fraction
last-is p minus s q e =
    let a = cond-first (eqb p.t 0) _ None (Some q) (none-some q) e in
    let b = cond-first (eqb (length s) 3) _ None (Some q) (none-some q) a.1 in
    last-by p minus s q (fraction_of s) refl (eqb-true _ _ b.0) (eqb-true _ _ a.0) b.1

-- what is read after p: signed letters that fit, and the tail
record Rest (p : Sum) (s : List ℕ) (q : Sum) : Type 0 where
  letters : List Signed
  tail : List ℕ
  text : s ≡ sum_text letters ++ tail
  fit : fits p letters ≡ true
  is-tail : Tail (put_all p letters) tail q

added : (p : Sum) (minus : Bool) (c : Letter) (r : List ℕ) (q : Sum) → is_free p (letter_byte c) ≡ true → Rest (with_letter p (letter_byte c) (signed24ths (sign_byte minus) 1)) r q
    → Rest p (sign_byte minus ∷ (letter_byte c ∷ r)) q
unfolding fits put_all sum_text
added p minus c r q f k =
    record {
      letters = record { minus = minus; letter = c } ∷ k.letters;
      tail = k.tail;
      text = ap (λ (u : List ℕ). sign_byte minus ∷ (letter_byte c ∷ u)) k.text;
      fit = rw f k.fit;
      is-tail = k.is-tail;
    }

more_by : (p : Sum) (sign b : ℕ) (r : List ℕ) (q : Sum) → (more_of (with_letter p b (signed24ths sign 1)) r ≡ Some q → Rest (with_letter p b (signed24ths sign 1)) r q)
    → (t : Bool) → is_free p b ≡ t → SignOf sign → cond t (more_of (with_letter p b (signed24ths sign 1)) r) (last_fraction p sign (b ∷ r)) ≡ Some q → Rest p (sign ∷ (b ∷ r)) q
unfolding fits put_all sum_text
more_by p sign b r q ih true f s e =
    let l = letter-of p b f in
    let m = s.minus in
    let c = l.letter in
    let k = subst (λ (x : ℕ). Rest (with_letter p x (signed24ths (sign_byte m) 1)) r q) l.is (subst (λ (x : ℕ). Rest (with_letter p b (signed24ths x 1)) r q) s.is (ih e)) in
    let free : is_free p (letter_byte c) ≡ true = ap (is_free p) (sym l.is) ∙ f in
    subst (λ (x : ℕ). Rest p (x ∷ (b ∷ r)) q) (sym s.is) (subst (λ (x : ℕ). Rest p (sign_byte m ∷ (x ∷ r)) q) (sym l.is) (added p m c r q free k))
more_by p sign b r q ih false f s e =
    let last : Tail p (sign_byte s.minus ∷ (b ∷ r)) q = last-is p s.minus (b ∷ r) q (ap (λ (x : ℕ). last_fraction p x (b ∷ r)) (sym s.is) ∙ e) in
    record {
      letters = [];
      tail = sign ∷ (b ∷ r);
      text = refl;
      fit = refl;
      is-tail = subst (λ (x : ℕ). Tail p (x ∷ (b ∷ r)) q) (sym s.is) last;
    }

more-is : (p : Sum) (s : List ℕ) (q : Sum) → more_of p s ≡ Some q → Rest p s q
unfolding more_of fits put_all sum_text
more-is p [] q e = record { letters = []; tail = []; text = refl; fit = refl; is-tail = subst (Tail p []) (same_Some p q e) Tail.none }
more-is p (sign ∷ []) q e = absurd (none-some q e)
more-is p (sign ∷ (b ∷ r)) q e =
    let h = cond-first (is_sign sign) _ None (Some q) (none-some q) e in
    more_by p sign b r q (more-is (with_letter p b (signed24ths sign 1)) r q) (is_free p b) refl (sign_of sign h.0) h.1

-- a part's text with every sign
record Full (t : List ℕ) (p : Part ℤ) : Type 0 where
  letters : List Signed
  translation : ℤ
  some : 1 ≤ length letters
  once : (c : Letter) → times_in c letters ≤ 1
  with_fraction : WithFraction (sum_text letters) t translation
  worth : p ≡ factors letters translation

tail-full : (l : List Signed) {t : List ℕ} {q : Sum} → 1 ≤ length l → fits (start 0) l ≡ true → Tail (put_all (start 0) l) t q → Full (sum_text l ++ t) (part_numbers q)
tail-full l some f Tail.none =
    record {
      letters = l;
      translation = pos 0;
      some = some;
      once = fit-once 0 l f;
      with_fraction = subst (λ (u : List ℕ). WithFraction (sum_text l) u (pos 0)) (sym (append-nil (sum_text l))) WithFraction.none;
      worth = own-worth 0 l f;
    }
tail-full l some f (Tail.last minus t n h e) =
    let size = fraction-size h in
    record {
      letters = l;
      translation = with_sign minus n;
      some = some;
      once = fit-once 0 l f;
      with_fraction = WithFraction.last minus t n h;
      worth = sum-worth 0 (signed24ths (sign_byte minus) n) l f ∙ rw (signed-residue minus n size.0 size.1);
    }

letter-full : (minus : Bool) (c : Letter) (r : List ℕ) (q : Sum) → is_free (start 0) (letter_byte c) ≡ true → Rest (with_letter (start 0) (letter_byte c) (signed24ths (sign_byte minus) 1)) r q
    → Full (sign_byte minus ∷ (letter_byte c ∷ r)) (part_numbers q)
unfolding sum_text fits put_all
letter-full minus c r q f k =
    let l : List Signed = record { minus = minus; letter = c } ∷ k.letters in
    rw k.text (tail-full l (omega arith) (rw f k.fit) k.is-tail)

-- after a fraction no other follows, and there are letters
fraction-full : (minus : Bool) {t : List ℕ} {n : ℕ} (r : List ℕ) (q : Sum) → IsFraction t n → 1 ≤ length r → Rest (start (signed24ths (sign_byte minus) n)) r q
    → Full (sign_byte minus ∷ (t ++ r)) (part_numbers q)
unfolding sum_text
fraction-full minus {t} {n} r q h some k = by k.letters k.fit k.text k.is-tail
  where
    m : ℕ
    m = signed24ths (sign_byte minus) n

    letters-some : (l : List Signed) → r ≡ sum_text l ++ [] → 1 ≤ length l
    letters-some [] e = absurd (omega (arith, ap length e))
    letters-some (a ∷ l) e = omega arith

    by : (l : List Signed) {u : List ℕ} {v : Sum} → fits (start m) l ≡ true → r ≡ sum_text l ++ u → Tail (put_all (start m) l) u v → Full (sign_byte minus ∷ (t ++ r)) (part_numbers v)
    by l f e Tail.none =
        let size = fraction-size h in
        record {
          letters = l;
          translation = with_sign minus n;
          some = letters-some l e;
          once = fit-once m l f;
          with_fraction = subst (λ (u : List ℕ). WithFraction (sum_text l) (sign_byte minus ∷ (t ++ u)) (with_sign minus n)) (sym (e ∙ append-nil (sum_text l))) (WithFraction.first minus t n h);
          worth = own-worth m l f ∙ rw (signed-residue minus n size.0 size.1);
        }
    by l f e (Tail.last _ _ _ _ z) = let size = fraction-size h in absurd (signed-some minus n size.0 size.1 (sym (all-translation (start m) l) ∙ z))

letter-first : (minus : Bool) (b : ℕ) (r : List ℕ) (q : Sum) → is_free (start 0) b ≡ true
    → more_of (with_letter (start 0) b (signed24ths (sign_byte minus) 1)) r ≡ Some q → Full (sign_byte minus ∷ (b ∷ r)) (part_numbers q)
letter-first minus b r q f e =
    let l = letter-of (start 0) b f in
    let c = l.letter in
    let k = subst (λ (x : ℕ). Rest (with_letter (start 0) x (signed24ths (sign_byte minus) 1)) r q) l.is (more-is _ r q e) in
    subst (λ (x : ℕ). Full (sign_byte minus ∷ (x ∷ r)) (part_numbers q)) (sym l.is) (letter-full minus c r q (ap (is_free (start 0)) (sym l.is) ∙ f) k)

fraction-first-is : (minus : Bool) (s : List ℕ) (n : ℕ) (q : Sum) → fraction_of s ≡ Some n → 3 < length s
    → more_of (start (signed24ths (sign_byte minus) n)) (drop 3 s) ≡ Some q → Full (sign_byte minus ∷ s) (part_numbers q)
fraction-first-is minus s n q some long e =
    let b = begins s n some in
    let f = b.is-fraction in
    let rest : drop 3 s ≡ b.rest = ap (drop 3) b.text ∙ drop_at b.fraction b.rest 3 (fraction-length f) in
    let total : length s ≡ length b.fraction + length b.rest = ap length b.text ∙ length-append b.fraction b.rest in
    let more : 1 ≤ length b.rest = omega (arith, fraction-length f) in
    let k = more-is (start (signed24ths (sign_byte minus) n)) b.rest q (ap (more_of (start (signed24ths (sign_byte minus) n))) (sym rest) ∙ e) in
    subst (λ (u : List ℕ). Full (sign_byte minus ∷ u) (part_numbers q)) (sym b.text) (fraction-full minus b.rest q f more k)

first_by : (minus : Bool) (s : List ℕ) (q : Sum) (x : Option ℕ) → fraction_of s ≡ x → first_of (sign_byte minus) s x ≡ Some q
    → Full (sign_byte minus ∷ s) (part_numbers q)
first_by minus [] q None z e = absurd (none-some q e)
first_by minus (b ∷ r) q None z e = let h = cond-first (is_free (start 0) b) _ None (Some q) (none-some q) e in letter-first minus b r q h.0 h.1
first_by minus s q (Some n) z e =
    let h = cond-second (leb (length s) 3) None _ (Some q) (none-some q) e in
    fraction-first-is minus s n q z (leb-false _ _ h.0) h.1

first-is : (minus : Bool) (s : List ℕ) (q : Sum) → after_first_sign (sign_byte minus) s ≡ Some q → Full (sign_byte minus ∷ s) (part_numbers q)
unfolding after_first_sign
first-is minus s q e = first_by minus s q (fraction_of s) refl e

written_is : {full t : List ℕ} {p : Part ℤ} → Full full p → MayLackPlus full t → IsPart t p
written_is {full} k w =
    record {
      letters = k.letters;
      full = full;
      translation = k.translation;
      some = k.some;
      once = k.once;
      with_fraction = k.with_fraction;
      written = w;
      worth = k.worth;
    }

part_by : (b : ℕ) (r : List ℕ) (q : Sum) (t : Bool) → is_sign b ≡ t → cond t (after_first_sign b r) (after_first_sign 43 (b ∷ r)) ≡ Some q
    → IsPart (b ∷ r) (part_numbers q)
part_by b r q true h e =
    let s = sign_of b h in
    let full = first-is s.minus r q (ap (λ (x : ℕ). after_first_sign x r) (sym s.is) ∙ e) in
    subst (λ (x : ℕ). IsPart (x ∷ r) (part_numbers q)) (sym s.is) (written_is full (MayLackPlus.in_full _))
part_by b r q false h e = written_is (first-is false (b ∷ r) q e) (MayLackPlus.plus_missing (b ∷ r))

-- what is read as a part the grammar takes for it
pub part-is : (s : List ℕ) (q : Sum) → part_of s ≡ Some q → IsPart s (part_numbers q)
unfolding part_of
part-is [] q e = written_is (first-is false [] q e) (MayLackPlus.plus_missing [])
part-is (b ∷ r) q e = part_by b r q (is_sign b) refl e
