-- Row 12 judges exactly the expressions of document 01's words: each by its x, and any other text is not judgeable.
-- Assumes nothing.
use Rattle.std.specs.Prelude.{ℤ, Option, Some, None}
use mathlib.Core.Path.{◌≡◌, refl, sym, ap, subst, ◌∙◌}
use mathlib.Core.Bool.{Bool, true, false, cond, ◌||◌, and-false, false≢true}
use mathlib.Core.List.{List, [], ◌∷◌, ◌++◌, append_assoc}
use Prim.Native.Nat.{ℕ, ◌+◌, ◌-◌}
use native.Mathlib.Omega.{arith}
use borrow.Author.Tests.{le-leb, leb-true}
use lib.Dec.{leb}
use lib.ListN.{length, get_or, take, drop, length-append, take-append-drop}
use lib.Seq.{take-append_seam, drop-append_seam, drop-append-add, drop-drop, get_or-append_seam}
use lib.IntN.{pos, negsuc, neg_ℤ}
use Rattle.text.specs.Quote.{bytes}
use Rattle.text.specs.Run.{all, between, other, has_at, is_digit}
use Rattle.text.proofs.Bools.{and_both, not-holds}
use Rattle.text.proofs.Runs.{all_append, all-lack, lacks-nowhere, has_here}
use Rattle.text_equality.specs.Same.{exact, same_by}
use Rattle.text_equality.proofs.Sames.{map→same, same-exact}
use Rattle.number_decimal.specs.Reading.{reading_of}
use Rattle.number_decimal.specs.Grammar.{SignText, PointText, UncertaintyText, IsSize, IsNumber}
use Rattle.number_decimal.proofs.Complete.{first-no-sign, number-taken}
use Rattle.number_decimal.proofs.Sound.{number_is}
use Rattle.rows.specs.Rows.{row_of}
use Rattle.rows_threshold.specs.Threshold.{has_shape, inside_of, unsigned_reading, multiplier_of, multiplier_row, threshold_row}
use Rattle.rows_threshold.specs.Wording.{Expression, IsMultiplier, IsThreshold}

-- ---- the shape

module _ (p q x : List ℕ) where
  abbrev whole : List ℕ
  whole = p ++ (x ++ q)

  whole_long : length whole ≡ length p + (length x + length q)
  whole_long = length-append p (x ++ q) ∙ ap (λ (n : ℕ). length p + n) (length-append x q)

  -- a text of a shape has it
  shape-taken : has_shape p q whole ≡ true
  unfolding has_shape
  shape-taken =
      let end : length whole - length q ≡ length p + length x = omega (arith, whole_long) in
      let ends : drop (length whole - length q) whole ≡ q = ap (λ (n : ℕ). drop n whole) end ∙ drop-append-add p (x ++ q) (length x) ∙ drop-append_seam x q in
      simp (le-leb (length p + length q) (length whole) (omega (arith, whole_long)), take-append_seam p (x ++ q), ends, map→same exact p p refl, map→same exact q q refl)

  -- and x inside
  inside-taken : inside_of p q whole ≡ x
  inside-taken =
      let n : length whole - length p - length q ≡ length x = omega (arith, whole_long) in
      ap (λ (k : ℕ). take k (drop (length p) whole)) n ∙ ap (take (length x)) (drop-append_seam p (x ++ q)) ∙ take-append_seam x q

-- a text that has a shape is of it
shape_is : (p q t : List ℕ) → has_shape p q t ≡ true → t ≡ p ++ (inside_of p q t ++ q)
unfolding has_shape
shape_is p q t e =
    let h = and_both (leb (length p + length q) (length t)) _ e in
    let k = and_both (same_by exact (take (length p) t) p) _ h.1 in
    let long = leb-true (length p + length q) (length t) h.0 in
    let n = length t - length p - length q in
    let d = drop (length p) t in
    let at : length p + n ≡ length t - length q = omega arith in
    let ends : drop n d ≡ q = drop-drop n (length p) t ∙ ap (λ (m : ℕ). drop m t) at ∙ same-exact _ _ k.1 in
    sym (take-append-drop (length p) t) ∙ ap (λ (l : List ℕ). l ++ d) (same-exact _ _ k.0)
    ∙ ap (λ (l : List ℕ). p ++ l) (sym (take-append-drop n d) ∙ ap (λ (l : List ℕ). take n d ++ l) ends)

-- a text that does not begin with p has no shape of it
pub no-first : (p q t : List ℕ) → ((rest : List ℕ) → t ≡ p ++ rest → ⊥) → has_shape p q t ≡ false
no-first p q t n = not-holds (has_shape p q t) (λ e. n (inside_of p q t ++ q) (shape_is p q t e))

-- nor one that begins with p, but whose rest does not end with q
pub no-last : (p q t y : List ℕ) → t ≡ p ++ y → ((front : List ℕ) → y ≡ front ++ q → ⊥) → has_shape p q t ≡ false
no-last p q t y text n =
    not-holds (has_shape p q t)
    (λ e. n (inside_of p q t) (sym (drop-append_seam p y) ∙ ap (drop (length p)) (sym text ∙ shape_is p q t e) ∙ drop-append_seam p (inside_of p q t ++ q)))

-- a text of p, x and q has the shape, and x inside
pub shape-at : (p q t y x : List ℕ) → t ≡ p ++ y → y ≡ x ++ q → (has_shape p q t ≡ true) × (x ≡ inside_of p q t)
shape-at p q t y x text rest =
    let e : t ≡ p ++ (x ++ q) = text ∙ ap (λ (l : List ℕ). p ++ l) rest in
    (ap (has_shape p q) e ∙ shape-taken p q x, sym (ap (inside_of p q) e ∙ inside-taken p q x))

-- ---- what stands for x

-- neither a digit nor a point is the bracket that closes
digits-lack : (ds : List ℕ) → all is_digit ds ≡ true → all (other 41) ds ≡ true
unfolding between
digits-lack ds a = all-lack is_digit 41 refl ds a

point-lacks : {before fraction pointed : List ℕ} → all is_digit fraction ≡ true → PointText before fraction pointed → all (other 41) pointed ≡ true
unfolding all other
point-lacks a (PointText.whole before some) = refl
point-lacks a (PointText.each_side before fraction some one) = digits-lack fraction a
point-lacks a (PointText.before_only before some) = refl
point-lacks a (PointText.after_only fraction one) = digits-lack fraction a

-- a number without sign and uncertainty is read
module _ {x : List ℕ} {m : ℕ} (h : IsMultiplier x m) where
  lacks-bracket : all (other 41) x ≡ true
  unfolding all
  lacks-bracket =
      let s = h.is_size in
      ap (all (other 41)) s.text
      ∙ all_append (other 41) s.before (s.pointed ++ s.tail) (digits-lack s.before s.before_digits)
      (all_append (other 41) s.pointed s.tail (point-lacks s.fraction_digits s.is_point) (ap (all (other 41)) h.certain))

  multiplier-taken : multiplier_of x ≡ Some m
  unfolding multiplier_of
  multiplier-taken =
      let s = h.is_size in
      let n : IsNumber x (pos m) = record { negative = false; sign = []; rest = x; size = m; text = refl; is_sign = SignText.unsigned; is_size = s; worth = refl } in
      simp (first-no-sign s 43 (omega arith), first-no-sign s 45 (omega arith), lacks-nowhere 41 x (length x - 1) lacks-bracket, number-taken x (pos m) n)

-- a text with b after it ends with b
pub ends_with : (y : List ℕ) (b : ℕ) → has_at (y ++ (b ∷ [])) (length (y ++ (b ∷ [])) - 1) b ≡ true
ends_with y b =
    let s : List ℕ = y ++ (b ∷ []) in
    let long : length s ≡ length y + 1 = length-append y (b ∷ []) in
    let at : length s - 1 ≡ length y = omega arith in
    has_here s (length s - 1) b (omega arith) (ap (λ (n : ℕ). get_or s n 0) at ∙ get_or-append_seam y b [] 0)

-- an uncertainty ends with its bracket
certain-by : (a b : List ℕ) {tail : List ℕ} → UncertaintyText tail → has_at (a ++ (b ++ tail)) (length (a ++ (b ++ tail)) - 1) 41 ≡ false → tail ≡ []
certain-by a b UncertaintyText.none h = refl
certain-by a b (UncertaintyText.bracket u d some few) h =
    let y : List ℕ = a ++ (b ++ (40 ∷ u)) in
    let e : a ++ (b ++ (40 ∷ (u ++ (41 ∷ [])))) ≡ y ++ (41 ∷ [])
    = ap (λ (l : List ℕ). a ++ l) (sym (append_assoc b (40 ∷ u) (41 ∷ []))) ∙ sym (append_assoc a (b ++ (40 ∷ u)) (41 ∷ [])) in
    absurd (false≢true (sym h ∙ ap (λ (s : List ℕ). has_at s (length s - 1) 41) e ∙ ends_with y 41))

size-by : {x sign rest : List ℕ} {negative : Bool} {m n : ℕ} → x ≡ sign ++ rest → SignText negative sign → IsSize rest n → pos m ≡ cond negative (neg_ℤ (pos n)) (pos n)
    → has_at x 0 43 ≡ false → has_at x 0 45 ≡ false → IsSize x m
size-by {x} {sign} {rest} {negative} {m} {n} text SignText.unsigned s w f g =
    let e : n ≡ m = cc in
    subst (λ (y : List ℕ). IsSize y m) (sym text) (subst (λ (k : ℕ). IsSize rest k) e s)
size-by {rest = rest} text SignText.plus s w f g = absurd (false≢true (sym f ∙ ap (λ (y : List ℕ). has_at y 0 43) text ∙ has_here (43 ∷ rest) 0 43 (omega arith) refl))
size-by {rest = rest} text SignText.minus s w f g = absurd (false≢true (sym g ∙ ap (λ (y : List ℕ). has_at y 0 45) text ∙ has_here (45 ∷ rest) 0 45 (omega arith) refl))

module _ (x : List ℕ) (m : ℕ) where
  read_by : (r : Option ℤ) → reading_of x ≡ r → unsigned_reading r ≡ Some m → reading_of x ≡ Some (pos m)
  read_by (Some (pos n)) e q = let k : n ≡ m = cc in e ∙ ap (λ (i : ℕ). Some (pos i)) k
  read_by (Some (negsuc n)) e q = let z : ◌≡◌ {A = ℕ} 0 1 = cc in absurd (omega arith)
  read_by None e q = let z : ◌≡◌ {A = ℕ} 0 1 = cc in absurd (omega arith)

  is-by : (plus minus bracket : Bool) → has_at x 0 43 ≡ plus → has_at x 0 45 ≡ minus → has_at x (length x - 1) 41 ≡ bracket
      → cond (plus || (minus || bracket)) None (unsigned_reading (reading_of x)) ≡ Some m → IsMultiplier x m
  is-by true minus bracket p q b e = let z : ◌≡◌ {A = ℕ} 0 1 = cc in absurd (omega arith)
  is-by false true bracket p q b e = let z : ◌≡◌ {A = ℕ} 0 1 = cc in absurd (omega arith)
  is-by false false true p q b e = let z : ◌≡◌ {A = ℕ} 0 1 = cc in absurd (omega arith)
  is-by false false false p q b e =
      let n = number_is x (pos m) (read_by (reading_of x) refl e) in
      let s = size-by n.text n.is_sign n.is_size n.worth p q in
      record { is_size = s; certain = certain-by s.before s.pointed s.is_uncertainty (sym (ap (λ (y : List ℕ). has_at y (length y - 1) 41) s.text) ∙ b) }

  -- what is read is a number without sign and uncertainty
  multiplier-is : multiplier_of x ≡ Some m → IsMultiplier x m
  unfolding multiplier_of
  multiplier-is e = is-by (has_at x 0 43) (has_at x 0 45) (has_at x (length x - 1) 41) refl refl refl e

-- ---- the row

-- the two ends of each shape
abbrev i-first : List ℕ
i-first = bytes "I > "

abbrev i-last : List ℕ
i-last = bytes "\\s(I)"

abbrev f2-first : List ℕ
f2-first = bytes "F^2^ > "

abbrev f2-last : List ℕ
f2-last = bytes "\\s(F^2^)"

abbrev f-first : List ℕ
f-first = bytes "F > "

abbrev f-last : List ℕ
f-last = bytes "\\s(F)"

-- a text that begins with F has not the shape of I, and one that begins with `F ` not that of F^2^
not-intensity : (r : List ℕ) → has_shape i-first i-last (70 ∷ r) ≡ false
unfolding has_shape same_by
not-intensity r = and-false (leb (length i-first + length i-last) (length (70 ∷ r)))

not-f-squared : (r : List ℕ) → has_shape f2-first f2-last (70 ∷ 32 ∷ r) ≡ false
unfolding has_shape same_by
not-f-squared r = and-false (leb (length f2-first + length f2-last) (length (70 ∷ 32 ∷ r)))

-- an expression is judged by its x
expression-row : {t x : List ℕ} {alone : Bool} → Expression t alone x → threshold_row t ≡ multiplier_row alone (multiplier_of x)
unfolding threshold_row
expression-row (Expression.intensity x) = simp (shape-taken i-first i-last x, inside-taken i-first i-last x)
expression-row (Expression.f_squared x) = simp (not-intensity, shape-taken f2-first f2-last x, inside-taken f2-first f2-last x)
expression-row (Expression.f_alone x) = simp (not-intensity, not-f-squared, shape-taken f-first f-last x, inside-taken f-first f-last x)

pub threshold-taken : (t : List ℕ) (alone : Bool) (m : ℕ) → IsThreshold t alone m → threshold_row t ≡ multiplier_row alone (Some m)
threshold-taken t alone m h = expression-row h.expression ∙ ap (multiplier_row alone) (multiplier-taken h.multiplier)

-- a text that is none cannot be judged
none-by : (alone : Bool) (x : List ℕ) (r : Option ℕ) → multiplier_of x ≡ r → ((m : ℕ) → IsMultiplier x m → ⊥) → multiplier_row alone r ≡ row_of 2 2
none-by alone x (Some m) e never = absurd (never m (multiplier-is x m e))
none-by alone x None e never = refl

module _ (t : List ℕ) (never : (alone : Bool) (m : ℕ) → IsThreshold t alone m → ⊥) where
  shaped_row : (p q : List ℕ) (alone : Bool) → ((x : List ℕ) → Expression (p ++ (x ++ q)) alone x) → has_shape p q t ≡ true
      → multiplier_row alone (multiplier_of (inside_of p q t)) ≡ row_of 2 2
  shaped_row p q alone of e =
      let x = inside_of p q t in
      let is : Expression t alone x = subst (λ (s : List ℕ). Expression s alone x) (sym (shape_is p q t e)) (of x) in
      none-by alone x (multiplier_of x) refl (λ m h. never alone m (record { x = x; expression = is; multiplier = h }))

  other-by : (i f2 f : Bool) → has_shape i-first i-last t ≡ i → has_shape f2-first f2-last t ≡ f2 → has_shape f-first f-last t ≡ f → threshold_row t ≡ row_of 2 2
  unfolding threshold_row
  other-by true f2 f a b c = simp a (shaped_row i-first i-last false Expression.intensity a)
  other-by false true f a b c = simp (a, b) (shaped_row f2-first f2-last false Expression.f_squared b)
  other-by false false true a b c = simp (a, b, c) (shaped_row f-first f-last true Expression.f_alone c)
  other-by false false false a b c = simp (a, b, c)

  pub threshold-other : threshold_row t ≡ row_of 2 2
  threshold-other = other-by (has_shape i-first i-last t) (has_shape f2-first f2-last t) (has_shape f-first f-last t) refl refl refl
