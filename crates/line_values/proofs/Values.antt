-- The tests of values say what document 01's words say: a value is bare or quoted, and its text is what stands between the marks.
-- Assumes nothing.
use mathlib.Core.Path.{◌≡◌, refl, sym, ap, ◌∙◌}
use mathlib.Core.Bool.{true, or-true}
use mathlib.Core.Logic.{⊎_elim}
use mathlib.Core.List.Memᴰ
use mathlib.Core.List.{List, [], ◌∷◌, ◌++◌, Memᴰ}
use Prim.Native.Nat.{ℕ, suc, ◌+◌, ◌-◌, ◌≤◌}
use native.Mathlib.Omega.{arith}
use borrow.Author.Tests.{leb-true, le-leb, eqb-true, eqb-false, eq-eqb, ne_eqb, not-true}
use lib.Dec.{leb, eqb}
use lib.ListN.{length, get_or, drop, length-append, length-drop, drop_of_length-le}
use lib.Seq.{drop-cons, split_at, get_or-drop, take-append_seam, get_or-append_seam}
use Rattle.text.specs.Quote.{bytes}
use Rattle.text.specs.Run.{run_of, all, between, other}
use Rattle.text.proofs.Bools.{and_both, or-either, not-holds}
use Rattle.text.proofs.Runs.{run_none}
use Rattle.line_quotes.specs.Quoted.{inner, is_quoted_by, is_quoted, text_of}
use Rattle.line_values.specs.Value.{may_begin, is_reserved, is_bare, is_value}
use Rattle.line_values.specs.Wording.{Mark, QuotedText, BareText, ValueText}

-- a byte differs from every byte of a text exactly when it is not in the text
none_of : (b : ℕ) (xs : List ℕ) → all (other b) xs ≡ true → Memᴰ b xs → ⊥
unfolding all other
none_of b [] e m = Memᴰ.not-nil m
none_of b (x ∷ xs) e m =
    let h = and_both (other b x) (all (other b) xs) e in
    ⊎_elim (λ (p : b ≡ x). eqb-false x b (not-true (eqb x b) h.0) (sym p)) (none_of b xs h.1) (Memᴰ.cases_cons m)

other-than : (b : ℕ) (xs : List ℕ) → (Memᴰ b xs → ⊥) → all (other b) xs ≡ true
unfolding all other
other-than b [] h = refl
other-than b (x ∷ xs) h =
    rw (ne_eqb x b (λ (e : x ≡ b). h (Memᴰ.head (sym e)))) (other-than b xs (λ (m : Memᴰ b xs). h (Memᴰ.tail m)))

bare-is : (t : List ℕ) → is_bare t ≡ true → BareText t
unfolding is_bare may_begin
bare-is t e =
    let some = and_both (leb 1 (length t)) _ e in
    let first = and_both (may_begin (get_or t 0 0)) _ some.1 in
    let rest = and_both (all (other 32) t) _ first.1 in
    record {
      some = leb-true 1 (length t) some.0;
      first = none_of (get_or t 0 0) (bytes "'\"_#$[]") first.0;
      no_spaces = rest.0;
      not_reserved = not-true (is_reserved t) rest.1;
    }

bare-taken : (t : List ℕ) → BareText t → is_bare t ≡ true
unfolding is_bare may_begin
bare-taken t h = simp (le-leb _ _ h.some, other-than (get_or t 0 0) (bytes "'\"_#$[]") h.first, h.no_spaces, h.not_reserved)

-- a text with the mark q on both sides
marked : (q : ℕ) (t : List ℕ) → 2 ≤ length t → get_or t 0 0 ≡ q → get_or t (length t - 1) 0 ≡ q → t ≡ q ∷ (inner t ++ (q ∷ []))
marked q t l first last =
    let n = length t - 2 in
    let e = length-drop 1 t in
    let past : length (drop 1 t) ≤ suc n = omega arith in
    let at : 1 + n ≡ length t - 1 = omega arith in
    let end : get_or (drop 1 t) n 0 ≡ q = get_or-drop 1 t n 0 ∙ ap (λ (j : ℕ). get_or t j 0) at ∙ last in
    let rest : drop 1 t ≡ inner t ++ (q ∷ []) = split_at (drop 1 t) n 0 (omega arith) ∙ rw (end, drop_of_length-le (drop 1 t) past) in
    drop-cons t 0 0 (omega arith) ∙ rw first (ap (λ (l : List ℕ). q ∷ l) rest)

quoted-by-is : (q : ℕ) (t : List ℕ) → Mark q → is_quoted_by q t ≡ true → QuotedText t (inner t)
unfolding is_quoted_by
quoted-by-is q t m e =
    let long = and_both (leb 2 (length t)) _ e in
    let first = and_both (eqb (get_or t 0 0) q) _ long.1 in
    let last = and_both (eqb (get_or t (length t - 1) 0) q) _ first.1 in
    let text = marked q t (leb-true 2 (length t) long.0) (eqb-true (get_or t 0 0) q first.0) (eqb-true (get_or t (length t - 1) 0) q last.0) in
    record { mark = q; is_mark = m; text = text; without = last.1 }

quoted-is : (t : List ℕ) → is_quoted t ≡ true → QuotedText t (inner t)
unfolding is_quoted
quoted-is t e = ⊎_elim (quoted-by-is 39 t Mark.single) (quoted-by-is 34 t Mark.double) (or-either (is_quoted_by 39 t) (is_quoted_by 34 t) e)

module _ (q : ℕ) (inside : List ℕ) where
  abbrev quote : List ℕ
  quote = q ∷ (inside ++ (q ∷ []))

  inner-is : inner quote ≡ inside
  inner-is = let e : length quote - 2 ≡ length inside = omega (arith, length-append inside (q ∷ [])) in rw e (take-append_seam inside (q ∷ []))

  quoted-by-taken : all (other q) inside ≡ true → is_quoted_by q quote ≡ true
  unfolding is_quoted_by
  quoted-by-taken a =
      let long : 2 ≤ length quote = omega (arith, length-append inside (q ∷ [])) in
      let end : length quote - 1 ≡ suc (length inside) = omega (arith, length-append inside (q ∷ [])) in
      let last : get_or quote (length quote - 1) 0 ≡ q = ap (λ (j : ℕ). get_or quote j 0) end ∙ get_or-append_seam inside q [] 0 in
      simp (le-leb _ _ long, eq-eqb q q refl, eq-eqb _ q last, inner-is, a)

mark-taken : {q : ℕ} (t : List ℕ) → Mark q → is_quoted_by q t ≡ true → is_quoted t ≡ true
unfolding is_quoted
mark-taken t Mark.single h = rw h
mark-taken t Mark.double h = rw h (or-true (is_quoted_by 39 t))

quoted-taken : (t inside : List ℕ) → QuotedText t inside → is_quoted t ≡ true
quoted-taken t inside h = rw h.text (mark-taken (quote h.mark inside) h.is_mark (quoted-by-taken h.mark inside h.without))

-- a text that is taken for a value is bare or quoted
pub value-is : (t : List ℕ) → is_value t ≡ true → ValueText t
unfolding is_value
value-is t e =
    ⊎_elim (λ (h : is_bare t ≡ true). ValueText.bare (bare-is t h)) (λ (h : is_quoted t ≡ true). ValueText.quoted (inner t) (quoted-is t h)) (or-either (is_bare t) (is_quoted t) e)

-- every bare or quoted text is taken for a value
pub value_taken : (t : List ℕ) → ValueText t → is_value t ≡ true
unfolding is_value
value_taken t (ValueText.bare h) = rw (bare-taken t h)
value_taken t (ValueText.quoted inside h) = rw (quoted-taken t inside h) (or-true (is_bare t))

-- the text without quotes is the text between the marks
pub text-inside : (t inside : List ℕ) → QuotedText t inside → text_of t ≡ inside
unfolding text_of
text-inside t inside h = rw (quoted-taken t inside h) (ap inner h.text ∙ inner-is h.mark inside)

-- both marks are among the bytes that no bare value begins with
mark-among : {q : ℕ} → Mark q → Memᴰ q (bytes "'\"_#$[]")
mark-among Mark.single = Memᴰ.head refl
mark-among Mark.double = Memᴰ.tail (Memᴰ.head refl)

-- no text is both bare and quoted
pub never_both : (t inside : List ℕ) → BareText t → QuotedText t inside → ⊥
never_both t inside b h = b.first (Memᴰ.cast (ap (λ (l : List ℕ). get_or l 0 0) h.text) (mark-among h.is_mark))

-- a bare value is its own text
pub bare-text : (t : List ℕ) → BareText t → text_of t ≡ t
unfolding text_of
bare-text t h = rw (not-holds (is_quoted t) (λ (e : is_quoted t ≡ true). never_both t (inner t) h (quoted-is t e)))

-- no value begins with a space
not-space : (b : ℕ) (bs : List ℕ) → (b ≡ 32 → ⊥) → run_of (between 32 32) (b ∷ bs) ≡ 0
unfolding between
not-space b bs n =
    run_none (between 32 32) b bs
    (not-holds (between 32 32 b) (λ (e : between 32 32 b ≡ true). let h = and_both (leb 32 b) (leb b 32) e in n (omega (arith, leb-true 32 b h.0, leb-true b 32 h.1))))

mark-no-space : {q : ℕ} → Mark q → q ≡ 32 → ⊥
mark-no-space Mark.single e = omega arith
mark-no-space Mark.double e = omega arith

pub value-first : (t : List ℕ) → ValueText t → run_of (between 32 32) t ≡ 0
unfolding run_of all other
value-first [] v = refl
value-first (b ∷ bs) (ValueText.bare h) = not-space b bs (eqb-false b 32 (not-true (eqb b 32) (and_both (other 32 b) (all (other 32) bs) h.no_spaces).0))
value-first (b ∷ bs) (ValueText.quoted inside h) = not-space b bs (λ (e : b ≡ 32). mark-no-space h.is_mark (cc h.text))
