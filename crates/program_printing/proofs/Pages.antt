-- Laws of pages: a text put on a page, two texts one after the other, and lines of a list one after the other.
-- Assumes nothing.
use mathlib.Core.Path.{◌≡◌, refl, sym, ap, subst, ◌∙◌}
use mathlib.Core.List.{List, [], ◌++◌, append_assoc, append-nil}
use Prim.Native.Nat.{ℕ, suc, ◌+◌, ◌≤◌, ◌<◌}
use native.Mathlib.Omega.{arith}
use native.Mathlib.Numerals.{add-one}
use lib.ListN.{length, get_or, take, drop, length-append, drop_of_length-le}
use lib.Seq.{take_at, drop-cons, length-take-le}
use Rattle.text_copies.specs.Copy.{copied}
use Rattle.text_copies.proofs.Copies.{copied-fits}
use Rattle.program_printing.specs.Page.{page_most, page_text, Adds}
use Rattle.text_copies.specs.Each.{lines_from}
use Rattle.program_printing.specs.declared.page.Page.{Page}

-- the bytes of a page with t copied in after what is written
pub put-adds : (p : Page) (t b : List ℕ) → length p.bytes ≡ page_most → p.len + length t ≤ page_most → b ≡ copied p.bytes p.len t
    → Adds p t (record { bytes = b; len = p.len + length t })
put-adds p t b k h e =
    let n = p.len + length t in
    let old = page_text p in
    let l : length (old ++ t) ≡ n = simp (length-append, length-take-le p.len p.bytes (omega arith)) in
    let fits : n ≤ length p.bytes = omega arith in
    let all = e ∙ copied-fits p.bytes p.len t fits ∙ sym (append_assoc old t (drop n p.bytes)) in
    record { text = ap (take n) all ∙ take_at (old ++ t) (drop n p.bytes) n l; size = refl }

pub adds_none : (p : Page) → Adds p [] p
adds_none p = record { text = sym (append-nil (page_text p)); size = omega arith }

pub adds-as : {p r : Page} {a b : List ℕ} → a ≡ b → Adds p a r → Adds p b r
adds-as {p} {r} e h = subst (λ (t : List ℕ). Adds p t r) e h

pub adds_then : {p q r : Page} {a b : List ℕ} → Adds p a q → Adds q b r → Adds p (a ++ b) r
adds_then {p} {q} {r} {a} {b} e f =
    record {
      text = f.text ∙ ap (λ (l : List ℕ). l ++ b) e.text ∙ append_assoc (page_text p) a b;
      size = simp length-append (omega (arith, e.size, f.size));
    }

-- a text added to a page with nothing on it is all that is written
pub adds-first : {p r : Page} {t : List ℕ} → page_text p ≡ [] → p.len ≡ 0 → Adds p t r → (page_text r ≡ t) × (r.len ≡ length t)
adds-first {p} {r} {t} e z h = (h.text ∙ ap (λ (l : List ℕ). l ++ t) e, omega (arith, h.size))

-- the lines of the first i elements are added to p: what adds the others to q adds all to p
pub record Listed {A : Type 0} (f : ℕ → A → List ℕ) (xs : List A) (p q : Page) (i : ℕ) : Type 0 where
  pub others : (r : Page) → Adds q (lines_from f (suc i) (drop i xs)) r → Adds p (lines_from f 1 xs) r

module _ {A : Type 0} (f : ℕ → A → List ℕ) (xs : List A) where
  pub listed-none : (p : Page) → Listed f xs p p 0
  listed-none p = record { others = λ r h. h }

  pub listed-all : {p q : Page} (i : ℕ) → length xs ≤ i → Listed f xs p q i → Adds p (lines_from f 1 xs) q
  unfolding lines_from
  listed-all {p} {q} i h l =
      let none : lines_from f (suc i) (drop i xs) ≡ [] = rw (drop_of_length-le xs h) in
      l.others q (adds-as (sym none) (adds_none q))

  pub listed_next : {p q r : Page} (i : ℕ) (d : A) → i < length xs → Listed f xs p q i → Adds q (f (i + 1) (get_or xs i d)) r → Listed f xs p r (i + 1)
  unfolding lines_from
  listed_next {p} {q} {r} i d h l e =
      let here : f (i + 1) (get_or xs i d) ++ lines_from f (suc (i + 1)) (drop (i + 1) xs) ≡ lines_from f (suc i) (drop i xs) =
      rw (add-one i, drop-cons xs i d h) in
      record { others = λ s k. l.others s (adds-as here (adds_then e k)) }
