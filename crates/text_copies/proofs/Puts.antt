-- A loop that writes the elements of a list, w bytes each, one after the other.
-- Assumes nothing.
use mathlib.Core.Path.{◌≡◌, refl, sym, ap, subst, ◌∙◌}
use mathlib.Core.List.{List, [], ◌∷◌, ◌++◌, append-nil, append_assoc, flat_map}
use Prim.Native.Nat.{ℕ, ◌+◌, ◌*◌, ◌≤◌, ◌<◌}
use native.Mathlib.Nat.{mul-suc, mul-zero}
use native.Mathlib.Numerals.{add-one}
use native.Mathlib.Omega.{arith}
use lib.ListN.{length, get_or, take, length-append}
use lib.Seq.{take-suc, take_all}
use Rattle.text_copies.specs.Copy.{copied}
use Rattle.text_copies.proofs.Copies.{length-copied, copied_none, copied-then}

pub flat_append : {A : Type 0} (f : A → List ℕ) (l m : List A) → flat_map f (l ++ m) ≡ flat_map f l ++ flat_map f m
unfolding flat_map
flat_append f [] m = refl
flat_append f (x ∷ l) m = ap (λ (r : List ℕ). f x ++ r) (flat_append f l m) ∙ sym (append_assoc (f x) (flat_map f l) (flat_map f m))

flat-one : {A : Type 0} (f : A → List ℕ) (x : A) → flat_map f (x ∷ []) ≡ f x
unfolding flat_map
flat-one f x = append-nil (f x)

-- i elements of l are written
pub record Put {A : Type 0} (f : A → List ℕ) (w : ℕ) (l : List A) (out₀ : List ℕ) (at i : ℕ) (out : List ℕ) : Type 0 where
  pub bytes : out ≡ copied out₀ at (flat_map f (take i l))
  pub long : length (flat_map f (take i l)) ≡ w * i
  pub same : length out ≡ length out₀

module _ {A : Type 0} (f : A → List ℕ) (w : ℕ) (l : List A) (out₀ : List ℕ) (at : ℕ) where
  pub put-none : Put f w l out₀ at 0 out₀
  unfolding flat_map
  put-none = record { bytes = sym (copied_none out₀ at); long = sym (mul-zero w); same = refl }

  next-flat : (i : ℕ) (d : A) → i < length l → flat_map f (take (i + 1) l) ≡ flat_map f (take i l) ++ f (get_or l i d)
  next-flat i d h =
      ap (λ (n : ℕ). flat_map f (take n l)) (add-one i) ∙ ap (flat_map f) (take-suc l i d h) ∙ flat_append f (take i l) (get_or l i d ∷ [])
      ∙ ap (λ (r : List ℕ). flat_map f (take i l) ++ r) (flat-one f (get_or l i d))

  pub put_next : (i : ℕ) (out last : List ℕ) (d : A) → Put f w l out₀ at i out → i < length l → at + (w * i + w) ≤ length out₀
      → length (f (get_or l i d)) ≡ w → last ≡ copied out (at + w * i) (f (get_or l i d)) → Put f w l out₀ at (i + 1) last
  put_next i out last d p h room e s =
      let more = next-flat i d h in
      let here : at + w * i ≡ at + length (flat_map f (take i l)) = ap (λ (n : ℕ). at + n) (sym p.long) in
      let fits : at + w * i + length (f (get_or l i d)) ≤ length out₀ = rw e (omega arith) in
      let wrote : last ≡ copied out₀ at (flat_map f (take (i + 1) l))
      = s ∙ ap (λ (o : List ℕ). copied o (at + w * i) (f (get_or l i d))) p.bytes
      ∙ copied-then out₀ at (at + w * i) (flat_map f (take i l)) (f (get_or l i d)) here fits
      ∙ ap (λ (r : List ℕ). copied out₀ at r) (sym more) in
      record {
        bytes = wrote;
        long = ap length more ∙ length-append (flat_map f (take i l)) (f (get_or l i d)) ∙ ap (λ (n : ℕ). n + length (f (get_or l i d))) p.long
            ∙ ap (λ (n : ℕ). w * i + n) e ∙ sym (mul-suc w i) ∙ ap (λ (n : ℕ). w * n) (sym (add-one i));
        same = ap length wrote ∙ length-copied out₀ at (flat_map f (take (i + 1) l));
      }

  pub put_all : (n i : ℕ) (out : List ℕ) → Put f w l out₀ at i out → i ≡ n → length l ≤ n
      → (out ≡ copied out₀ at (flat_map f l)) × (length (flat_map f l) ≡ w * n)
  put_all n i out q e h =
      let p = subst (λ (k : ℕ). Put f w l out₀ at k out) e q in
      let whole = take_all n l h in
      (p.bytes ∙ ap (λ (m : List A). copied out₀ at (flat_map f m)) whole, sym (ap (λ (m : List A). length (flat_map f m)) whole) ∙ p.long)
