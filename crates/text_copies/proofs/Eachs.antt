-- Laws of `lines_from`: the texts of the first elements, one more, and a loop that copies them one after the other into the same bytes.
-- Assumes nothing.
use mathlib.Core.Path.{◌≡◌, refl, sym, ap, ◌∙◌}
use mathlib.Core.List.{List, [], ◌∷◌, ◌++◌, append_assoc, append-nil}
use Prim.Native.Nat.{ℕ, suc, ◌+◌, ◌≤◌, ◌<◌}
use native.Mathlib.Nat.{add-zero, zero-add}
use native.Mathlib.Numerals.{add-one}
use native.Mathlib.Omega.{arith}
use lib.ListN.{length, get_or, take, drop, length-append, take-append-drop}
use lib.Seq.{take_all, take-suc, length-take-le}
use Rattle.text_copies.specs.Copy.{copied}
use Rattle.text_copies.specs.Each.{lines_from}
use Rattle.text_copies.proofs.Copies.{length-copied, copied_none, copied-then}

module _ {A : Type 0} (f : ℕ → A → List ℕ) where
  -- the texts of two lists together
  pub lines-append : (k : ℕ) (xs ys : List A) → lines_from f k (xs ++ ys) ≡ lines_from f k xs ++ lines_from f (length xs + k) ys
  unfolding lines_from
  lines-append k [] ys = ap (λ (m : ℕ). lines_from f m ys) (sym (zero-add k))
  lines-append k (x ∷ xs) ys =
      let n : length xs + suc k ≡ suc (length xs) + k = omega arith in
      let rest = lines-append (suc k) xs ys ∙ ap (λ (m : ℕ). lines_from f (suc k) xs ++ lines_from f m ys) n in
      ap (λ (t : List ℕ). f k x ++ t) rest ∙ sym (append_assoc (f k x) (lines_from f (suc k) xs) (lines_from f (suc (length xs) + k) ys))

  one_line : (k : ℕ) (x : A) → lines_from f k (x ∷ []) ≡ f k x
  unfolding lines_from
  one_line k x = append-nil (f k x)

  module _ (xs : List A) where
    -- the texts of the first i elements
    abbrev pub first_lines : ℕ → List ℕ
    first_lines i = lines_from f 1 (take i xs)

    pub lines_none : first_lines 0 ≡ []
    unfolding lines_from
    lines_none = refl

    pub lines_next : (i : ℕ) (d : A) → i < length xs → first_lines (i + 1) ≡ first_lines i ++ f (i + 1) (get_or xs i d)
    lines_next i d h =
        let n : length (take i xs) + 1 ≡ i + 1 = omega (arith, length-take-le i xs (omega arith)) in
        ap first_lines (add-one i) ∙ ap (lines_from f 1) (take-suc xs i d h) ∙ lines-append 1 (take i xs) (get_or xs i d ∷ [])
        ∙ ap (λ (t : List ℕ). first_lines i ++ t) (one_line (length (take i xs) + 1) (get_or xs i d) ∙ ap (λ (m : ℕ). f m (get_or xs i d)) n)

    pub lines-all : (i : ℕ) → length xs ≤ i → first_lines i ≡ lines_from f 1 xs
    lines-all i h = ap (lines_from f 1) (take_all i xs h)

    -- the first texts are no longer than all
    pub lines-short : (i : ℕ) → length (first_lines i) ≤ length (lines_from f 1 xs)
    lines-short i =
        let e = ap (lines_from f 1) (sym (take-append-drop i xs)) ∙ lines-append 1 (take i xs) (drop i xs) in
        let l = ap length e ∙ length-append (first_lines i) (lines_from f (length (take i xs) + 1) (drop i xs)) in
        omega arith

    -- the texts of the first i elements are copied in from `start` on, and the next one comes at `at`
    pub record Put (out₀ : List ℕ) (start i at : ℕ) (out : List ℕ) : Type 0 where
      pub bytes : out ≡ copied out₀ start (first_lines i)
      pub here : at ≡ start + length (first_lines i)
      pub same : length out ≡ length out₀

    module _ (out₀ : List ℕ) (start : ℕ) where
      pub put-none : Put out₀ start 0 start out₀
      put-none =
          record {
            bytes = sym (ap (copied out₀ start) lines_none ∙ copied_none out₀ start);
            here = sym (ap (λ (t : List ℕ). start + length t) lines_none ∙ add-zero start);
            same = refl;
          }

      module _ {i at : ℕ} {out : List ℕ} (p : Put out₀ start i at out) (d : A) (h : i < length xs) where
        -- the next text fits where all fit
        pub put-room : start + length (lines_from f 1 xs) ≤ length out₀ → at + length (f (i + 1) (get_or xs i d)) ≤ length out
        put-room room =
            let e = ap length (lines_next i d h) ∙ length-append (first_lines i) (f (i + 1) (get_or xs i d)) in
            omega (arith, lines-short (i + 1), p.here, p.same)

        pub put_next : {last : List ℕ} {next : ℕ} → start + length (lines_from f 1 xs) ≤ length out₀
            → last ≡ copied out at (f (i + 1) (get_or xs i d)) → next ≡ at + length (f (i + 1) (get_or xs i d)) → Put out₀ start (i + 1) next last
        put_next {last} {next} room e n =
            let x : List ℕ = f (i + 1) (get_or xs i d) in
            let more = lines_next i d h in
            let l = ap length more ∙ length-append (first_lines i) x in
            let fits : at + length x ≤ length out₀ = omega (arith, put-room room, p.same) in
            let wrote : last ≡ copied out₀ start (first_lines (i + 1))
            = e ∙ ap (λ (o : List ℕ). copied o at x) p.bytes ∙ copied-then out₀ start at (first_lines i) x p.here fits
            ∙ ap (copied out₀ start) (sym more) in
            record {
              bytes = wrote;
              here = omega (arith, p.here);
              same = ap length wrote ∙ length-copied out₀ start (first_lines (i + 1));
            }

      pub put_all : {i at : ℕ} {out : List ℕ} → Put out₀ start i at out → length xs ≤ i
          → (out ≡ copied out₀ start (lines_from f 1 xs)) × (at ≡ start + length (lines_from f 1 xs))
      put_all {i} p h =
          let all = lines-all i h in
          (p.bytes ∙ ap (copied out₀ start) all, p.here ∙ ap (λ (t : List ℕ). start + length t) all)
