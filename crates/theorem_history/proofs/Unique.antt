-- One log, one history (document 02, No. 14).
-- Assumes nothing.
use mathlib.Core.Path.{◌≡◌, refl, sym, ap, ◌∙◌}
use mathlib.Core.List.{List, [], ◌∷◌, ◌++◌, append_assoc, append-nil}
use Prim.Native.Nat.{ℕ, ◌≤◌, ◌<◌, ◌/◌, ◌%◌}
use native.Mathlib.Omega.{arith}
use lib.ListN.{length, take, drop, length-append}
use lib.Seq.{take_at, drop_at}
use Rattle.desk_log.specs.Record.{record_length}
use Rattle.reader_cuts.specs.Reading.{length_most}
use Rattle.theorem_history.specs.Histories.{Noted, record_for, records, Fitting, none, one, Begins, begins, Grown, still, entry}

-- what equal lists of a known length before the seam say of both parts
seam : (a b x y : List ℕ) → length a ≡ length b → a ++ x ≡ b ++ y → (a ≡ b) × (x ≡ y)
seam a b x y l e =
    let n : ℕ = length a in
    let p = sym (take_at a x n refl) ∙ ap (take n) e ∙ take_at b y n (sym l) in
    let q = sym (drop_at a x n refl) ∙ ap (drop n) e ∙ drop_at b y n (sym l) in
    (p, q)

-- a number of two bytes is told by them
two_bytes : (n m : ℕ) → n < 65536 → m < 65536 → n % 256 ≡ m % 256 → n / 256 % 256 ≡ m / 256 % 256 → n ≡ m
two_bytes n m a b p q = omega arith

-- the fields of two lists of at least six elements
pub record Same (a b c d e f : ℕ) (x : List ℕ) (a' b' c' d' e' f' : ℕ) (x' : List ℕ) : Type 0 where
  pub low : a ≡ a'
  pub high : b ≡ b'
  pub bench : e ≡ e'
  pub item : f ≡ f'
  pub rest : x ≡ x'

six : (a b c d e f : ℕ) (x : List ℕ) (a' b' c' d' e' f' : ℕ) (x' : List ℕ)
    → a ∷ b ∷ c ∷ d ∷ e ∷ f ∷ x ≡ a' ∷ b' ∷ c' ∷ d' ∷ e' ∷ f' ∷ x' → Same a b c d e f x a' b' c' d' e' f' x'
six a b c d e f x a' b' c' d' e' f' x' p = record { low = cc; high = cc; bench = cc; item = cc; rest = cc }

entry-path : (e f : Noted) → e.bench ≡ f.bench → e.item ≡ f.item → e.value ≡ f.value → e ≡ f
entry-path e f p q r = λ i. record { bench = p i; item = q i; value = r i }

-- two records at the start of the same bytes are of one entry, and what follows is the same
pub first-record : (e f : Noted) (x y : List ℕ) → record_length e.value ≤ length_most → record_length f.value ≤ length_most
    → record_for e ++ x ≡ record_for f ++ y → (e ≡ f) × (x ≡ y)
first-record e f x y h k p =
    let s = six _ _ _ _ _ _ (e.value ++ x) _ _ _ _ _ _ (f.value ++ y) p in
    let l = two_bytes (record_length e.value) (record_length f.value) (omega arith) (omega arith) s.low s.high in
    let v = seam e.value f.value x y (omega arith) s.rest in
    (entry-path e f s.bench s.item v.0, v.1)

no_record : (e : Noted) (x : List ℕ) → record_for e ++ x ≡ [] → ⊥
no_record e x p = let l = ap length p in omega arith

both-begin : (e f : Noted) (es fs : List Noted) → e ≡ f → Begins es fs → Begins (e ∷ es) (f ∷ fs)
both-begin e f es fs q (begins more r) = begins more (cc)

-- "no used log of one is the beginning of another's unless that history is a beginning too"
pub beginning : (es fs : List Noted) (rest : List ℕ) → Fitting es → Fitting fs → records es ++ rest ≡ records fs → Begins es fs
beginning [] fs rest h k p = begins fs refl
beginning (e ∷ es) [] rest h k p = absurd (no_record e (records es ++ rest) (sym (append_assoc (record_for e) (records es) rest) ∙ p))
beginning (e ∷ es) (f ∷ fs) rest (one _ a h) (one _ b k) p =
    let q = first-record e f (records es ++ rest) (records fs) a b (sym (append_assoc (record_for e) (records es) rest) ∙ p) in
    both-begin e f es fs q.0 (beginning es fs rest h k q.1)

no_more : (more : List Noted) → length (records more) ≡ 0 → more ≡ []
no_more [] e = refl
no_more (f ∷ fs) e = absurd (omega (arith, length-append (record_for f) (records fs)))

-- "two sequences of accepted entries .. that leave the same used log from fresh desks are the same sequence"
pub same-history : (es fs : List Noted) → Fitting es → Fitting fs → records es ≡ records fs → es ≡ fs
same-history es fs h k p = go (beginning es fs [] h k (append-nil (records es) ∙ p))
  where
    records-append : (xs bs : List Noted) → records (xs ++ bs) ≡ records xs ++ records bs
    records-append [] bs = refl
    records-append (a ∷ xs) bs = ap (λ (l : List ℕ). record_for a ++ l) (records-append xs bs) ∙ sym (append_assoc (record_for a) (records xs) (records bs))

    go : Begins es fs → es ≡ fs
    go (begins more r) =
        let l = ap length (p ∙ ap records r ∙ records-append es more) ∙ length-append (records es) (records more) in
        let n = no_more more (omega arith) in
        sym (r ∙ ap (λ (m : List Noted). es ++ m) n ∙ append-nil es)

-- a history that a desk accepted has fitting entries
pub grown-fitting : {S : Type 0} {refusal : ℕ → List ℕ → S → ℕ} {store : List ℕ → S → S} {s t : S} {at : ℕ} {es : List Noted}
    → Grown refusal store s at es t → Fitting es
grown-fitting still = none
grown-fitting (entry a b c g) = one a b (grown-fitting g)
