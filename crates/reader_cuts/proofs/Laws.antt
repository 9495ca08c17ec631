-- Laws of `read_all`: one for each case of the first record.
-- Assumes nothing.
use mathlib.Core.Path.{◌≡◌, refl, sym, ap, ◌∙◌}
use mathlib.Core.Bool.{Bool, true, false, cond}
use mathlib.Core.List.{List, ◌++◌}
use Prim.Native.Nat.{ℕ, zero, suc, ◌+◌, ◌≤◌, ◌<◌}
use native.Mathlib.Omega.{arith}
use borrow.Author.Tests.{ltb-true, ltb-false, lt-ltb, le-ltb}
use lib.Dec.{ltb, eqb}
use lib.ListN.{length, take, drop, length-drop, length-append, get_or-append}
use lib.Seq.{take-append-le, drop-append-le}
use Rattle.text.proofs.Bools.{or-neither, or_right}
use Rattle.desk_log.specs.Record.{head_length, length_told}
use Rattle.reader_cuts.specs.Reading.{length_least, length_most, bad_length, undecided, Reading, ended, short, read_from, read_all}

-- a choice whose sides agree where they are taken
pub cond-then : {A : Type 0} (t : Bool) (x x' y : A) → (t ≡ true → x ≡ x') → cond t x y ≡ cond t x' y
cond-then true x x' y f = f refl
cond-then false x x' y f = refl

pub cond-else : {A : Type 0} (t : Bool) (x y y' : A) → (t ≡ false → y ≡ y') → cond t x y ≡ cond t x y'
cond-else true x y y' f = refl
cond-else false x y y' f = f refl

-- a length that is not bad
pub good_length : (n : ℕ) → bad_length n ≡ false → (length_least ≤ n) × (n ≤ length_most)
good_length n e =
    let p = or-neither (ltb n length_least) (ltb length_most n) e in
    (ltb-false n length_least p.0, ltb-false length_most n p.1)

pub length-good : (n : ℕ) → length_least ≤ n → n ≤ length_most → bad_length n ≡ false
length-good n a b = simp (le-ltb n length_least a, le-ltb length_most n b)

-- what is said of the length is said by the first six bytes
pub length_front : (xs ys : List ℕ) → head_length ≤ length xs → length_told (xs ++ ys) ≡ length_told xs
unfolding length_told
length_front xs ys h =
    let a = get_or-append xs ys 0 0 (omega arith) in
    let b = get_or-append xs ys 0 1 (omega arith) in
    rw (a, b)

module _ {S : Type 0} (refusal : ℕ → List ℕ → S → ℕ) (store : List ℕ → S → S) (last : Bool) where
  -- nothing depends on the bound of the recursion
  fuel-none : (m : ℕ) (s : S) (at : ℕ) (bs : List ℕ) → length bs ≡ 0 → read_from refusal store last m s at bs ≡ short last s at bs
  unfolding read_from
  fuel-none zero s at bs h = refl
  fuel-none (suc m) s at bs h = rw (lt-ltb (length bs) head_length (omega arith))

  fuel-enough : (n m : ℕ) (s : S) (at : ℕ) (bs : List ℕ) → length bs ≤ n → length bs ≤ m
      → read_from refusal store last n s at bs ≡ read_from refusal store last m s at bs
  unfolding read_from
  fuel-enough zero m s at bs h k = fuel-none zero s at bs (omega arith) ∙ sym (fuel-none m s at bs (omega arith))
  fuel-enough (suc n) zero s at bs h k = fuel-none (suc n) s at bs (omega arith) ∙ sym (fuel-none zero s at bs (omega arith))
  fuel-enough (suc n) (suc m) s at bs h k = go (fuel-enough n m)
    where
      go : ((t : S) (b : ℕ) (cs : List ℕ) → length cs ≤ n → length cs ≤ m → read_from refusal store last n t b cs ≡ read_from refusal store last m t b cs)
          → read_from refusal store last (suc n) s at bs ≡ read_from refusal store last (suc m) s at bs
      go ih =
          cond-else (ltb (length bs) head_length) _ _ _ (λ p.
          cond-else (bad_length (length_told bs)) _ _ _ (λ q.
          cond-else (ltb (length bs) (length_told bs)) _ _ _ (λ r.
          cond-then (eqb (refusal at (take (length_told bs) bs) s) 0) _ _ _ (λ e.
          let l = length-drop (length_told bs) bs in
          let g = good_length (length_told bs) q in
          let w = ltb-false (length bs) (length_told bs) r in
          ih _ _ (drop (length_told bs) bs) (omega arith) (omega arith)))))

  module _ (s : S) (at : ℕ) (bs : List ℕ) where
    pub read-few : length bs < head_length → read_all refusal store last s at bs ≡ short last s at bs
    unfolding read_all read_from
    read-few h = go (length bs) refl
      where
        go : (k : ℕ) → length bs ≡ k → read_from refusal store last k s at bs ≡ short last s at bs
        go zero e = refl
        go (suc k) e = rw (lt-ltb (length bs) head_length h)

    module _ (h : head_length ≤ length bs) where
      one-step : (k : ℕ) → length bs ≡ suc k → read_all refusal store last s at bs ≡ read_from refusal store last (suc k) s at bs
      unfolding read_all
      one-step k e = rw e

      pub read-bad : bad_length (length_told bs) ≡ true → read_all refusal store last s at bs ≡ ended 18 s at
      unfolding read_from
      read-bad b = go (length bs) refl
        where
          go : (k : ℕ) → length bs ≡ k → read_all refusal store last s at bs ≡ ended 18 s at
          go zero e = absurd (omega arith)
          go (suc k) e = one-step k e ∙ rw (le-ltb (length bs) head_length h, b)

      module _ (g : bad_length (length_told bs) ≡ false) where
        pub read-part : length bs < length_told bs → read_all refusal store last s at bs ≡ short last s at bs
        unfolding read_from
        read-part l = go (length bs) refl
          where
            go : (k : ℕ) → length bs ≡ k → read_all refusal store last s at bs ≡ short last s at bs
            go zero e = absurd (omega arith)
            go (suc k) e = one-step k e ∙ rw (le-ltb (length bs) head_length h, g, lt-ltb (length bs) (length_told bs) l)

        module _ (w : length_told bs ≤ length bs) where
          pub read-refused : eqb (refusal at (take (length_told bs) bs) s) 0 ≡ false
              → read_all refusal store last s at bs ≡ ended (refusal at (take (length_told bs) bs) s) s at
          unfolding read_from
          read-refused e = go (length bs) refl
            where
              go : (k : ℕ) → length bs ≡ k → read_all refusal store last s at bs ≡ ended (refusal at (take (length_told bs) bs) s) s at
              go zero f = absurd (omega arith)
              go (suc k) f = one-step k f ∙ rw (le-ltb (length bs) head_length h, g, le-ltb (length bs) (length_told bs) w, e)

          pub read_taken : eqb (refusal at (take (length_told bs) bs) s) 0 ≡ true
              → read_all refusal store last s at bs
              ≡ read_all refusal store last (store (take (length_told bs) bs) s) (at + length_told bs) (drop (length_told bs) bs)
          unfolding read_from read_all
          read_taken e = go (length bs) refl
            where
              go : (k : ℕ) → length bs ≡ k → read_all refusal store last s at bs
                  ≡ read_all refusal store last (store (take (length_told bs) bs) s) (at + length_told bs) (drop (length_told bs) bs)
              go zero f = absurd (omega arith)
              go (suc k) f =
                  let l = length-drop (length_told bs) bs in
                  let gg = good_length (length_told bs) g in
                  one-step k f ∙ rw (le-ltb (length bs) head_length h, g, le-ltb (length bs) (length_told bs) w, e)
                  (fuel-enough k (length (drop (length_told bs) bs)) _ _ (drop (length_told bs) bs) (omega arith) (omega arith))

-- the same where more bytes follow the first ones, which decide
module _ {S : Type 0} (refusal : ℕ → List ℕ → S → ℕ) (store : List ℕ → S → S) (last : Bool) (s : S) (at : ℕ) (xs ys : List ℕ) (h : head_length ≤ length xs) where
  longer : length xs ≤ length (xs ++ ys)
  longer = simp length-append (omega arith)

  pub front-bad : bad_length (length_told xs) ≡ true → read_all refusal store last s at (xs ++ ys) ≡ ended 18 s at
  front-bad b =
      let f : bad_length (length_told (xs ++ ys)) ≡ true = rw (length_front xs ys h) b in
      read-bad refusal store last s at (xs ++ ys) (omega (arith, longer)) f

  module _ (g : bad_length (length_told xs) ≡ false) (w : length_told xs ≤ length xs) where
    first-is : take (length_told (xs ++ ys)) (xs ++ ys) ≡ take (length_told xs) xs
    first-is = rw (length_front xs ys h) (take-append-le (length_told xs) xs ys w)

    good-too : bad_length (length_told (xs ++ ys)) ≡ false
    good-too = rw (length_front xs ys h) g

    pub front-refused : eqb (refusal at (take (length_told xs) xs) s) 0 ≡ false
        → read_all refusal store last s at (xs ++ ys) ≡ ended (refusal at (take (length_told xs) xs) s) s at
    front-refused e =
        let q = length_front xs ys h in
        let e' : eqb (refusal at (take (length_told (xs ++ ys)) (xs ++ ys)) s) 0 ≡ false = rw first-is e in
        read-refused refusal store last s at (xs ++ ys) (omega (arith, longer)) good-too (omega (arith, longer, q)) e'
        ∙ ap (λ (x : List ℕ). ended (refusal at x s) s at) first-is

    pub front-taken : eqb (refusal at (take (length_told xs) xs) s) 0 ≡ true
        → read_all refusal store last s at (xs ++ ys)
        ≡ read_all refusal store last (store (take (length_told xs) xs) s) (at + length_told xs) (drop (length_told xs) xs ++ ys)
    front-taken e =
        let q = length_front xs ys h in
        let e' : eqb (refusal at (take (length_told (xs ++ ys)) (xs ++ ys)) s) 0 ≡ true = rw first-is e in
        let u : drop (length_told (xs ++ ys)) (xs ++ ys) ≡ drop (length_told xs) xs ++ ys = rw q (drop-append-le (length_told xs) xs ys w) in
        read_taken refusal store last s at (xs ++ ys) (omega (arith, longer)) good-too (omega (arith, longer, q)) e'
        ∙ ap (λ (x : List ℕ). read_all refusal store last (store x s) (at + length_told (xs ++ ys)) (drop (length_told (xs ++ ys)) (xs ++ ys))) first-is
        ∙ ap (λ (x : List ℕ). read_all refusal store last (store (take (length_told xs) xs) s) (at + length_told (xs ++ ys)) x) u
        ∙ ap (λ (x : ℕ). read_all refusal store last (store (take (length_told xs) xs) s) (at + x) (drop (length_told xs) xs ++ ys)) q

-- what the first bytes decide of a record
pub data Look {S : Type 0} (refusal : ℕ → List ℕ → S → ℕ) (s : S) (at : ℕ) (bs : List ℕ) : Type 0 where
  few : length bs < head_length → Look refusal s at bs
  bad : head_length ≤ length bs → bad_length (length_told bs) ≡ true → Look refusal s at bs
  part : head_length ≤ length bs → bad_length (length_told bs) ≡ false → length bs < length_told bs → Look refusal s at bs
  refused : head_length ≤ length bs → bad_length (length_told bs) ≡ false → length_told bs ≤ length bs
      → eqb (refusal at (take (length_told bs) bs) s) 0 ≡ false → Look refusal s at bs
  taken : head_length ≤ length bs → bad_length (length_told bs) ≡ false → length_told bs ≤ length bs
      → eqb (refusal at (take (length_told bs) bs) s) 0 ≡ true → Look refusal s at bs

pub look : {S : Type 0} (refusal : ℕ → List ℕ → S → ℕ) (s : S) (at : ℕ) (bs : List ℕ) → Look refusal s at bs
look refusal s at bs =
    go (ltb (length bs) head_length) (bad_length (length_told bs)) (ltb (length bs) (length_told bs)) (eqb (refusal at (take (length_told bs) bs) s) 0) refl refl refl refl
  where
    go : (a b c d : Bool) → ltb (length bs) head_length ≡ a → bad_length (length_told bs) ≡ b → ltb (length bs) (length_told bs) ≡ c
        → eqb (refusal at (take (length_told bs) bs) s) 0 ≡ d → Look refusal s at bs
    go true b c d p q r e = few (ltb-true (length bs) head_length p)
    go false true c d p q r e = bad (ltb-false (length bs) head_length p) q
    go false false true d p q r e = part (ltb-false (length bs) head_length p) q (ltb-true (length bs) (length_told bs) r)
    go false false false false p q r e = refused (ltb-false (length bs) head_length p) q (ltb-false (length bs) (length_told bs) r) e
    go false false false true p q r e = taken (ltb-false (length bs) head_length p) q (ltb-false (length bs) (length_told bs) r) e

pub undecided-few : (bs : List ℕ) → length bs < head_length → undecided bs ≡ true
unfolding undecided
undecided-few bs h = rw (lt-ltb (length bs) head_length h)

pub undecided-part : (bs : List ℕ) → bad_length (length_told bs) ≡ false → length bs < length_told bs → undecided bs ≡ true
unfolding undecided
undecided-part bs g h = or_right (ltb (length bs) head_length) _ (rw (g, lt-ltb (length bs) (length_told bs) h))

-- the induction over the records of a reading: what holds of each way to stop, and comes from the rest where a record is taken, holds of every reading
module _ {S : Type 0} (refusal : ℕ → List ℕ → S → ℕ) (store : List ℕ → S → S) (last : Bool) (P : S → ℕ → List ℕ → Reading S → Type 0)
    (stops : (s : S) (at : ℕ) (bs : List ℕ) → undecided bs ≡ true → P s at bs (short last s at bs))
    (bads : (s : S) (at : ℕ) (bs : List ℕ) → head_length ≤ length bs → bad_length (length_told bs) ≡ true → P s at bs (ended 18 s at))
    (refuses : (s : S) (at : ℕ) (bs : List ℕ) → head_length ≤ length bs → bad_length (length_told bs) ≡ false → length_told bs ≤ length bs
    → eqb (refusal at (take (length_told bs) bs) s) 0 ≡ false → P s at bs (ended (refusal at (take (length_told bs) bs) s) s at))
    (takes : (s : S) (at : ℕ) (bs : List ℕ) (r : Reading S) → head_length ≤ length bs → bad_length (length_told bs) ≡ false → length_told bs ≤ length bs
    → eqb (refusal at (take (length_told bs) bs) s) 0 ≡ true
    → P (store (take (length_told bs) bs) s) (at + length_told bs) (drop (length_told bs) bs) r → P s at bs r) where
  by-fuel : (n : ℕ) (s : S) (at : ℕ) (bs : List ℕ) → length bs ≤ n → P s at bs (read_all refusal store last s at bs)
  by-fuel zero s at bs h = let l : length bs < head_length = omega arith in rw (read-few refusal store last s at bs l) (stops s at bs (undecided-few bs l))
  by-fuel (suc n) s at bs h = go (by-fuel n) (look refusal s at bs)
    where
      go : ((t : S) (k : ℕ) (cs : List ℕ) → length cs ≤ n → P t k cs (read_all refusal store last t k cs)) → Look refusal s at bs
          → P s at bs (read_all refusal store last s at bs)
      go ih (few l) = rw (read-few refusal store last s at bs l) (stops s at bs (undecided-few bs l))
      go ih (bad l q) = rw (read-bad refusal store last s at bs l q) (bads s at bs l q)
      go ih (part l q w) = rw (read-part refusal store last s at bs l q w) (stops s at bs (undecided-part bs q w))
      go ih (refused l q w e) = rw (read-refused refusal store last s at bs l q w e) (refuses s at bs l q w e)
      go ih (taken l q w e) =
          let k = good_length (length_told bs) q in
          let m = length-drop (length_told bs) bs in
          let r : Reading S = read_all refusal store last (store (take (length_told bs) bs) s) (at + length_told bs) (drop (length_told bs) bs) in
          rw (read_taken refusal store last s at bs l q w e)
          (takes s at bs r l q w e (ih (store (take (length_told bs) bs) s) (at + length_told bs) (drop (length_told bs) bs) (omega arith)))

  pub every-reading : (s : S) (at : ℕ) (bs : List ℕ) → P s at bs (read_all refusal store last s at bs)
  every-reading s at bs = by-fuel (length bs) s at bs (omega arith)
