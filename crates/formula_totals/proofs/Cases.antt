-- The cases of the readers that call each other and of the reader of a whole text, one for each return of the code.
-- Assumes nothing.
use Rattle.std.specs.Prelude.{Option, Some, None}
use Prim.Native.Nat.{ℕ, zero, suc, ◌+◌, ◌-◌, ◌*◌, ◌≤◌, ◌<◌}
use mathlib.Core.Path.{◌≡◌, refl, sym, ap, subst, ◌∙◌}
use mathlib.Core.Bool.{Bool, true, false, false≢true}
use mathlib.Core.List.{List}
use native.Mathlib.Omega.{arith}
use native.Mathlib.Nat.{add_assoc, zero-add}
use borrow.Author.Tests.{eq-eqb, ne_eqb}
use lib.Dec.{eqb}
use lib.ListN.{length, get_or, drop, length-drop}
use lib.Seq.{drop-drop, drop-cons}
use Rattle.text.specs.Run.{has_at}
use Rattle.text.proofs.Bools.{not-holds}
use Rattle.text.proofs.Runs.{has_within, has-byte, has_here}
use Rattle.formula_moiety.specs.Grammar.{Part, Moiety, most_deep}
use Rattle.formula_moiety.specs.Reading.{Got, got, none, word_part, closed, in_brackets, with_part, goes_on, part_of, moiety_of, Whole, whole, unread, listed, further, enough, whole_text_of}
use Rattle.formula_moiety.specs.Totals.{total_part, total, total_all}
use Rattle.formula_totals.specs.Counters.{Added}
use Rattle.formula_totals.specs.Left.{GotLeft, CloseLeft, PartLeft, MoietyLeft, AllLeft, WholeLeft}

-- i bytes more
abbrev pub shift : ℕ → Option ℕ → Option ℕ
shift i (Some n) = Some (i + n)
shift i None = None

pub no_bytes : (n : ℕ) → None ≡ Some n → ⊥
no_bytes n e = let z : ◌≡◌ {A = ℕ} 0 1 = cc in omega arith

pub same_bytes : (m n : ℕ) → Some m ≡ Some n → m ≡ n
same_bytes m n e = cc

has-drop : (s : List ℕ) (n b : ℕ) → has_at (drop n s) 0 b ≡ has_at s n b
has-drop s n b = go (has_at s n b) refl
  where
    go : (t : Bool) → has_at s n b ≡ t → has_at (drop n s) 0 b ≡ has_at s n b
    go true e =
        let l = has_within s n b e in
        let f : 0 < length (drop n s) = rw length-drop (omega arith) in
        let at : get_or (drop n s) 0 0 ≡ b = ap (λ (x : List ℕ). get_or x 0 0) (drop-cons s n 0 l) ∙ has-byte s n b e in
        has_here (drop n s) 0 b f at ∙ sym e
    go false e =
        not-holds (has_at (drop n s) 0 b) (λ h.
        let f : 0 < length (drop n s) = has_within (drop n s) 0 b h in
        let l : n < length s = omega (arith, length-drop n s) in
        let at : get_or s n 0 ≡ b = sym (ap (λ (x : List ℕ). get_or x 0 0) (drop-cons s n 0 l)) ∙ has-byte (drop n s) 0 b h in
        false≢true (sym e ∙ has_here s n b l at)) ∙ sym e

-- what was read of the text from i on was read of the text
pub later : {A : Type 0} (amounts : A → ℕ → ℕ) (s before after : List ℕ) (i : ℕ) (r : Option ℕ) → i ≤ length s → (g : Got A)
    → GotLeft amounts (drop i s) before after r g → GotLeft amounts s before after (shift i r) g
later amounts s before after i r l (got x rest) h =
    record {
      n = i + h.n;
      is = ap (shift i) h.is;
      some = omega (arith, h.some);
      within = omega (arith, h.within, length-drop i s);
      follows = h.follows ∙ drop-drop h.n i s;
      adds = h.adds;
    }
later amounts s before after i r l none h = ap (shift i) h

-- a part
module _ (s : List ℕ) (d : ℕ) (before : List ℕ) where
  pub part-word : (after : List ℕ) (r : Option ℕ) → has_at s 0 40 ≡ false → GotLeft total_part s before after r (word_part s) → PartLeft s d before after r
  unfolding PartLeft part_of
  part-word after r h x zero l = absurd (omega arith)
  part-word after r h x (suc f) l = rw h x

  module _ (h : has_at s 0 40 ≡ true) where
    pub part-deep : (after : List ℕ) → d ≡ 0 → PartLeft s d before after None
    unfolding PartLeft part_of
    part-deep after e zero l = absurd (omega arith)
    part-deep after e (suc f) l = rw (h, eq-eqb d 0 e)

    module _ (n : d ≡ 0 → ⊥) (zeros inner : List ℕ) where
      shorter : (f : ℕ) → 2 * length s < suc f → 2 * length (drop 1 s) + 1 < f
      shorter f l = let u = has_within s 0 40 h in omega (arith, length-drop 1 s)

      pub part-inner : (after : List ℕ) → MoietyLeft (drop 1 s) (d - 1) zeros inner None → PartLeft s d before after None
      unfolding PartLeft MoietyLeft part_of
      part-inner after m zero l = absurd (omega arith)
      part-inner after m (suc f) l = rw (h, ne_eqb d 0 n) (go (moiety_of f (d - 1) (drop 1 s)) (m f (shorter f l)))
        where
          go : (g : Got Moiety) → GotLeft total (drop 1 s) zeros inner None g → GotLeft total_part s before after None (in_brackets g)
          go (got x r) t = absurd (no_bytes t.n t.is)
          go none t = refl

      pub part-closes : (after : List ℕ) (i : ℕ) (r : Option ℕ) → ((k : ℕ) → get_or zeros k 0 ≡ 0) → MoietyLeft (drop 1 s) (d - 1) zeros inner (Some i) → CloseLeft (drop (1 + i) s) inner before after r
          → PartLeft s d before after (shift (1 + i) r)
      unfolding PartLeft MoietyLeft CloseLeft part_of
      part-closes after i r z m c zero l = absurd (omega arith)
      part-closes after i r z m c (suc f) l = rw (h, ne_eqb d 0 n) (go (moiety_of f (d - 1) (drop 1 s)) (m f (shorter f l)))
        where
          go : (g : Got Moiety) → GotLeft total (drop 1 s) zeros inner (Some i) g → GotLeft total_part s before after (shift (1 + i) r) (in_brackets g)
          go (got x rest) t =
              let e = same_bytes i t.n t.is in
              let u : 1 + i ≤ length s = omega (arith, t.within, length-drop 1 s, has_within s 0 40 h) in
              let at : rest ≡ drop (1 + i) s = t.follows ∙ drop-drop t.n 1 s ∙ ap (λ (j : ℕ). drop (1 + j) s) (sym e) in
              let counted : (k : ℕ) → get_or inner k 0 ≡ total x k = λ k. t.adds k ∙ ap (λ (y : ℕ). y + total x k) (z k) ∙ zero-add (total x k) in
              rw at (later total_part s before after (1 + i) r u (closed x (drop (1 + i) s)) (c x counted))
          go none t = absurd (no_bytes i (sym t))

-- a moiety
module _ (s : List ℕ) (d : ℕ) (before after : List ℕ) where
  pub moiety-none : (last : List ℕ) → PartLeft s d before after None → MoietyLeft s d before last None
  unfolding PartLeft MoietyLeft part_of
  moiety-none last p zero l = absurd (omega arith)
  moiety-none last p (suc f) l = let u : 2 * length s < f = omega arith in go (part_of f d s) (p f u)
    where
      go : (g : Got Part) → GotLeft total_part s before after None g → GotLeft total s before last None (goes_on g (moiety_of f d))
      go (got x r) t = absurd (no_bytes t.n t.is)
      go none t = refl

  module _ (n : ℕ) (p : PartLeft s d before after (Some n)) where
    pub moiety-one : has_at s n 32 ≡ false → MoietyLeft s d before after (Some n)
    unfolding PartLeft MoietyLeft part_of total
    moiety-one h zero l = absurd (omega arith)
    moiety-one h (suc f) l = let u : 2 * length s < f = omega arith in go (part_of f d s) (p f u)
      where
        go : (g : Got Part) → GotLeft total_part s before after (Some n) g → GotLeft total s before after (Some n) (goes_on g (moiety_of f d))
        go (got x r) t =
            let e = same_bytes n t.n t.is in
            let no : has_at r 0 32 ≡ false = ap (λ (y : List ℕ). has_at y 0 32) t.follows ∙ has-drop s t.n 32 ∙ ap (λ (j : ℕ). has_at s j 32) (sym e) ∙ h in
            rw no (record { n = t.n; is = t.is; some = t.some; within = t.within; follows = t.follows; adds = t.adds })
        go none t = absurd (no_bytes n (sym t))

    pub moiety-more : (last : List ℕ) (r : Option ℕ) → has_at s n 32 ≡ true → MoietyLeft (drop (n + 1) s) d after last r → MoietyLeft s d before last (shift (n + 1) r)
    unfolding PartLeft MoietyLeft part_of total
    moiety-more last r h m zero l = absurd (omega arith)
    moiety-more last r h m (suc f) l = let u : 2 * length s < f = omega arith in go (part_of f d s) (p f u)
      where
        in-text : n + 1 ≤ length s
        in-text = let u = has_within s n 32 h in omega arith

        add-up : (x : Part) → Added before after (total_part x) → (g : Got Moiety) → GotLeft total s after last (shift (n + 1) r) g → GotLeft total s before last (shift (n + 1) r) (with_part x g)
        add-up x a (got m rest) t =
            record {
              n = t.n;
              is = t.is;
              some = t.some;
              within = t.within;
              follows = t.follows;
              adds = λ k. t.adds k ∙ ap (λ (y : ℕ). y + total m k) (a k) ∙ add_assoc (get_or before k 0) (total_part x k) (total m k);
            }
        add-up x a none t = t

        go : (g : Got Part) → GotLeft total_part s before after (Some n) g → GotLeft total s before last (shift (n + 1) r) (goes_on g (moiety_of f d))
        go (got x rest) t =
            let e = same_bytes n t.n t.is in
            let at : rest ≡ drop n s = t.follows ∙ ap (λ (j : ℕ). drop j s) (sym e) in
            let yes : has_at rest 0 32 ≡ true = ap (λ (y : List ℕ). has_at y 0 32) at ∙ has-drop s n 32 ∙ h in
            let on : drop 1 rest ≡ drop (n + 1) s = ap (drop 1) at ∙ drop-drop 1 n s in
            let v : 2 * length (drop (n + 1) s) + 1 < f = omega (arith, length-drop (n + 1) s, in-text) in
            rw (yes, on) (add-up x t.adds (moiety_of f d (drop (n + 1) s)) (later total s after last (n + 1) r in-text (moiety_of f d (drop (n + 1) s)) (m f v)))
        go none t = absurd (no_bytes n (sym t))

-- a whole text
module _ (s before after : List ℕ) where
  pub whole-none : MoietyLeft s most_deep before after None → WholeLeft s before after None
  unfolding MoietyLeft WholeLeft whole_text_of
  whole-none p zero l = absurd (omega arith)
  whole-none p (suc f) l = go (moiety_of (enough s) most_deep s) (p (enough s) (omega arith))
    where
      go : (g : Got Moiety) → GotLeft total s before after None g → AllLeft before after None (further g (whole_text_of f))
      go (got x r) t = absurd (no_bytes t.n t.is)
      go none t = refl

  module _ (n : ℕ) (p : MoietyLeft s most_deep before after (Some n)) where
    -- the case that the moiety was read, by the text that follows it
    whole_by : (last : List ℕ) (r : Option Unit) (f : ℕ) → ((m : Moiety) → n ≤ length s → Added before after (total m) → AllLeft before last r (further (got m (drop n s)) (whole_text_of f)))
        → AllLeft before last r (further (moiety_of (enough s) most_deep s) (whole_text_of f))
    unfolding MoietyLeft
    whole_by last r f h = go (moiety_of (enough s) most_deep s) (p (enough s) (omega arith))
      where
        go : (g : Got Moiety) → GotLeft total s before after (Some n) g → AllLeft before last r (further g (whole_text_of f))
        go (got x rest) t =
            let e = same_bytes n t.n t.is in
            let at : rest ≡ drop n s = t.follows ∙ ap (λ (j : ℕ). drop j s) (sym e) in
            let l : n ≤ length s = omega (arith, t.within) in
            subst (λ (y : List ℕ). AllLeft before last r (further (got x y) (whole_text_of f))) (sym at) (h x l t.adds)
        go none t = absurd (no_bytes n (sym t))

    pub whole-end : n ≡ length s → WholeLeft s before after (Some tt)
    unfolding WholeLeft whole_text_of total_all
    whole-end e zero l = absurd (omega arith)
    whole-end e (suc f) l =
        whole_by after (Some tt) f (λ m w a. let z : length (drop n s) ≡ 0 = rw length-drop (omega arith) in rw (eq-eqb (length (drop n s)) 0 z) (refl, a))

    module _ (ne : n ≡ length s → ⊥) where
      left : n ≤ length s → eqb (length (drop n s)) 0 ≡ false
      left w = ne_eqb (length (drop n s)) 0 (λ z. ne (omega (arith, length-drop n s)))

      pub whole-no-comma : has_at s n 44 ≡ false → WholeLeft s before after None
      unfolding WholeLeft whole_text_of
      whole-no-comma h zero l = absurd (omega arith)
      whole-no-comma h (suc f) l = whole_by after None f (λ m w a. rw (left w, has-drop s n 44, h))

      has-second : has_at (drop n s) 1 32 ≡ has_at s (n + 1) 32
      has-second = sym (has-drop (drop n s) 1 32) ∙ ap (λ (x : List ℕ). has_at x 0 32) (drop-drop 1 n s) ∙ has-drop s (n + 1) 32

      module _ (h : has_at s n 44 ≡ true) where
        pub whole-no-space : has_at s (n + 1) 32 ≡ false → WholeLeft s before after None
        unfolding WholeLeft whole_text_of
        whole-no-space k zero l = absurd (omega arith)
        whole-no-space k (suc f) l = whole_by after None f (λ m w a. rw (left w, has-drop s n 44, h, has-second, k))

        pub whole-more : (last : List ℕ) (r : Option Unit) → has_at s (n + 1) 32 ≡ true → WholeLeft (drop (n + 2) s) after last r → WholeLeft s before last r
        unfolding WholeLeft whole_text_of total_all
        whole-more last r k rest zero l = absurd (omega arith)
        whole-more last r k rest (suc f) l =
            whole_by last r f (λ m w a.
            let in-text = has_within s (n + 1) 32 k in
            let v : length (drop (n + 2) s) < f = omega (arith, length-drop (n + 2) s) in
            rw (left w, has-drop s n 44, h, has-second, k, drop-drop 2 n s) (add-up m a (whole_text_of f (drop (n + 2) s)) (rest f v)))
          where
            add-up : (m : Moiety) → Added before after (total m) → (w : Whole) → AllLeft after last r w → AllLeft before last r (listed m w)
            add-up m a (whole x xs) t = (t.0, λ k. t.1 k ∙ ap (λ (y : ℕ). y + total_all x xs k) (a k) ∙ add_assoc (get_or before k 0) (total m k) (total_all x xs k))
            add-up m a unread t = t
