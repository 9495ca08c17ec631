-- Row 2's order is that of the documents' words: `in_order` holds exactly where each symbol of the well-formed terms stands before every later one, with C among
-- them and without.
-- Assumes nothing.
use Rattle.formula_symbols.specs.declared.Wanted.TheVariants.{Element}
use Rattle.std.specs.Prelude.{Option, Some, None}
use mathlib.Core.Path.{◌≡◌, refl, sym, ap, subst, ◌∙◌}
use mathlib.Core.Bool.{Bool, true, false, false≢true}
use mathlib.Core.Logic.{⊎_elim}
use mathlib.Core.List.Memᴰ
use mathlib.Core.List.{List, [], ◌∷◌, map, Memᴰ}
use Prim.Native.Nat.{ℕ, ◌≤◌, ◌<◌}
use native.Mathlib.Omega.{arith}
use borrow.Author.Tests.{ltb-true, ltb-false, lt-ltb, leb-true, eqb-true, eq-eqb}
use lib.Dec.{ltb, leb, eqb}
use Rattle.text.specs.Run.{between}
use Rattle.text.proofs.Bools.{and_both, or-either, not-holds, or_right}
use Rattle.formula_elements.specs.Elements.{same_symbol}
use Rattle.formula_terms.specs.Term.{term_of}
use Rattle.formula_terms.specs.Terms.{cut, terms_of, some}
use Rattle.formula_terms.specs.Grammar.{SymbolText, capital, capital_small}
use Rattle.formula_terms.specs.declared.term.Term.{Term}
use Rattle.formula_terms.proofs.Wording.{term_is}
use Rattle.formula_symbols.specs.Symbols.{is_wanted, has_term, has_carbon}
use Rattle.formula_order.specs.Order.{rank, order_key, order_keys, rising, in_order}
use Rattle.formula_elements.specs.declared.Symbol.{Symbol}
use Rattle.formula_elements.specs.Elements.{carbon, hydrogen}
use Rattle.formula_order.specs.Wording.{Other, Rises, first_rises, second_rises, Before, symbols_of, Ordered, InOrder}

-- "none twice": no symbol stands before itself
pub rises-other : (x : Symbol) → Rises x x → ⊥
rises-other x (first_rises l) = omega arith
rises-other x (second_rises e l) = omega arith

pub before-other : (x : Symbol) → Before x x → ⊥
before-other x (Before.carbon_first y n) = n refl
before-other x (Before.then_hydrogen y o) = o.1 refl
before-other x (Before.others_rise y z o u r) = rises-other x r

module _ (x y : Symbol) where
  abbrev same : Bool
  same = same_symbol x.first x.second y.first y.second

  same-is : same ≡ true → x ≡ y
  unfolding same_symbol
  same-is e =
      let h = and_both (eqb x.first y.first) (eqb x.second y.second) e in
      ap (λ (a : ℕ). record { first = a; second = x.second }) (eqb-true x.first y.first h.0)
      ∙ ap (λ (b : ℕ). record { first = y.first; second = b }) (eqb-true x.second y.second h.1)

  is_same : x ≡ y → same ≡ true
  unfolding same_symbol
  is_same e = rw (eq-eqb x.first y.first (ap (λ (z : Symbol). z.first) e), eq-eqb x.second y.second (ap (λ (z : Symbol). z.second) e))

  not_same : same ≡ false → x ≡ y → ⊥
  not_same f e = false≢true (sym f ∙ is_same e)

-- the order key of a symbol, with C among the symbols or without
abbrev order_of : Bool → Symbol → ℕ
order_of carbon x = order_key carbon x.first x.second

-- symbols of one rank stand in rising ASCII order
module _ (carbon : Bool) (x y : Symbol) (level : rank carbon x.first x.second ≡ rank carbon y.first y.second) where
  rises-smaller : Rises x y → x.second < 256 → order_of carbon x < order_of carbon y
  unfolding order_key
  rises-smaller (first_rises l) s = omega (arith, level)
  rises-smaller (second_rises e l) s = omega (arith, level)

  rises_by : (t : Bool) → ltb x.first y.first ≡ t → y.second < 256 → order_of carbon x < order_of carbon y → Rises x y
  unfolding order_key
  rises_by true t s l = first_rises (ltb-true _ _ t)
  rises_by false t s l = let f = ltb-false x.first y.first t in second_rises (omega (arith, level)) (omega (arith, level))

-- ---- with C

rank-other : (x : Symbol) → Other x → rank true x.first x.second ≡ 2
unfolding rank
rank-other x o = simp (not-holds (same x carbon) (λ e. o.0 (same-is x carbon e)), not-holds (same x hydrogen) (λ e. o.1 (same-is x hydrogen e)))

one_rank : (x y : Symbol) → Other x → Other y → rank true x.first x.second ≡ rank true y.first y.second
one_rank x y o u = rank-other x o ∙ sym (rank-other y u)

carbon-hydrogen : order_of true carbon < order_of true hydrogen
unfolding order_key rank same_symbol
carbon-hydrogen = omega arith

hydrogen-other : (x : Symbol) → Other x → order_of true hydrogen < order_of true x
unfolding order_key rank same_symbol
hydrogen-other x o = omega (arith, rank-other x o)

carbon-by : (y : Symbol) (h : Bool) → same y hydrogen ≡ h → (y ≡ carbon → ⊥) → order_of true carbon < order_of true y
carbon-by y true e n = omega (arith, carbon-hydrogen, ap (order_of true) (same-is y hydrogen e))
carbon-by y false e n = omega (arith, carbon-hydrogen, hydrogen-other y (n, not_same y hydrogen e))

-- a symbol that stands before another has the smaller order key
before-smaller : (x y : Symbol) → Before x y → x.second < 256 → order_of true x < order_of true y
before-smaller x y (Before.carbon_first z n) s = carbon-by y (same y hydrogen) refl n
before-smaller x y (Before.then_hydrogen z o) s = hydrogen-other y o
before-smaller x y (Before.others_rise v z o u r) s = rises-smaller true x y (one_rank x y o u) r s

-- a symbol with a smaller order key than another stands before it
module _ (x y : Symbol) (s : y.second < 256) (l : order_of true x < order_of true y) where
  before-by : (c h : Bool) → same x carbon ≡ c → same x hydrogen ≡ h → Before x y
  before-by true h p q =
      let e = same-is x carbon p in
      subst (λ (z : Symbol). Before z y) (sym e) (Before.carbon_first y (λ k. omega (arith, ap (order_of true) e, ap (order_of true) k)))
  before-by false true p q =
      let e = same-is x hydrogen q in
      let o : Other y
      = (λ k. omega (arith, carbon-hydrogen, ap (order_of true) e, ap (order_of true) k), λ k. omega (arith, ap (order_of true) e, ap (order_of true) k)) in
      subst (λ (z : Symbol). Before z y) (sym e) (Before.then_hydrogen y o)
  before-by false false p q =
      let o : Other x = (not_same x carbon p, not_same x hydrogen q) in
      let m = hydrogen-other x o in
      let u : Other y = (λ k. omega (arith, carbon-hydrogen, ap (order_of true) k), λ k. omega (arith, ap (order_of true) k)) in
      Before.others_rise x y o u (rises_by true x y (one_rank x y o u) (ltb x.first y.first) refl s l)

  smaller_before : Before x y
  smaller_before = before-by (same x carbon) (same x hydrogen) refl refl

-- ---- without C all symbols have one rank

no-rank : (x y : Symbol) → rank false x.first x.second ≡ rank false y.first y.second
unfolding rank
no-rank x y = refl

-- ---- either way

-- every symbol's second byte is above 0 and below 256
abbrev Bytes : List (Option Term) → Type 0
Bytes ts = (y : Symbol) → Memᴰ y (symbols_of ts) → (1 ≤ y.second) × (y.second < 256)

symbol-byte : {t : List ℕ} {a b : ℕ} → SymbolText t a b → (1 ≤ b) × (b < 256)
unfolding between
symbol-byte (capital a up) = (omega arith, omega arith)
symbol-byte (capital_small a b up low) = let h = and_both (leb 97 b) (leb b 122) low in (omega (arith, leb-true 97 b h.0), omega (arith, leb-true b 122 h.1))

bytes-by : (c : List ℕ) (t : Option Term) (ts : List (Option Term)) → term_of c ≡ t → Bytes ts → Bytes (t ∷ ts)
bytes-by c None ts e b y m = b y m
bytes-by c (Some t) ts e b y m =
    let a = t.symbol.first in
    let d = t.symbol.second in
    let n = t.count in
    let k = symbol-byte (term_is c a d n e).is_symbol in
    ⊎_elim (λ q. let s = ap (λ (z : Symbol). z.second) q in (omega arith, omega arith)) (b y) (Memᴰ.cases_cons m)

bytes_of : (cs : List (List ℕ)) → Bytes (map term_of cs)
bytes_of [] y m = absurd (Memᴰ.not-nil m)
bytes_of (c ∷ cs) y m = bytes-by c (term_of c) (map term_of cs) refl (bytes_of cs) y m

-- symbols ordered by R, where R is that the order key is smaller
module _ (carbon : Bool) (R : Symbol → Symbol → Type 0) where
  -- every symbol's order key is above a number
  abbrev Above : ℕ → List (Option Term) → Type 0
  Above low ts = (y : Symbol) → Memᴰ y (symbols_of ts) → low < order_of carbon y

  -- order keys that rise from above a number are above it, and their symbols ordered
  rising-ordered : ((x y : Symbol) → y.second < 256 → order_of carbon x < order_of carbon y → R x y) → (low : ℕ) (ts : List (Option Term)) → Bytes ts
      → rising low (order_keys carbon ts) ≡ true → Above low ts × Ordered R (symbols_of ts)
  unfolding rising
  rising-ordered r low [] b e = (λ y m. absurd (Memᴰ.not-nil m), Ordered.none)
  rising-ordered r low (None ∷ ts) b e = rising-ordered r low ts b e
  rising-ordered r low (Some u ∷ ts) b e =
      let a = u.symbol.first in
      let c = u.symbol.second in
      let n = u.count in
      let x : Symbol = record { first = a; second = c } in
      let p = and_both (ltb low (order_of carbon x)) (rising (order_of carbon x) (order_keys carbon ts)) e in
      let l = ltb-true low (order_of carbon x) p.0 in
      let h = rising-ordered r (order_of carbon x) ts (λ y m. b y (Memᴰ.tail m)) p.1 in
      let before : (y : Symbol) → Memᴰ y (symbols_of ts) → R x y = λ y m. r x y (b y (Memᴰ.tail m)).1 (h.0 y m) in
      (λ y m. ⊎_elim (λ q. omega (arith, ap (order_of carbon) q)) (λ k. omega (arith, h.0 y k)) (Memᴰ.cases_cons m), Ordered.next x (symbols_of ts) before h.1)

  -- and the other way
  ordered-rising : ((x y : Symbol) → R x y → x.second < 256 → order_of carbon x < order_of carbon y) → (low : ℕ) (ts : List (Option Term)) → Bytes ts
      → Above low ts → Ordered R (symbols_of ts) → rising low (order_keys carbon ts) ≡ true
  unfolding rising
  ordered-rising r low [] b h o = refl
  ordered-rising r low (None ∷ ts) b h o = ordered-rising r low ts b h o
  ordered-rising r low (Some u ∷ ts) b h (Ordered.next x later f o) =
      let a = u.symbol.first in
      let c = u.symbol.second in
      let n = u.count in
      rw (lt-ltb low (order_of carbon x) (h x (Memᴰ.head refl)))
      (ordered-rising r (order_of carbon x) ts (λ y m. b y (Memᴰ.tail m)) (λ y m. r x y (f y m) (b x (Memᴰ.head refl)).1) o)

-- ---- C among the symbols

-- a term of the symbol C is looked for exactly where C is among the symbols
some-among : (ts : List (Option Term)) → some (is_wanted (Element carbon)) ts ≡ true → Memᴰ carbon (symbols_of ts)
unfolding some
some-among [] e = absurd (false≢true e)
some-among (None ∷ ts) e = some-among ts e
some-among (Some u ∷ ts) e =
    let a = u.symbol.first in
    let b = u.symbol.second in
    let n = u.count in
    let x : Symbol = record { first = a; second = b } in
    ⊎_elim (λ h. Memᴰ.head (sym (same-is x carbon h))) (λ h. Memᴰ.tail (some-among ts h)) (or-either (same x carbon) (some (is_wanted (Element carbon)) ts) e)

among-some : (ts : List (Option Term)) → Memᴰ carbon (symbols_of ts) → some (is_wanted (Element carbon)) ts ≡ true
unfolding some
among-some [] m = absurd (Memᴰ.not-nil m)
among-some (None ∷ ts) m = among-some ts m
among-some (Some u ∷ ts) m =
    let a = u.symbol.first in
    let b = u.symbol.second in
    let n = u.count in
    let x : Symbol = record { first = a; second = b } in
    ⊎_elim (λ q. rw (is_same x carbon (sym q)) refl) (λ k. or_right (same x carbon) _ (among-some ts k)) (Memᴰ.cases_cons m)

-- the text has C exactly where C is among its symbols
pub carbon-among : (s : List ℕ) → has_carbon s ≡ true → Memᴰ carbon (symbols_of (terms_of s))
unfolding has_term
carbon-among s e = some-among (terms_of s) e

pub among-carbon : (s : List ℕ) → Memᴰ carbon (symbols_of (terms_of s)) → has_carbon s ≡ true
unfolding has_term
among-carbon s m = among-some (terms_of s) m

-- ---- row 2's order

module _ (s : List ℕ) where
  bytes : Bytes (terms_of s)
  bytes = bytes_of (cut s)

  above : (carbon : Bool) (R : Symbol → Symbol → Type 0) → Above carbon R 0 (terms_of s)
  unfolding order_key
  above carbon R y m = omega (arith, (bytes y m).0)

  order-by : (c : Bool) → has_carbon s ≡ c → rising 0 (order_keys c (terms_of s)) ≡ true → InOrder (symbols_of (terms_of s))
  order-by true h e = InOrder.with_carbon (carbon-among s h) (rising-ordered true Before smaller_before 0 (terms_of s) bytes e).1
  order-by false h e =
      InOrder.without_carbon (λ m. false≢true (sym h ∙ among-carbon s m))
      (rising-ordered false Rises (λ x y. rises_by false x y (no-rank x y) (ltb x.first y.first) refl) 0 (terms_of s) bytes e).1

  -- the symbols of a text that is in order are so
  pub order_is : in_order s ≡ true → InOrder (symbols_of (terms_of s))
  unfolding in_order
  order_is e = order-by (has_carbon s) refl e

  -- a text whose symbols are in order is in order
  pub order-taken : InOrder (symbols_of (terms_of s)) → in_order s ≡ true
  unfolding in_order
  order-taken (InOrder.with_carbon m o) = rw (among-carbon s m) (ordered-rising true Before before-smaller 0 (terms_of s) bytes (above true Before) o)
  order-taken (InOrder.without_carbon n o) =
      rw (not-holds (has_carbon s) (λ e. n (carbon-among s e)))
      (ordered-rising false Rises (λ x y. rises-smaller false x y (no-rank x y)) 0 (terms_of s) bytes (above false Rises) o)
