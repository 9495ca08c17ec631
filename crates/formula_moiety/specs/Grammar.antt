-- The wording of document 02, No. 12: what a moiety formula is, as a tree with its text, with no stages. `Agree` (proofs) shows that exactly
-- the texts of these trees are read, each in one way. Assumes nothing.
use Rattle.std.specs.Prelude.{ℕ, suc, ◌≤◌, ◌≡◌, true, List, [], ◌∷◌, ◌++◌}
use Rattle.formula_terms.specs.Grammar.{CountText, IsTerm}
use Rattle.formula_elements.specs.Elements.{is_element}

-- "a moiety is one or more parts", "a part is a term or a bracketed moiety with an optional count": term and count as they are written
mutual
  pub data Part : Type 0 where
    term : List ℕ → Part
    group : Moiety → List ℕ → Part

  pub data Moiety : Type 0 where
    one : Part → Moiety
    more : Part → Moiety → Moiety

-- the text of a part, "brackets round", the count "after the bracket"; the text of a moiety, its parts "parted by one space"
unfoldable mutual
  pub shown_part : Part → List ℕ
  shown_part (term w) = w
  shown_part (group m c) = 40 ∷ (shown m ++ (41 ∷ c))

  pub shown : Moiety → List ℕ
  shown (one p) = shown_part p
  shown (more p m) = shown_part p ++ (32 ∷ shown m)

-- "one or more moieties parted by comma and one space"
unfoldable pub shown_all : Moiety → List Moiety → List ℕ
shown_all m [] = shown m
shown_all m (n ∷ ms) = shown m ++ (44 ∷ (32 ∷ shown_all n ms))

-- a term of document 01, "symbols recognised"
pub record IsLeaf (w : List ℕ) : Type 0 where
  pub a : ℕ
  pub b : ℕ
  pub n : ℕ
  pub is : IsTerm w a b n
  pub known : is_element a b ≡ true

-- "an optional count 1 to 99 after the bracket, no leading zero"
abbrev pub most_times : ℕ
most_times = 99

pub record IsTimes (c : List ℕ) : Type 0 where
  pub n : ℕ
  pub is : CountText c n
  pub few : n ≤ most_times

-- "nested at most four deep": at most four brackets are open at once
abbrev pub most_deep : ℕ
most_deep = 4

-- a part, and a moiety, of the house subset, with at most d brackets open at once; no comma stands in brackets and there are no charges, since no term has either
mutual
  pub data IsPart : ℕ → Part → Type 0 where
    is_term : {d : ℕ} {w : List ℕ} → IsLeaf w → IsPart d (term w)
    is_group : {d : ℕ} {m : Moiety} {c : List ℕ} → IsMoiety d m → IsTimes c → IsPart (suc d) (group m c)

  pub data IsMoiety : ℕ → Moiety → Type 0 where
    is_one : {d : ℕ} {p : Part} → IsPart d p → IsMoiety d (one p)
    is_more : {d : ℕ} {p : Part} {m : Moiety} → IsPart d p → IsMoiety d m → IsMoiety d (more p m)

pub data AreMoieties : List Moiety → Type 0 where
  none : AreMoieties []
  next : {m : Moiety} {ms : List Moiety} → IsMoiety most_deep m → AreMoieties ms → AreMoieties (m ∷ ms)

-- t is the text of the moieties m and ms, which are of the house subset
abbrev pub IsText : List ℕ → Moiety → List Moiety → Type 0
IsText t m ms = AreMoieties (m ∷ ms) × (t ≡ shown_all m ms)
