-- What the readers take of a text and leave in the counters, and what room they ask there.
-- Assumes nothing.
use Rattle.std.specs.Prelude.{ℕ, ◌+◌, ◌*◌, ◌≤◌, ◌<◌, ◌≡◌, List, length, get_or, drop, Option, Some, None}
use Rattle.formula_elements.specs.Elements.{element_count}
use Rattle.formula_moiety.specs.Grammar.{Moiety}
use Rattle.formula_moiety.specs.Reading.{Got, got, none, closed, part_of, moiety_of, Whole, whole, unread, whole_text_of}
use Rattle.formula_moiety.specs.Totals.{total_part, total, total_all, most}
use Rattle.formula_totals.specs.Counters.{limit, Added}

-- the first n bytes of s were read, rest follows, and each counter has grown by its amount
pub record Took (s rest : List ℕ) (before after : List ℕ) (amounts : ℕ → ℕ) (r : Option ℕ) : Type 0 where
  pub n : ℕ
  pub is : r ≡ Some n
  pub some : 1 ≤ n
  pub within : n ≤ length s
  pub follows : rest ≡ drop n s
  pub adds : Added before after amounts

-- what was taken is what the stages read, with its totals; where they read nothing, nothing is said of the counters
abbrev pub GotLeft : {A : Type 0} → (A → ℕ → ℕ) → List ℕ → List ℕ → List ℕ → Option ℕ → Got A → Type 0
GotLeft amounts s before after r (got x rest) = Took s rest before after (amounts x) r
GotLeft amounts s before after r none = r ≡ None

-- what the end of a bracket leaves, whatever moiety its inside counted
unfoldable pub CloseLeft : List ℕ → List ℕ → List ℕ → List ℕ → Option ℕ → Type 0
CloseLeft s inner before after r = (m : Moiety) → ((k : ℕ) → get_or inner k 0 ≡ total m k) → GotLeft total_part s before after r (closed m s)

-- a part, and a moiety, was read as the stages read it, with every bound that is enough
unfoldable pub PartLeft : List ℕ → ℕ → List ℕ → List ℕ → Option ℕ → Type 0
PartLeft s d before after r = (f : ℕ) → 2 * length s < f → GotLeft total_part s before after r (part_of f d s)

unfoldable pub MoietyLeft : List ℕ → ℕ → List ℕ → List ℕ → Option ℕ → Type 0
MoietyLeft s d before after r = (f : ℕ) → 2 * length s + 1 < f → GotLeft total s before after r (moiety_of f d s)

-- a whole text was read, or it is not of the subset; then nothing is said of the counters
abbrev pub AllLeft : List ℕ → List ℕ → Option Unit → Whole → Type 0
AllLeft before after r (whole m ms) = (r ≡ Some tt) × Added before after (total_all m ms)
AllLeft before after r unread = r ≡ None

unfoldable pub WholeLeft : List ℕ → List ℕ → List ℕ → Option Unit → Type 0
WholeLeft s before after r = (f : ℕ) → length s < f → AllLeft before after r (whole_text_of f s)

-- a counter for each element, with room for all that a text inside d more brackets can add: why nothing wraps
pub record Room (d : ℕ) (s counts : List ℕ) : Type 0 where
  pub long : length counts ≡ element_count
  pub room : (k : ℕ) → get_or counts k 0 + length s * most d ≤ limit
