-- A moiety formula by stages, as the code goes (document 02, No. 12). `Agree` (proofs) shows that it is the request's wording.
-- Assumes nothing.
use Rattle.std.specs.Prelude.{ℕ, zero, suc, ◌+◌, ◌-◌, ◌*◌, Bool, false, cond, ◌&&◌, List, [], ◌∷◌, leb, eqb, length, take, drop, Option, Some, None}
use Rattle.text.specs.Run.{run_of, other, has_at}
use Rattle.formula_terms.specs.Term.{count_of, term_of}
use Rattle.formula_sum.specs.Recognised.{is_recognised}
use Rattle.formula_moiety.specs.Grammar.{Part, Moiety, term, group, one, more, most_times, most_deep, IsText}

-- what was read, and the text that follows it; or nothing
pub data Got (A : Type 0) : Type 0 where
  got : A → List ℕ → Got A
  none : Got A

-- the bytes of a term or a count: none is a space, a bracket that closes or a comma
unfoldable pub in_word : ℕ → Bool
in_word b = other 32 b && (other 41 b && other 44 b)

-- the word that a text begins with, and what follows it
abbrev pub word : List ℕ → List ℕ
word t = take (run_of in_word t) t

abbrev pub past : List ℕ → List ℕ
past t = drop (run_of in_word t) t

-- a word is a count after a bracket: "1 to 99"
abbrev pub few_times : Option ℕ → Bool
few_times (Some n) = leb n most_times
few_times None = false

abbrev pub is_times : List ℕ → Bool
is_times c = few_times (count_of c)

-- the count after a bracket that a word is
unfoldable pub bracket_count : List ℕ → Option ℕ
bracket_count c = cond (is_times c) (count_of c) None

-- the term that a text begins with
unfoldable pub word_part : List ℕ → Got Part
word_part t = cond (is_recognised (term_of (word t))) (got (term (word t)) (past t)) none

-- the moiety m in brackets, where r follows it: the bracket that closes and its count
unfoldable pub closed : Moiety → List ℕ → Got Part
closed m r =
    cond (has_at r 0 41) (cond (is_times (word (drop 1 r))) (got (group m (word (drop 1 r))) (past (drop 1 r))) none) none

abbrev pub in_brackets : Got Moiety → Got Part
in_brackets (got m r) = closed m r
in_brackets none = none

-- a part and the moiety that goes on after it
abbrev pub with_part : Part → Got Moiety → Got Moiety
with_part p (got m r) = got (more p m) r
with_part p none = none

-- after a part the moiety goes on where a space follows
abbrev pub goes_on : Got Part → (List ℕ → Got Moiety) → Got Moiety
goes_on (got p r) further = cond (has_at r 0 32) (with_part p (further (drop 1 r))) (got (one p) r)
goes_on none further = none

-- the part, and the moiety, that a text begins with, inside at most d more brackets; the first number bounds how often the two call each other
unfoldable mutual
  pub part_of : ℕ → ℕ → List ℕ → Got Part
  part_of zero d t = none
  part_of (suc f) d t = cond (has_at t 0 40) (cond (eqb d 0) none (in_brackets (moiety_of f (d - 1) (drop 1 t)))) (word_part t)

  pub moiety_of : ℕ → ℕ → List ℕ → Got Moiety
  moiety_of zero d t = none
  moiety_of (suc f) d t = goes_on (part_of f d t) (moiety_of f d)

-- what a whole text is
pub data Whole : Type 0 where
  whole : Moiety → List Moiety → Whole
  unread : Whole

abbrev pub listed : Moiety → Whole → Whole
listed m (whole n ms) = whole m (n ∷ ms)
listed m unread = unread

-- after a moiety the text ends, or comma, space and the next moiety follow
abbrev pub further : Got Moiety → (List ℕ → Whole) → Whole
further (got m r) rest =
    cond (eqb (length r) 0) (whole m []) (cond (has_at r 0 44) (cond (has_at r 1 32) (listed m (rest (drop 2 r))) unread) unread)
further none rest = unread

-- a bound that is always enough
abbrev pub enough : List ℕ → ℕ
enough t = 2 * length t + 2

unfoldable pub whole_text_of : ℕ → List ℕ → Whole
whole_text_of zero t = unread
whole_text_of (suc f) t = further (moiety_of (enough t) most_deep t) (whole_text_of f)

-- the moieties that a text is
unfoldable pub moieties_of : List ℕ → Whole
moieties_of t = whole_text_of (length t + 1) t

-- a text is read as its moieties, and not read where it is that of none
abbrev pub ReadAs : List ℕ → Whole → Type 0
ReadAs t (whole m ms) = IsText t m ms
ReadAs t unread = (m : Moiety) (ms : List Moiety) → IsText t m ms → ⊥
