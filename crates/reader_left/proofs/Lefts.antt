-- Laws of what a part leaves.
-- Assumes nothing.
use mathlib.Core.Path.{◌≡◌, refl, sym, ap, ◌∙◌}
use mathlib.Core.Bool.{true, false, false≢true, cond}
use mathlib.Core.List.{List, [], ◌∷◌}
use Prim.Native.Nat.{ℕ, ◌≤◌}
use native.Mathlib.Omega.{arith}
use borrow.Author.Tests.{le-leb, eqb-true, eq-eqb}
use lib.ListN.{length}
use Rattle.std.specs.Prelude.{◌==◌}
use Rattle.desk_state.specs.declared.desk.Desk.{Desk}
use Rattle.reader_cuts.specs.Reading.{Reading, ended, short, place_for}
use Rattle.reader_memory.specs.Memory.{reader_kept, reader_state, over_with, padded_kept, only_first, holding, standing}
use Rattle.reader_left.specs.Left.{left, left_as, left_in}

pub left-path : (a a' p p' : ℕ) (d : Desk) (u : ℕ) (k k' z z' : List ℕ) → a ≡ a' → p ≡ p' → k ≡ k' → z ≡ z' → left a p d u k z ≡ left a' p' d u k' z'
left-path a a' p p' d u k k' z z' e f g h = λ i. left (e i) (f i) d u (g i) (h i)

none-held : (k : List ℕ) → only_first k 0 ≡ holding k []
unfolding only_first holding
none-held k = refl

-- the reading is over
pub stop-left : (k z : List ℕ) (a place at e : ℕ) (k' z' : List ℕ) → k' ≡ only_first k 0 → z' ≡ standing z 0 e → e ≡ over_with a → place ≡ place_for a at → (d : Desk)
    → left a place d at k' z' ≡ left_in k z (ended a d at)
stop-left k z a place at e k' z' x y o p d =
    left-path a a place (place_for a at) d at k' (holding k []) z' (standing z 0 (over_with a)) refl p (x ∙ none-held k) (y ∙ ap (standing z 0) o)

-- the last part's bytes that decide no record
pub short-ended : (d : Desk) (at : ℕ) (bs : List ℕ) → true ≡ (length bs == 0) → ended 0 d at ≡ short true d at bs
short-ended d at [] e = refl
short-ended d at (b ∷ bs) e = absurd (omega (arith, eqb-true (length (b ∷ bs)) 0 (sym e)))

pub short-inside : (d : Desk) (at : ℕ) (bs : List ℕ) → false ≡ (length bs == 0) → ended 20 d at ≡ short true d at bs
short-inside d at [] e = absurd (false≢true e)
short-inside d at (b ∷ bs) e = refl

-- in memory of a reader's lengths
pub left-in : (k z : List ℕ) (r : Reading Desk) → length k ≡ reader_kept → length z ≡ reader_state → length r.rest ≤ reader_kept → left_in k z r ≡ left_as r
unfolding holding standing
left-in k z r a b h =
    let e : holding k r.rest ≡ padded_kept r.rest = rw (a, le-leb (length r.rest) reader_kept h) in
    let f : standing z (length r.rest) (cond r.over (over_with r.answer) 0) ≡ length r.rest ∷ cond r.over (over_with r.answer) 0 ∷ [] = rw (eq-eqb (length z) reader_state b) in
    left-path r.answer r.answer (place_for r.answer r.at) (place_for r.answer r.at) r.sheets r.at _ _ _ _ refl refl e f
