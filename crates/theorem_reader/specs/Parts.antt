-- A log fed in parts (document 02, No. 10): the claims about any parts, of any lengths, none too. Feeding one part is specs/Feed.antt of reader_feed, reading whole is
-- specs/Reading.antt of reader_cuts. That they hold is `parts-agree`, `never-unsound`, `stores-before`, `no-20`, `refused-before` and `repeats`
-- (proofs/Agree.antt).
-- Assumes nothing.
use Rattle.std.specs.Prelude.{ℕ, ◌-◌, ◌≤◌, ◌<◌, ◌≡◌, Bool, true, false, List, [], ◌∷◌, ◌++◌, length, take, replicate}
use Rattle.line_items.specs.Items.{item_count}
use Rattle.desk_state.specs.Desks.{sheet_count, sheet_at, fresh_desk}
use Rattle.desk_state.specs.declared.desk.Desk.{Desk}
use Rattle.reader_cuts.specs.Reading.{Reading, ended}
use Rattle.reader_cuts.specs.Called.{answer_and_place, all_bytes, calls_of}
use Rattle.reader_memory.specs.Memory.{reader_kept, kept_in}
use Rattle.reader_entries.specs.Judged.{read_on}
use Rattle.reader_left.specs.Left.{Left, left_as}
use Rattle.reader_feed.specs.Feed.{feed_of}

-- what one part leaves to the next: the desk, its used number, and the reader's memory
pub record Between : Type 0 where
  pub desk : Desk
  pub used : ℕ
  pub kept : List ℕ
  pub state : List ℕ

abbrev pub left_for : Left → Between
left_for l = record { desk = l.desk; used = l.used; kept = l.kept; state = l.state }

-- "Read one, fed in parts, into both sheets of a fresh desk": zeros everywhere
abbrev pub fresh : Between
fresh = record { desk = fresh_desk; used = 0; kept = replicate reader_kept 0; state = 0 ∷ 0 ∷ [] }

-- a part and whether it is marked as the last
abbrev pub LogPart : Type 0
LogPart = List ℕ × Bool

abbrev pub fed : Between → LogPart → Left
fed b c = feed_of b.desk b.used b.kept b.state c.0 c.1

-- parts one after the other: what they leave, and what each is answered, with its place
abbrev pub after_parts : Between → List LogPart → Between
after_parts b [] = b
after_parts b (c ∷ cs) = after_parts (left_for (fed b c)) cs

abbrev pub part_answers : Between → List LogPart → List (ℕ × ℕ)
part_answers b [] = []
part_answers b (c ∷ cs) = ((fed b c).answer, (fed b c).place) ∷ part_answers (left_for (fed b c)) cs

-- a log read whole, and some first bytes of one
abbrev pub whole : List ℕ → Reading Desk
whole log = read_on true fresh_desk 0 log

abbrev pub so_far : List ℕ → Reading Desk
so_far bs = read_on false fresh_desk 0 bs

-- each part that is not the last is answered as the bytes up to its end are; bs are those before the first part
abbrev pub told_so_far : List ℕ → List (List ℕ) → List (ℕ × ℕ)
told_so_far bs [] = []
told_so_far bs (p ∷ ps) = answer_and_place (so_far (bs ++ p)) ∷ told_so_far (bs ++ p) ps

-- "However it is cut, with parts of no bytes too, the sheets and the final answer agree with reading it whole"; parts "after the last part, change nothing and repeat
-- its answer". What is left is the desk, both sheets of it, the used number and all of the reader's memory.
pub record PartsAgree (ps : List (List ℕ)) (p : List ℕ) (more : List LogPart) : Type 0 where
  pub left_so : after_parts fresh (calls_of ps p more) ≡ left_for (left_as (whole (all_bytes ps ++ p)))
  pub told_so : part_answers fresh (calls_of ps p more)
      ≡ told_so_far [] ps ++ (answer_and_place (whole (all_bytes ps ++ p)) ∷ replicate (length more) (answer_and_place (whole (all_bytes ps ++ p))))

-- a reader that grew from a fresh one, by any parts with any marks, is never refused with 2
abbrev pub NeverUnsound : List LogPart → LogPart → Type 0
NeverUnsound cs c = (fed (after_parts fresh cs) c).answer ≡ 2 → ⊥

-- "a refused part may have stored the records before the refused one; the refused record and all after it change nothing": of every sound reader that goes on, what a
-- part leaves are the sheets of the bytes before the used number, which are whole records and read with 0
pub record StoresBefore (b : Between) (c : LogPart) : Type 0 where
  pub later : b.used ≤ (fed b c).used
  pub sheets : read_on true b.desk b.used (take ((fed b c).used - b.used) (kept_in b.kept b.state ++ c.0)) ≡ ended 0 (fed b c).desk (fed b c).used

-- "After a refusal the sheets hold the records before it": a log's bytes before the place at which its reading ended are read with 0, and their sheets are those left
abbrev pub RefusedBefore : List ℕ → Type 0
RefusedBefore log = whole (take (whole log).at log) ≡ ended 0 (whole log).sheets (whole log).at

-- "with 2 the whole part changes nothing", and "parts after it, or after the last part, change nothing"
abbrev pub ChangesNothing : Between → LogPart → Type 0
ChangesNothing b c = left_for (fed b c) ≡ b

-- a desk with both sheets and all items on each, as its types say; lent memory holds no other
pub record SheetsThere (d : Desk) : Type 0 where
  pub sheets : length d.sheets ≡ sheet_count
  pub items : (s : ℕ) → s < sheet_count → length (sheet_at d s).items ≡ item_count

-- a part with which the reading ends: it is refused, or marked as the last
pub data Ends (b : Between) (c : LogPart) : Type 0 where
  with_refusal : ((fed b c).answer ≡ 0 → ⊥) → Ends b c
  with_last : c.1 ≡ true → Ends b c

-- "parts after it, or after the last part, change nothing and repeat its answer": whatever part e comes next, marked or not, its answer and place are those of c, and desk,
-- used number and the reader's memory stay as c left them. So it is of every reader and every desk that has its sheets and items, sound or not.
abbrev pub Repeats : Between → LogPart → Type 0
Repeats b c = (e : LogPart) → fed (left_for (fed b c)) e ≡ fed b c
