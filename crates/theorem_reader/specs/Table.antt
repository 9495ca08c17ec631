-- The table of a part of a log, in the request's words (document 02, No. 10). That it is what a part is answered, where the reading goes on, is `feed-table`
-- (proofs/Answers.antt), and that its place is where the record starts `feed-places`; of lent memory `lent-feed-table` and `lent-feed-places` (proofs/Lent.antt). Where the
-- reading is over, answer and place are repeated (`Repeats`, specs/Parts.antt).
-- Assumes nothing.
use Rattle.std.specs.Prelude.{ℕ, ◌+◌, ◌≤◌, ◌<◌, ◌≡◌, Bool, true, List, [], ◌∷◌, ◌++◌, length, take}
use Rattle.desk_log.specs.Record.{head_length, length_told}
use Rattle.desk_state.specs.declared.desk.Desk.{Desk}
use Rattle.desk_entries.specs.Entry.{with_entry_on, own_item}
use Rattle.reader_cuts.specs.Reading.{length_least, length_most}
use Rattle.reader_records.specs.Wording.{IsRecord}
use Rattle.theorem_refusals.specs.Table.{Refusal, ◌when◌}
use Rattle.theorem_refusals.specs.Key.{HeldByAnother}

-- reading the bytes bs, the first of which is the byte `at` of the log, comes to the bytes cs: the records before them are taken one after the other, each with "the
-- item .. unowned or owned by that bench"
pub data Comes : Desk → ℕ → List ℕ → Desk → ℕ → List ℕ → Type 0 where
  here : {d : Desk} {at : ℕ} {bs : List ℕ} → Comes d at bs d at bs
  later : {d e : Desk} {at place : ℕ} {r bs cs : List ℕ} {bench item : ℕ} {value : List ℕ} → IsRecord at r bench item value → (HeldByAnother bench (own_item d bench item) → ⊥)
      → Comes (with_entry_on d bench item value) (at + length r) bs e place cs → Comes d at (r ++ bs) e place cs

-- it comes to bytes of which P is so
pub record ComesTo (d : Desk) (at : ℕ) (bs : List ℕ) (P : Desk → ℕ → List ℕ → Type 0) : Type 0 where
  pub desk : Desk
  pub place : ℕ
  pub rest : List ℕ
  pub comes : Comes d at bs desk place rest
  pub so : P desk place rest

-- of the record that starts with cs: "a bad length, 18", known from six bytes on
pub data BadLength (cs : List ℕ) : Type 0 where
  short : head_length ≤ length cs → length_told cs < length_least → BadLength cs
  long : head_length ≤ length cs → length_most < length_told cs → BadLength cs

-- all bytes of a record of good length are there
pub record WholeRecord (cs : List ℕ) : Type 0 where
  pub head : head_length ≤ length cs
  pub least : length_least ≤ length_told cs
  pub most : length_told cs ≤ length_most
  pub bytes : length_told cs ≤ length cs

-- "a bad length, 18; .. any other shape fault, 18"
pub data BadShape (d : Desk) (at : ℕ) (cs : List ℕ) : Type 0 where
  bad_length : BadLength cs → BadShape d at cs
  fault : WholeRecord cs → ((bench item : ℕ) (value : List ℕ) → IsRecord at (take (length_told cs) cs) bench item value → ⊥) → BadShape d at cs

-- "then 19": the item is owned by another bench of the record's sheet
pub record ForeignOverwrite (d : Desk) (at : ℕ) (cs : List ℕ) : Type 0 where
  pub all_there : WholeRecord cs
  pub bench : ℕ
  pub item : ℕ
  pub value : List ℕ
  pub is : IsRecord at (take (length_told cs) cs) bench item value
  pub held : HeldByAnother bench (own_item d bench item)

-- "fewer than six bytes left, 20; .. fewer bytes left than the length, 20", where some are left
pub data EndInside (d : Desk) (at : ℕ) (cs : List ℕ) : Type 0 where
  fewer_than_six : 1 ≤ length cs → length cs < head_length → EndInside d at cs
  fewer_than_length : head_length ≤ length cs → length_least ≤ length_told cs → length_told cs ≤ length_most → length cs < length_told cs → EndInside d at cs

-- "Refusals: 2 first ..; then 18 record shape, 19 foreign overwrite, 20 end inside a record", which is "given only there", in the last part. `Sound` says that desk and
-- reader are sound; bs are the bytes kept and then the part's.
abbrev pub feed_table : Type 0 → Desk → ℕ → List ℕ → Bool → List Refusal
feed_table Sound d at bs last =
    2 when (Sound → ⊥) ∷
    18 when ComesTo d at bs BadShape ∷
    19 when ComesTo d at bs ForeignOverwrite ∷
    20 when ((last ≡ true) × ComesTo d at bs EndInside) ∷ []

-- P of bytes that start at the byte `place` of the log
abbrev pub At : ℕ → (Desk → ℕ → List ℕ → Type 0) → Desk → ℕ → List ℕ → Type 0
At place P d start cs = (place ≡ start) × P d start cs

-- "each with the byte where the record starts, the log's first being 0; else that number is 0": an answer and its place
pub record Placed (d : Desk) (at : ℕ) (bs : List ℕ) (answer place : ℕ) : Type 0 where
  pub of_18 : answer ≡ 18 → ComesTo d at bs (At place BadShape)
  pub of_19 : answer ≡ 19 → ComesTo d at bs (At place ForeignOverwrite)
  pub of_20 : answer ≡ 20 → ComesTo d at bs (At place EndInside)
  pub of_others : (answer ≡ 18 → ⊥) → (answer ≡ 19 → ⊥) → (answer ≡ 20 → ⊥) → place ≡ 0
