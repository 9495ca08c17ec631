-- Reading a log, whole or in parts (document 02, No. 10), for any sheets S and any judgement of a whole record:
-- `refusal at r s` is 0, or the number (18, 19) with which the record r that starts at byte `at` is refused; `store r s` are the sheets with it.
-- Assumes nothing.
use Rattle.std.specs.Prelude.{ℕ, zero, suc, ◌+◌, Bool, true, false, cond, not, ◌&&◌, ◌||◌, List, [], ◌∷◌, ◌++◌, ltb, eqb, length, take, drop}
use Rattle.desk_log.specs.Record.{head_length, length_told}

-- "length is 7 to 206"
abbrev pub length_least : ℕ
length_least = 7

abbrev pub length_most : ℕ
length_most = 206

abbrev pub bad_length : ℕ → Bool
bad_length n = ltb n length_least || ltb length_most n

-- not "kept bytes that already decide a record": six decide a bad length, and as many as the length says decide the rest
unfoldable pub undecided : List ℕ → Bool
undecided bs = ltb (length bs) head_length || (not (bad_length (length_told bs)) && ltb (length bs) (length_told bs))

-- where the reading stands
pub record Reading (S : Type 0) : Type 0 where
  pub sheets : S
  -- the byte at which the record starts that is refused, or not yet decided
  pub at : ℕ
  -- the bytes of that record so far
  pub rest : List ℕ
  -- after a refusal, and after the last part
  pub over : Bool
  pub answer : ℕ

-- a record is not yet decided: its bytes so far are kept
abbrev pub waiting : {S : Type 0} → S → ℕ → List ℕ → Reading S
waiting s at bs = record { sheets = s; at = at; rest = bs; over = false; answer = 0 }

-- the reading is over with that answer
abbrev pub ended : {S : Type 0} → ℕ → S → ℕ → Reading S
ended a s at = record { sheets = s; at = at; rest = []; over = true; answer = a }

-- bytes that do not decide a record: "20 is given only there", in the last part; where none are left, all was read
abbrev pub short : {S : Type 0} → Bool → S → ℕ → List ℕ → Reading S
short false s at bs = waiting s at bs
short true s at [] = ended 0 s at
short true s at (b ∷ bs) = ended 20 s at

-- "18 record shape, 19 foreign overwrite, 20 end inside a record, each with the byte where the record starts ..; else that number is 0"
abbrev pub place_for : ℕ → ℕ → ℕ
place_for a at = cond (eqb a 0) 0 at

abbrev pub place_answered : {S : Type 0} → Reading S → ℕ
place_answered r = place_for r.answer r.at

module _ {S : Type 0} (refusal : ℕ → List ℕ → S → ℕ) (store : List ℕ → S → S) where
  -- "For each record: fewer than six bytes left, 20; a bad length, 18; fewer bytes left than the length, 20; any other shape fault, 18; then 19".
  -- bs are the bytes from `at` on, and the first number is no less than how many they are (it bounds the recursion).
  unfoldable pub read_from : Bool → ℕ → S → ℕ → List ℕ → Reading S
  read_from last zero s at bs = short last s at bs
  read_from last (suc fuel) s at bs =
      let n : ℕ = length_told bs in
      let r : List ℕ = take n bs in
      cond (ltb (length bs) head_length) (short last s at bs)
      (cond (bad_length n) (ended 18 s at)
      (cond (ltb (length bs) n) (short last s at bs)
      (cond (eqb (refusal at r s) 0) (read_from last fuel (store r s) (at + n) (drop n bs))
      (ended (refusal at r s) s at))))

  -- all records of bs, the first of which starts at `at`
  unfoldable pub read_all : Bool → S → ℕ → List ℕ → Reading S
  read_all last s at bs = read_from last (length bs) s at bs

  -- a log read whole
  abbrev pub read_whole : S → List ℕ → Reading S
  read_whole s log = read_all true s 0 log

  -- one part: the bytes kept of an undecided record and then the part; "parts after it, or after the last part, change nothing and repeat its answer"
  unfoldable pub feed : Reading S → List ℕ → Bool → Reading S
  feed r part last = cond r.over r (read_all last r.sheets r.at (r.rest ++ part))

  -- parts one after the other, each with its mark
  abbrev pub feeds : Reading S → List (List ℕ × Bool) → Reading S
  feeds r [] = r
  feeds r (c ∷ cs) = feeds (feed r c.0 c.1) cs
