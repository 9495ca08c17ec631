-- The log's reader between two parts, in memory that the caller lends beside the desk's: the bytes kept of a record that they do not decide, and two numbers, how many
-- bytes are kept and how the reading stands. The desk's used number is where that record starts. Zeros are a fresh reader.
-- Assumes nothing.
use Rattle.std.specs.Prelude.{ℕ, ◌-◌, Bool, cond, ◌&&◌, ◌||◌, List, [], ◌∷◌, ◌++◌, leb, eqb, length, get_or, take, replicate}
use Rattle.text.specs.Run.{between}
use Rattle.reader_cuts.specs.Reading.{Reading, length_most}

-- the kept bytes have room for a longest record
abbrev pub reader_kept : ℕ
reader_kept = length_most

abbrev pub reader_state : ℕ
reader_state = 2

-- the bytes that are kept
abbrev pub kept_in : List ℕ → List ℕ → List ℕ
kept_in k z = take (get_or z 0 0) k

-- how the reading stands: 0, it goes on; 1, it ended with 0; 18, 19 or 20, it was refused so
abbrev pub stands_at : List ℕ → ℕ
stands_at z = get_or z 1 0

unfoldable pub is_standing : ℕ → Bool
is_standing e = leb e 1 || between 18 20 e

-- memory of any other length, or with any other number there, is no reader
unfoldable pub is_reader : List ℕ → List ℕ → Bool
is_reader k z = eqb (length k) reader_kept && (eqb (length z) reader_state && is_standing (stands_at z))

-- the answer with which a reading is over
unfoldable pub answer_at : ℕ → ℕ
answer_at e = cond (between 18 20 e) e 0

-- the number of a reading: of one that is over, by its answer
abbrev pub over_with : ℕ → ℕ
over_with a = cond (eqb a 0) 1 a

-- the memory in which a reading is kept
abbrev pub padded_kept : List ℕ → List ℕ
padded_kept bs = bs ++ replicate (reader_kept - length bs) 0

abbrev pub kept_of : {S : Type 0} → Reading S → List ℕ
kept_of r = padded_kept r.rest

abbrev pub state_numbers : {S : Type 0} → Reading S → List ℕ
state_numbers r = length r.rest ∷ cond r.over (over_with r.answer) 0 ∷ []

-- ---- what the code writes

-- the first len bytes, and zeros behind them; as it was where there are not so many
unfoldable pub only_first : List ℕ → ℕ → List ℕ
only_first k len = cond (leb len (length k)) (take len k ++ replicate (length k - len) 0) k

-- the bytes bs, and zeros behind them; as it was where they do not fit
unfoldable pub holding : List ℕ → List ℕ → List ℕ
holding k bs = cond (leb (length bs) (length k)) (bs ++ replicate (length k - length bs) 0) k

-- the two numbers; as they were where there are not two
unfoldable pub standing : List ℕ → ℕ → ℕ → List ℕ
standing z len e = cond (eqb (length z) reader_state) (len ∷ e ∷ []) z
