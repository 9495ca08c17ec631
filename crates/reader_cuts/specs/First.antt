-- The first record of some bytes: what the code does with it, whether the bytes are those kept and then the part's, or a part's from some place on. That reading
-- goes so is proofs/Firsts.antt.
-- Assumes nothing.
use Rattle.std.specs.Prelude.{ℕ, ◌+◌, cond, List, ltb, eqb, length, take}
use Rattle.desk_log.specs.Record.{head_length, length_told}
use Rattle.reader_cuts.specs.Reading.{bad_length}

-- how many bytes were taken, 0 where no record was; the answer; the sheets, and where the next record starts
pub record First (S : Type 0) : Type 0 where
  pub bytes : ℕ
  pub answer : ℕ
  pub sheets : S
  pub at : ℕ

-- no record is taken: it is not yet decided, with 0, or refused
abbrev pub stays : {S : Type 0} → ℕ → S → ℕ → First S
stays a s at = record { bytes = 0; answer = a; sheets = s; at = at }

module _ {S : Type 0} (refusal : ℕ → List ℕ → S → ℕ) (store : List ℕ → S → S) where
  -- the first record of bs, which starts at `at`, by the tests of specs/Reading.antt
  unfoldable pub first_of : S → ℕ → List ℕ → First S
  first_of s at bs =
      let n : ℕ = length_told bs in
      let r : List ℕ = take n bs in
      cond (ltb (length bs) head_length) (stays 0 s at)
      (cond (bad_length n) (stays 18 s at)
      (cond (ltb (length bs) n) (stays 0 s at)
      (cond (eqb (refusal at r s) 0) (record { bytes = n; answer = 0; sheets = store r s; at = at + n })
      (stays (refusal at r s) s at))))
