-- The pairs of a session, and what they leave (document 01, "Measured examples", the program `desk`).
-- Assumes nothing.
use Rattle.std.specs.Prelude.{ℕ, ◌+◌, ◌-◌, cond, List, [], ◌∷◌}
use Rattle.text.specs.Run.{between}
use Rattle.desk_state.specs.Desks.{bench_count, no_bench}
use Rattle.rows.specs.Rows.{no_rows}
use Rattle.rows_sheet.specs.Sheet.{rows_of}
use Rattle.theorem_work.specs.Calls.{Call, key, final}
use Rattle.theorem_sequences.specs.Calls.{State, step}

-- "a bench digit", from `0` on; "Any other first byte goes in as bench 255"
unfoldable pub bench_of : ℕ → ℕ
bench_of first = cond (between 48 (48 + bench_count - 1) first) (first - 48) no_bench

-- "pairs .., a bench digit and a key byte", each a key call; "a last odd byte" is passed over
abbrev pub pairs_of : List ℕ → List Call
pairs_of [] = []
pairs_of (first ∷ []) = []
pairs_of (first ∷ byte ∷ rest) = key (bench_of first) byte ∷ pairs_of rest

-- what the pairs of an input leave; a refused call leaves everything, so that "refusals are passed over"
abbrev pub played : State → List ℕ → State
played s input = final (step rows_of no_rows) s (pairs_of input)
