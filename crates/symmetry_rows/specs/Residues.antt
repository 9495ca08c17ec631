-- The twelve residues of the row at the head of a list of numbers: nine factors modulo 12288, and three translations, 512 a 24th.
-- Assumes nothing.
use Rattle.std.specs.Prelude.{ℕ, ◌*◌, ◌%◌, cond, List, map, ltb, ℤ, pos, get_or}
use Rattle.std.specs.List.{range_with_len}
use Rattle.symmetry_operators.specs.Residues.{reduced}

-- the residue at place k of a row, of the number n modulo 12288
abbrev pub cell : ℕ → ℕ → ℕ
cell k n = cond (ltb k 9) n ((512 * n) % 12288)

-- the residue at place k of the row at the head of a list
abbrev pub cell_of : List ℤ → ℕ → ℕ
cell_of l k = cell k (reduced (get_or l k (pos 0)))

-- those of all twelve places
unfoldable pub cells : List ℤ → List ℕ
cells l = map (cell_of l) (range_with_len 0 12)
