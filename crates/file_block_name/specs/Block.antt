-- The name of a block (document 02, No. 1).
-- Assumes nothing.
use Rattle.std.specs.Prelude.{ℕ, Bool, ◌&&◌, ◌||◌, List, leb, eqb, length}
use Rattle.text.specs.Run.{all, is_digit, is_capital, is_small}

-- the longest name
abbrev pub block_most : ℕ
block_most = 32

-- "letters, digits or -"
unfoldable pub is_block_byte : ℕ → Bool
is_block_byte b = is_capital b || (is_small b || (is_digit b || eqb b 45))

-- "a block name (1 to 32 letters, digits or -)"
unfoldable pub is_block_name : List ℕ → Bool
is_block_name name = leb 1 (length name) && (leb (length name) block_most && all is_block_byte name)
