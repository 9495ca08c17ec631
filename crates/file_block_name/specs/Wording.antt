-- The name of a block in document 02's words (No. 1).
-- Assumes nothing.
use Rattle.std.specs.Prelude.{ℕ, ◌≤◌, ◌<◌, ◌≡◌, List, length, get_or}
use Rattle.file_block_name.specs.Block.{block_most}

-- "letters, digits or -"
pub data BlockByte (b : ℕ) : Type 0 where
  capital : 65 ≤ b → b ≤ 90 → BlockByte b
  small : 97 ≤ b → b ≤ 122 → BlockByte b
  digit : 48 ≤ b → b ≤ 57 → BlockByte b
  dash : b ≡ 45 → BlockByte b

-- "a block name (1 to 32 letters, digits or -)"
pub record BlockName (name : List ℕ) : Type 0 where
  pub some : 1 ≤ length name
  pub few : length name ≤ block_most
  pub each : (i : ℕ) → i < length name → BlockByte (get_or name i 0)
