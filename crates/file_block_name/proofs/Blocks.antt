-- A law of a block's name.
-- Assumes nothing.
use mathlib.Core.Path.{◌≡◌, refl, ap}
use mathlib.Core.Bool.{Bool, true, ◌&&◌}
use mathlib.Core.List.{List, [], ◌∷◌}
use Prim.Native.Nat.{ℕ, ◌≤◌}
use borrow.Author.Tests.{leb-true}
use lib.Dec.{leb}
use lib.ListN.{length}
use Rattle.std.specs.List.{list_all}
use Rattle.text.specs.Run.{all}
use Rattle.text.proofs.Bools.{and_both}
use Rattle.file_block_name.specs.Block.{block_most, is_block_byte, is_block_name}

-- a name is short
pub block-short : (name : List ℕ) → is_block_name name ≡ true → length name ≤ block_most
unfolding is_block_name
block-short name h =
    let b = and_both (leb 1 (length name)) (leb (length name) block_most && all is_block_byte name) h in
    leb-true (length name) block_most (and_both (leb (length name) block_most) (all is_block_byte name) b.1).0

-- the library's test of all elements
pub all-listed : (p : ℕ → Bool) (s : List ℕ) → list_all p s ≡ all p s
unfolding all
all-listed p [] = refl
all-listed p (b ∷ bs) = ap (λ (t : Bool). p b && t) (all-listed p bs)
