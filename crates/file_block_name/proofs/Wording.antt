-- The test of a block's name says what document 02's words say.
-- Assumes nothing.
use mathlib.Core.Path.{◌≡◌}
use mathlib.Core.Bool.{true, or-true}
use mathlib.Core.Logic.{⊎_elim}
use mathlib.Core.List.{List}
use Prim.Native.Nat.{ℕ}
use borrow.Author.Tests.{leb-true, le-leb, eqb-true, eq-eqb}
use lib.Dec.{leb}
use lib.ListN.{length, get_or}
use Rattle.text.specs.Run.{is_capital, is_small, is_digit}
use Rattle.text.proofs.Bools.{and_both, or-either}
use Rattle.text.proofs.Runs.{all-each, all_from, between_is, between-taken}
use Rattle.file_block_name.specs.Block.{block_most, is_block_byte, is_block_name}
use Rattle.file_block_name.specs.Wording.{BlockByte, BlockName}

byte-is : (b : ℕ) → is_block_byte b ≡ true → BlockByte b
unfolding is_block_byte
byte-is b e =
    ⊎_elim (λ c. let h = between_is 65 90 b c in BlockByte.capital h.0 h.1)
    (λ o.
    ⊎_elim (λ s. let h = between_is 97 122 b s in BlockByte.small h.0 h.1)
    (λ o. ⊎_elim (λ d. let h = between_is 48 57 b d in BlockByte.digit h.0 h.1) (λ m. BlockByte.dash (eqb-true b 45 m)) (or-either (is_digit b) _ o))
    (or-either (is_small b) _ o))
    (or-either (is_capital b) _ e)

byte-taken : (b : ℕ) → BlockByte b → is_block_byte b ≡ true
unfolding is_block_byte
byte-taken b (BlockByte.capital l h) = simp (between-taken 65 90 b l h)
byte-taken b (BlockByte.small l h) = simp (between-taken 97 122 b l h, or-true)
byte-taken b (BlockByte.digit l h) = simp (between-taken 48 57 b l h, or-true)
byte-taken b (BlockByte.dash e) = simp (eq-eqb b 45 e, or-true)

-- a text that the test takes is a block's name
pub block-is : (name : List ℕ) → is_block_name name ≡ true → BlockName name
unfolding is_block_name
block-is name e =
    let some = and_both (leb 1 (length name)) _ e in
    let few = and_both (leb (length name) block_most) _ some.1 in
    record {
      some = leb-true 1 (length name) some.0;
      few = leb-true (length name) block_most few.0;
      each = λ i l. byte-is (get_or name i 0) (all-each is_block_byte name i few.1 l);
    }

-- the test takes every block's name
pub block-taken : (name : List ℕ) → BlockName name → is_block_name name ≡ true
unfolding is_block_name
block-taken name h =
    simp (le-leb 1 (length name) h.some, le-leb (length name) block_most h.few, all_from is_block_byte name (λ i l. byte-taken (get_or name i 0) (h.each i l)))
