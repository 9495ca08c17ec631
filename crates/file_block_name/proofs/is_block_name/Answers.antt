-- `file_block_name::is_block_name` meets its contract: each return has the tests of `is_block_name` on its way.
-- Assumes nothing.
use mathlib.Core.Path.{◌≡◌, ◌∙◌}
use borrow.Author.Tests.{le-leb, lt-leb}
use Rattle.std.proofs.Common.{rules}
use Rattle.std.proofs.lemmas.Iterator.{YieldsList-from_slice}
use Rattle.std.proofs.lemmas.Iterator.Search.{all_from_yields_List}
use Rattle.text.specs.Run.{all}
use Rattle.file_block_name.specs.Block.{is_block_byte, is_block_name}
use Rattle.file_block_name.proofs.Blocks.{all-listed}
use Rattle.file_block_name.proofs.is_block_name.Goals as goal

pub returns-then-name-lt1 : goal.returns-then-name-lt1
unfolding is_block_name
returns-then-name-lt1 c = simp (lt-leb _ _ c.if-name-lt1.true)

pub returns-then-name-gt-BLOCK_MOST : goal.returns-then-name-gt-BLOCK_MOST
unfolding is_block_name
returns-then-name-gt-BLOCK_MOST c = simp (le-leb _ _ c.if-name-lt1.false, lt-leb _ _ c.if-name-gt-BLOCK_MOST.true)

pub returns : goal.returns
unfolding is_block_name
returns c =
    let name = c.args.name.now in
    let every : c.all.result ≡ all is_block_byte name
    = all_from_yields_List is_block_byte _ _ c.all.result c.all.ensures.ran (YieldsList-from_slice name cc) (λ x b q k. search rules)
    ∙ all-listed is_block_byte name in
    simp (le-leb _ _ c.if-name-lt1.false, le-leb _ _ c.if-name-gt-BLOCK_MOST.false) every
