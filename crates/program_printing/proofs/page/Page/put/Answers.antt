-- `program_printing::page::Page::put` meets its contract: the piece is copied in after what is written.
-- Assumes nothing.
use mathlib.Core.Path.{◌≡◌}
use lib.ListN.{length}
use Rattle.program_printing.specs.Page.{page_most}
use Rattle.program_printing.proofs.Pages.{put-adds}
use borrow.Author.Rules.{rules}
use Rattle.program_printing.proofs.page.Page.put.Goals as goal
use Rattle.program_printing.proofs.page.Page.put.Goals.{Start}

long : (c : Start) → length c.args.self.now.bytes ≡ page_most
long c = search rules

pub returns : goal.returns
returns c = put-adds c.args.self.now c.args.piece.now _ (long (goal.at.returns c).Start) c.requires c.copy_in.ensures
