-- Each row comes once, and is tested.
-- Assumes nothing.
use Rattle.std.proofs.Common.{◌∙◌, rules}
use borrow.Author.Tests.{tests}
use Rattle.std.proofs.lemmas.Iterator.Search.{all_from_yields_List}
use Rattle.symmetry_operators.specs.Operator.{fine}
use Rattle.symmetry_operators.proofs.Chunks.{rows-yielded, all-is}
use Rattle.symmetry_list.proofs.all_fine.Goals as goal

pub returns : goal.returns
returns c =
    all_from_yields_List fine _ _ _ c.all.ensures.ran (rows-yielded c.args.rows.now c.chunks_exact.ensures.size c.chunks_exact.ensures.rest)
    (λ x b q k. search (rules, tests))
    ∙ all-is fine _
