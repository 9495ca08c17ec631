-- The codes come in order, and those before the first whose product is not there are counted.
-- Assumes nothing.
use Rattle.std.proofs.Common.{◌≡◌, refl, ap, ◌∙◌, arith, ℕ, suc, ◌+◌, Bool, cond, List, [], ◌∷◌, rules}
use borrow.Author.Tests.{tests}
use Rattle.std.specs.List.{prefix_len}
use Rattle.std.proofs.lemmas.Iterator.{YieldsList-from_slice}
use Rattle.std.proofs.lemmas.Iterator.Consumers.{count_from_yields_List, YieldsList-at}
use Rattle.std.proofs.lemmas.Iterator.Search.{YieldsList-from_take_while}
use Rattle.std.proofs.lemmas.List.Folds.{length-prefix_len}
use Rattle.text.specs.Run.{run_of}
use Rattle.symmetry_operators.specs.Residues.{closes_code, row_from_n}
use Rattle.symmetry_judged.proofs.row_run.Goals as goal

prefix-run : (p : ℕ → Bool) (l : List ℕ) → prefix_len p l ≡ run_of p l
unfolding run_of
prefix-run p [] = refl
prefix-run p (x ∷ l) = ap (λ (n : ℕ). cond (p x) n 0) (let e : 1 + prefix_len p l ≡ suc (prefix_len p l) = omega arith in e ∙ ap suc (prefix-run p l))

pub returns-clause-run : goal.returns-clause-run
returns-clause-run c =
    let test = closes_code c.args.codes.now (row_from_n c.args.first) in
    count_from_yields_List _ _ c.count.ensures.ran
    (YieldsList-from_take_while _ test (YieldsList-at c.take_while.ensures.source (YieldsList-from_slice c.args.codes.now c.iter.ensures.rest))
    c.take_while.ensures.closure c.take_while.ensures.done (λ x b q k. search (rules, tests)))
    ∙ length-prefix_len test c.args.codes.now ∙ prefix-run test c.args.codes.now
