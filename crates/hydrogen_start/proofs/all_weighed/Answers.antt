-- `hydrogen_start::all_weighed` meets its contract: the test of each word is that of its term. Assumes nothing.
use Rattle.std.proofs.Common.{rules, tests, ◌∙◌}
use Rattle.std.proofs.lemmas.Iterator.Consumers.{YieldsList-from_first}
use Rattle.std.proofs.lemmas.Iterator.Search.{all_from_yields_List}
use Rattle.formula_terms.specs.Term.{term_of}
use Rattle.formula_terms.specs.Terms.{words_left}
use Rattle.formula_terms.proofs.Steps.{all-words}
use Rattle.hydrogen_right.specs.Right.{has_weight, all_weighed}
use Rattle.hydrogen_start.proofs.all_weighed.Goals as goal

pub returns : goal.returns
unfolding all_weighed
returns c =
    all_from_yields_List (λ w. has_weight (term_of w)) _ _ _ c.all.ensures.ran
    (YieldsList-from_first (λ x. x.now) words_left _ c.cut.ensures) (λ x b q k. search (rules, tests))
    ∙ all-words has_weight _
