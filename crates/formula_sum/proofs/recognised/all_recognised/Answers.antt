-- `formula_sum::recognised::all_recognised` meets its contract: the test of each word is that of its term. Assumes nothing.
use Rattle.std.proofs.Common.{rules, tests, ◌∙◌}
use Rattle.std.proofs.lemmas.Iterator.Consumers.{YieldsList-from_first}
use Rattle.std.proofs.lemmas.Iterator.Search.{all_from_yields_List}
use Rattle.formula_terms.specs.Term.{term_of}
use Rattle.formula_terms.specs.Terms.{words_left}
use Rattle.formula_terms.proofs.Steps.{all-words}
use Rattle.formula_sum.specs.Recognised.{is_recognised, all_recognised}
use Rattle.formula_sum.proofs.recognised.all_recognised.Goals as goal

pub returns : goal.returns
unfolding all_recognised
returns c =
    all_from_yields_List (λ w. is_recognised (term_of w)) _ _ _ c.all.ensures.ran
    (YieldsList-from_first (λ x. x.now) words_left _ c.cut.ensures) (λ x b q k. search (rules, tests))
    ∙ all-words is_recognised _
