-- `formula_symbols::has_term` meets its contract: the test of each word is that of its term. Assumes nothing.
use Rattle.std.proofs.Common.{rules, tests, ◌∙◌}
use Rattle.std.proofs.lemmas.Iterator.Consumers.{YieldsList-from_first}
use Rattle.std.proofs.lemmas.Iterator.Search.{any_from_yields_List}
use Rattle.formula_terms.specs.Term.{term_of}
use Rattle.formula_terms.specs.Terms.{words_left}
use Rattle.formula_terms.proofs.Steps.{some-words}
use Rattle.formula_symbols.specs.Symbols.{is_wanted, has_term}
use Rattle.formula_symbols.proofs.has_term.Goals as goal

pub returns : goal.returns
unfolding has_term
returns c =
    any_from_yields_List (λ w. is_wanted c.args.w (term_of w)) _ _ _ c.any.ensures.ran
    (YieldsList-from_first (λ x. x.now) words_left _ c.cut.ensures) (λ x b q k. search (rules, tests))
    ∙ some-words (is_wanted c.args.w) _
