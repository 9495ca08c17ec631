-- `formula_terms::Words::next` meets its contract: the first word ends at the first space or at the end of what is left.
-- Assumes nothing.
use native.Mathlib.Omega.{arith}
use mathlib.Core.Path.{◌≡◌, sym, ap, ◌∙◌}
use mathlib.Core.List.{List, ◌∷◌}
use Prim.Native.Nat.{ℕ, ◌+◌}
use lib.ListN.{length, take}
use Rattle.text.proofs.Parts.{rest_part}
use Rattle.formula_terms.specs.Terms.{cut, words_of_rest, words_left}
use Rattle.formula_terms.proofs.Cuts.{first-word, only-word}
use Rattle.formula_terms.proofs.WordsIterator.next.Goals as goal
use Rattle.formula_terms.proofs.WordsIterator.next.Goals.{then-n-rest, else-n-rest}

gives : (c : goal.After-self-2-1) → words_left c.args.self.now ≡ take c.run_other-n.result c.in_ok-rest.rest.now ∷ words_of_rest c.if-n-rest.self
gives c =
    let rest = c.in_ok-rest.rest.now in
    let n = c.run_other-n.result in
    elim c.if-n-rest.branch [
      | then-n-rest w ↦
          ap words_of_rest c.in_ok-rest.was ∙ first-word rest n c.run_other-n.ensures.0 w.if-n-rest.true
          ∙ ap (λ (ws : List (List ℕ)). take n rest ∷ ws) (sym (ap words_of_rest w.self-is ∙ ap cut (rest_part rest (n + 1))))
      | else-n-rest w ↦
          ap words_of_rest c.in_ok-rest.was ∙ only-word rest n c.run_other-n.ensures.0 w.if-n-rest.false
          ∙ ap (λ (ws : List (List ℕ)). take n rest ∷ ws) (sym (ap words_of_rest w.self-is))
    ]

pub returns-clause-steps : goal.returns-clause-steps
returns-clause-steps c = gives c

pub returns-clause-goes : goal.returns-clause-goes
returns-clause-goes c = record { on = λ _. (tt, tt, omega (arith, ap length (gives c))); keeps = tt; rests = λ _. tt }
