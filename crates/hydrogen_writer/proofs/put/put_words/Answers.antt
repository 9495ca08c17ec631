-- `hydrogen_writer::put::put_words` meets its contract: the terms to come at the start are those of the new text.
-- Assumes nothing.
use mathlib.Core.Path.{ap, subst, ◌∙◌}
use mathlib.Core.Bool.{Bool, not}
use mathlib.Core.List.{List, ◌∷◌}
use Prim.Native.Nat.{ℕ}
use lib.Dec.{eqb}
use Rattle.formula_symbols.specs.Symbols.{has_carbon}
use Rattle.formula_terms.specs.Terms.{cut}
use Rattle.hydrogen_text.specs.NewText.{spread}
use Rattle.hydrogen_writer.specs.Typed.{to_come, Shows}
use Rattle.hydrogen_writer.proofs.Closing.{new-coming}
use Rattle.hydrogen_writer.proofs.put.put_words.Goals as goal

pub returns : goal.returns
returns c =
    let a = c.args in
    let asked : Bool = not (eqb a.n 0) in
    let h = c.written.ensures ∙ c.hydrogen_word-word.ensures in
    let is = ap (λ (b : Bool). to_come b c.written.result.now asked (cut a.s.now)) c.has_term-carbon.ensures
    ∙ ap (λ (x : List ℕ). to_come (has_carbon a.s.now) x asked (cut a.s.now)) h
    ∙ new-coming a.n a.s.now in
    subst (λ (ws : List (List ℕ)). Shows c.put_terms.new.out c.put_terms.result (39 ∷ spread ws)) is c.put_terms.ensures
