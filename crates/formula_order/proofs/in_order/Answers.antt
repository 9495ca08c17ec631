use mathlib.Core.Path.{◌≡◌, sym, ap, ◌∙◌}
use mathlib.Core.Bool.{Bool, true, false}
use mathlib.Core.List.{List, ◌∷◌, map}
use Prim.Native.Nat.{ℕ}
use borrow.Author.Tests.{lt-ltb, le-ltb}
use Rattle.formula_order.specs.Order.{order_keys, rising, in_order}
use Rattle.formula_terms.specs.Term.{term_of}
use Rattle.formula_terms.specs.Terms.{words_left, terms_of}
use Rattle.formula_order.proofs.Orders.{order-next}
use Rattle.formula_order.proofs.in_order.Goals as goal
use Rattle.formula_order.proofs.in_order.Goals.{In-Some}

at-word : (c : In-Some) → in_order c.args.s.now
    ≡ rising c.loop-word.last (order_keys c.has_term-carbon.result (map term_of (c.in-Some.word.now ∷ words_left c.next.new.self)))
at-word c =
    c.loop-word.invariant
    ∙ ap (λ (ws : List (List ℕ)). rising c.loop-word.last (order_keys c.has_term-carbon.result (map term_of ws))) c.in-Some.ensures.steps

pub loop-word-init : goal.loop-word-init
unfolding in_order
loop-word-init c =
    ap (λ (carbon : Bool). rising 0 (order_keys carbon (terms_of c.args.s.now))) (sym c.has_term-carbon.ensures)
    ∙ ap (λ (ws : List (List ℕ)). rising 0 (order_keys c.has_term-carbon.result (map term_of ws)))
    (sym (ap words_left c.into_iter-word-iterator.ensures.into_iter_gives ∙ c.cut-word-items.ensures))

pub returns-then-key-last : goal.returns-then-key-last
returns-then-key-last c =
    sym (at-word (goal.at.returns-then-key-last c).In-Some
    ∙ order-next _ _ _ _ _ _ false (sym c.read_term.ensures ∙ c.in-Some-read_term.is) c.key_of-key.ensures (le-ltb _ _ c.if-key-last.true))

pub loop-word-preserved : goal.loop-word-preserved
loop-word-preserved c =
    at-word (goal.at.loop-word-preserved c).In-Some
    ∙ order-next _ _ _ _ _ _ true (sym c.read_term.ensures ∙ c.in-Some-read_term.is) c.key_of-key.ensures (lt-ltb _ _ c.if-key-last.false)

pub returns : goal.returns
unfolding rising
returns c =
    sym (c.loop-word.invariant ∙ ap (λ (ws : List (List ℕ)). rising c.loop-word.last (order_keys c.has_term-carbon.result (map term_of ws))) c.in-None.ensures.steps.0)
