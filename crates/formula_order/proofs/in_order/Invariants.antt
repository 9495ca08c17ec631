-- `formula_order::in_order` meets its contract. The loop's invariant: the order keys passed rise to the last one, so the rest decides. Assumes nothing.
use mathlib.Core.Path.{◌≡◌}
use mathlib.Core.List.{map}
use Rattle.formula_order.specs.Order.{order_keys, rising, in_order}
use Rattle.formula_terms.specs.Term.{term_of}
use Rattle.formula_terms.specs.Terms.{words_left}
use Rattle.formula_order.proofs.in_order.Given as goal

abbrev pub invariant-loop-word : goal.invariant-loop-word
invariant-loop-word l = in_order l.s ≡ rising l.last (order_keys l.carbon (map term_of (words_left l.word-iterator)))
