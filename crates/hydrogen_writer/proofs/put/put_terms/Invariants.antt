-- `hydrogen_writer::put::put_terms` meets its contract. The loop's invariant: what was put is shown, and the rest of the whole is to come. Assumes nothing.
use mathlib.Core.Path.{◌≡◌}
use mathlib.Core.List.{◌∷◌}
use lib.ListN.{length}
use Rattle.formula_terms.specs.Terms.{cut, words_left}
use Rattle.hydrogen_text.specs.NewText.{spread}
use Rattle.hydrogen_writer.specs.Typed.{typed_most, to_come}
use Rattle.hydrogen_writer.proofs.Shown.{Going}
use Rattle.hydrogen_writer.proofs.put.put_terms.Given as goal

abbrev pub invariant-loop-word : goal.invariant-loop-word
invariant-loop-word l =
    Going l.out l.at (spread (to_come l.carbon l.hydrogens l.wanted (words_left l.word-iterator))) (39 ∷ spread (to_come l.carbon l.hydrogens l.asked (cut l.s))) × (length l.out ≡ typed_most)
