use mathlib.Core.Path.{◌≡◌, sym, ap, subst, ◌∙◌}
use mathlib.Core.Bool.{Bool, false, cond, not}
use mathlib.Core.List.{List, [], ◌∷◌}
use Prim.Native.Nat.{ℕ}
use Rattle.formula_terms.specs.Terms.{cut, words_left}
use Rattle.hydrogen_text.specs.NewText.{spread}
use Rattle.hydrogen_writer.specs.Typed.{spaced, to_come, Puts}
use Rattle.hydrogen_writer.proofs.Shown.{Going, going_end}
use Rattle.hydrogen_writer.proofs.Coming.{coming-end, turn}
use Rattle.hydrogen_writer.proofs.put.put_terms.Goals as goal
use Rattle.hydrogen_writer.proofs.put.put_terms.Goals.{Joined-here, then-here, else-here}

-- hydrogens that were put are no more to come
still : (c : Joined-here) → c.if-here.wanted ≡ cond c.comes_here-here.result false c.loop-word.wanted
still c =
    elim c.if-here.branch [
      | then-here w ↦ w.wanted-is ∙ simp w.if-here.true
      | else-here w ↦ w.wanted-is ∙ simp w.if-here.false
    ]

pub loop-word-init : goal.loop-word-init
loop-word-init c =
    let a = c.args in
    let words = ap words_left c.into_iter-word-iterator.ensures.into_iter_gives ∙ c.cut-word-items.ensures in
    (record { bytes = 39 ∷ []; shows = c.requires.1; then = ap (λ (ws : List (List ℕ)). 39 ∷ spread (to_come a.carbon a.hydrogens.now a.asked ws)) (sym words) }, c.requires.0)

pub put_if-at-requires-in-loop-word : goal.put_if-at-requires-in-loop-word
put_if-at-requires-in-loop-word c = c.put_if-at.auto.out ∙ c.loop-word.invariant.1

pub loop-word-preserved : goal.loop-word-preserved
loop-word-preserved c =
    let a = c.args in
    let w : List ℕ = c.in-Some.word.now in
    let going = subst (λ (ws : List (List ℕ)). Going c.loop-word.out c.loop-word.at (spread (to_come a.carbon a.hydrogens.now c.loop-word.wanted ws)) (39 ∷ spread (to_come a.carbon a.hydrogens.now a.asked (cut a.s.now)))) c.in-Some.ensures.steps c.loop-word.invariant.0 in
    let first = subst (λ (x : Bool). Puts c.loop-word.out c.loop-word.at (spaced x a.hydrogens.now) c.put_if-at.new.out c.put_if-at.result) c.comes_here-here.ensures c.put_if-at.ensures in
    let second = subst (λ (x : Bool). Puts c.put_if-at.new.out c.put_if-at.result (spaced (not x) w) c.put_if-at-in-loop-word.new.out c.put_if-at-in-loop-word.result) c.is_hydrogen.ensures c.put_if-at-in-loop-word.ensures in
    let rest = still (goal.at.loop-word-preserved c).Joined-here ∙ ap (λ (x : Bool). cond x false c.loop-word.wanted) c.comes_here-here.ensures in
    (turn a.carbon a.hydrogens.now w _ c.read_term-term.ensures c.loop-word.wanted _ going first second rest, c.put_if-at-in-loop-word.auto.out ∙ (c.put_if-at.auto.out ∙ c.loop-word.invariant.1))

pub returns : goal.returns
returns c =
    let a = c.args in
    let g = subst (λ (r : List ℕ). Going c.loop-word.out c.loop-word.at r (39 ∷ spread (to_come a.carbon a.hydrogens.now a.asked (cut a.s.now)))) (coming-end a.carbon a.hydrogens.now c.loop-word.wanted _ c.in-None.ensures.steps.0) c.loop-word.invariant.0 in
    going_end (spaced c.loop-word.wanted a.hydrogens.now) g c.put_if.ensures
