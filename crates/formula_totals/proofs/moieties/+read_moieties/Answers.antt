use Rattle.std.specs.Prelude.{Some}
use native.Mathlib.Omega.{arith}
use Prim.Native.Nat.{ℕ, ◌+◌, ◌≤◌}
use mathlib.Core.Path.{◌≡◌, sym, ap, subst, ◌∙◌}
use mathlib.Core.Bool.{true}
use mathlib.Core.List.{List}
use lib.ListN.{length, length-drop}
use Rattle.formula_elements.specs.Elements.{element_count}
use Rattle.text.specs.Run.{has_at}
use Rattle.text.proofs.Runs.{has_within}
use Rattle.text.proofs.Parts.{rest_part}
use Rattle.formula_moiety.specs.Grammar.{most_deep}
use Rattle.formula_totals.specs.Left.{MoietyLeft, Room, WholeLeft}
use Rattle.formula_totals.proofs.Cases.{whole-none, whole-end, whole-no-comma, whole-no-space, whole-more}
use Rattle.formula_totals.proofs.Rooms.{moiety-room}
use Rattle.formula_totals.proofs.moieties.+read_moieties.Goals as goal

in-text : (s : List ℕ) (n : ℕ) → has_at s (n + 1) 32 ≡ true → n + 2 ≤ length s
in-text s n h = let l = has_within s (n + 1) 32 h in omega arith

pub returns-in_err-n : goal.returns-in_err-n
returns-in_err-n t c = rw c.from_residual.ensures (whole-none _ _ _ (subst (MoietyLeft _ _ _ _) c.in_err-n.was c.read_moiety.ensures))

pub returns-then-n-s : goal.returns-then-n-s
returns-then-n-s t c = whole-end _ _ _ _ (subst (MoietyLeft _ _ _ _) c.in_ok-n.was c.read_moiety.ensures) c.if-n-s.true

pub returns-then-not-has : goal.returns-then-not-has
returns-then-not-has t c =
    whole-no-comma _ _ _ _ (subst (MoietyLeft _ _ _ _) c.in_ok-n.was c.read_moiety.ensures) c.if-n-s.false (sym c.has.ensures ∙ c.if-not-has.true)

pub overflow_add-n : goal.overflow_add-n
overflow_add-n t c = let h = has_within _ c.in_ok-n.n 44 (sym c.has.ensures ∙ c.if-not-has.false) in omega arith

pub returns-then-not-has-2 : goal.returns-then-not-has-2
returns-then-not-has-2 t c =
    whole-no-space _ _ _ _ (subst (MoietyLeft _ _ _ _) c.in_ok-n.was c.read_moiety.ensures) c.if-n-s.false (sym c.has.ensures ∙ c.if-not-has.false)
    (sym c.has-2.ensures ∙ c.if-not-has-2.true)

pub overflow_add-n-2 : goal.overflow_add-n-2
overflow_add-n-2 t c = let l = in-text _ c.in_ok-n.n (sym c.has-2.ensures ∙ c.if-not-has-2.false) in omega arith

pub slice_bounds-read_moieties-count : goal.slice_bounds-read_moieties-count
slice_bounds-read_moieties-count t c = in-text _ c.in_ok-n.n (sym c.has-2.ensures ∙ c.if-not-has-2.false)

pub slice_bounds-read_moieties-start : goal.slice_bounds-read_moieties-start
slice_bounds-read_moieties-start t c = in-text _ c.in_ok-n.n (sym c.has-2.ensures ∙ c.if-not-has-2.false)

pub read_moieties-requires : goal.read_moieties-requires
read_moieties-requires t c =
    let s = c.args.s.now in
    let n = c.in_ok-n.n in
    let after = c.read_moiety.new.counts in
    let l : n + 2 ≤ length s = in-text s n (sym c.has-2.ensures ∙ c.if-not-has-2.false) in
    let long : length after ≡ element_count = c.read_moiety.auto.counts ∙ c.requires.long in
    let p : MoietyLeft s most_deep c.args.counts.now after (Some n) = subst (MoietyLeft s most_deep c.args.counts.now after) c.in_ok-n.was c.read_moiety.ensures in (
      omega (arith, ap length (rest_part s (n + 2)), length-drop (n + 2) s),
      subst (λ (x : List ℕ). Room most_deep x after) (sym (rest_part s (n + 2))) (moiety-room most_deep s c.args.counts.now c.requires after n long p),
    )

pub returns : goal.returns
returns t c =
    whole-more _ _ c.read_moiety.new.counts c.in_ok-n.n (subst (MoietyLeft _ _ _ _) c.in_ok-n.was c.read_moiety.ensures) c.if-n-s.false (sym c.has.ensures ∙ c.if-not-has.false) _ _
    (sym c.has-2.ensures ∙ c.if-not-has-2.false)
    (subst (λ (x : List ℕ). WholeLeft x c.read_moiety.new.counts c.read_moieties.new.counts c.read_moieties.result) (rest_part c.args.s.now (c.in_ok-n.n + 2)) c.read_moieties.ensures)
