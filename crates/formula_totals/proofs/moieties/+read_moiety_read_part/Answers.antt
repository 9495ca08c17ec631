use Rattle.std.specs.Prelude.{Option, Some, None}
use native.Mathlib.Omega.{arith}
use Prim.Native.Nat.{ℕ, ◌+◌, ◌-◌, ◌≤◌}
use mathlib.Core.Path.{◌≡◌, sym, ap, subst, ◌∙◌}
use mathlib.Core.Bool.{true}
use mathlib.Core.List.{List}
use lib.ListN.{length, take, drop, replicate, length-drop}
use Rattle.text.specs.Run.{has_at}
use Rattle.text.proofs.Runs.{has_within}
use Rattle.text.proofs.Parts.{rest_part}
use Rattle.formula_totals.specs.Left.{CloseLeft, PartLeft, MoietyLeft, Room}
use Rattle.formula_elements.specs.Elements.{element_count}
use Rattle.formula_totals.proofs.Counters.{zero-at}
use Rattle.formula_totals.proofs.Cases.{shift, part-word, part-deep, part-inner, part-closes, moiety-none, moiety-one, moiety-more}
use Rattle.formula_totals.proofs.Rooms.{part-grown, moiety-grown, room-below, part_room, moiety-below, inner_room}
use Rattle.formula_totals.proofs.moieties.+read_moiety_read_part.Goals as goal

in-text : (s : List ℕ) (n b : ℕ) → has_at s n b ≡ true → n + 1 ≤ length s
in-text s n b h = let l = has_within s n b h in omega arith

-- the moiety, by what its rest was read as
more_left : (s : List ℕ) (d : ℕ) (before after last : List ℕ) (n : ℕ) (x r : Option ℕ) → PartLeft s d before after (Some n) → has_at s n 32 ≡ true
    → MoietyLeft (take (length s - (n + 1)) (drop (n + 1) s)) d after last x → x ≡ r → MoietyLeft s d before last (shift (n + 1) r)
more_left s d before after last n x r p h m e =
    moiety-more s d before after n p last r h
    (subst (λ (y : List ℕ). MoietyLeft y d after last r) (rest_part s (n + 1))
    (subst (MoietyLeft (take (length s - (n + 1)) (drop (n + 1) s)) d after last) e m))

-- what the inside of a bracket was read as
inner-left : (s : List ℕ) (d : ℕ) (last : List ℕ) (x r : Option ℕ) → MoietyLeft (take (length s - 1) (drop 1 s)) (d - 1) (replicate {A = ℕ} element_count 0) last x → x ≡ r
    → MoietyLeft (drop 1 s) (d - 1) (replicate {A = ℕ} element_count 0) last r
inner-left s d last x r m e =
    subst (λ (y : List ℕ). MoietyLeft y (d - 1) (replicate {A = ℕ} element_count 0) last r) (rest_part s 1)
    (subst (MoietyLeft (take (length s - 1) (drop 1 s)) (d - 1) (replicate {A = ℕ} element_count 0) last) e m)

inside : (s : List ℕ) (d : ℕ) (last : List ℕ) (n : ℕ) → has_at s 0 40 ≡ true → MoietyLeft (drop 1 s) (d - 1) (replicate {A = ℕ} element_count 0) last (Some n) → 1 + n ≤ length s
inside s d last n b m =
    let h = has_within s 0 40 b in
    let g = (moiety-grown _ _ _ _ _ m).0 in
    omega (arith, length-drop 1 s)

-- the part, by what the bracket's end was read as
closes-left : (s : List ℕ) (d : ℕ) (before inner last : List ℕ) (n : ℕ) (x r : Option ℕ) → has_at s 0 40 ≡ true → (d ≡ 0 → ⊥)
    → MoietyLeft (drop 1 s) (d - 1) (replicate {A = ℕ} element_count 0) inner (Some n)
    → CloseLeft (take (length s - (1 + n)) (drop (1 + n) s)) inner before last x → x ≡ r → PartLeft s d before last (shift (1 + n) r)
closes-left s d before inner last n x r b o m c e =
    part-closes s d before b o (replicate {A = ℕ} element_count 0) inner last n r (zero-at element_count) m
    (subst (λ (y : List ℕ). CloseLeft y inner before last r) (rest_part s (1 + n))
    (subst (CloseLeft (take (length s - (1 + n)) (drop (1 + n) s)) inner before last) e c))

pub read_moiety-returns-in_err-n : goal.read_moiety-returns-in_err-n
read_moiety-returns-in_err-n t c = rw c.from_residual.ensures (moiety-none _ _ _ c.read_part.new.counts _ (subst (PartLeft _ _ _ _) c.in_err-n.was c.read_part.ensures))

pub read_moiety-returns-then-not-has : goal.read_moiety-returns-then-not-has
read_moiety-returns-then-not-has t c = moiety-one _ _ _ _ _ (subst (PartLeft _ _ _ _) c.in_ok-n.was c.read_part.ensures) (sym c.has.ensures ∙ c.if-not-has.true)

pub read_moiety-overflow_add-n : goal.read_moiety-overflow_add-n
read_moiety-overflow_add-n t c = let l = in-text _ _ _ (sym c.has.ensures ∙ c.if-not-has.false) in omega arith

pub read_moiety-slice_bounds-read_moiety-count : goal.read_moiety-slice_bounds-read_moiety-count
read_moiety-slice_bounds-read_moiety-count t c = in-text _ _ _ (sym c.has.ensures ∙ c.if-not-has.false)

pub read_moiety-slice_bounds-read_moiety-start : goal.read_moiety-slice_bounds-read_moiety-start
read_moiety-slice_bounds-read_moiety-start t c = in-text _ _ _ (sym c.has.ensures ∙ c.if-not-has.false)

pub read_moiety-read_moiety-requires : goal.read_moiety-read_moiety-requires
read_moiety-read_moiety-requires t c =
    let s = c.args.s.now in
    let n = c.in_ok-n.n in
    let after = c.read_part.new.counts in
    let l : n + 1 ≤ length s = in-text _ _ _ (sym c.has.ensures ∙ c.if-not-has.false) in
    let long : length after ≡ element_count = c.read_part.auto.counts ∙ c.requires.long in
    let p : PartLeft s c.args.depth c.args.counts.now after (Some n) = subst (PartLeft s c.args.depth c.args.counts.now after) c.in_ok-n.was c.read_part.ensures in (
      omega (arith, ap length (rest_part s (n + 1)), length-drop (n + 1) s),
      subst (λ (x : List ℕ). Room c.args.depth x after) (sym (rest_part s (n + 1))) (part_room c.args.depth s c.args.counts.now c.requires after n long p),
    )

pub read_moiety-returns-in_err-m : goal.read_moiety-returns-in_err-m
read_moiety-returns-in_err-m t c =
    rw c.from_residual-in_err-m.ensures (
    more_left _ _ _ c.read_part.new.counts _ c.in_ok-n.n _ None (subst (PartLeft _ _ _ _) c.in_ok-n.was c.read_part.ensures) (sym c.has.ensures ∙ c.if-not-has.false)
    c.read_moiety.ensures c.in_err-m.was)

pub read_moiety-overflow_add-result : goal.read_moiety-overflow_add-result
read_moiety-overflow_add-result t c = let l = in-text _ _ _ (sym c.has.ensures ∙ c.if-not-has.false) in omega arith

pub read_moiety-overflow_add-result-2 : goal.read_moiety-overflow_add-result-2
read_moiety-overflow_add-result-2 t c =
    let m = more_left _ _ _ c.read_part.new.counts _ c.in_ok-n.n _ (Some c.in_ok-m.m) (subst (PartLeft _ _ _ _) c.in_ok-n.was c.read_part.ensures) (sym c.has.ensures ∙ c.if-not-has.false) c.read_moiety.ensures c.in_ok-m.was in
    let l = (moiety-grown _ _ _ _ _ m).0 in
    omega arith

pub read_moiety-returns : goal.read_moiety-returns
read_moiety-returns t c =
    more_left _ _ _ c.read_part.new.counts _ c.in_ok-n.n _ (Some c.in_ok-m.m) (subst (PartLeft _ _ _ _) c.in_ok-n.was c.read_part.ensures) (sym c.has.ensures ∙ c.if-not-has.false)
    c.read_moiety.ensures c.in_ok-m.was

pub read_part-returns-then-not-has : goal.read_part-returns-then-not-has
read_part-returns-then-not-has t c = part-word _ _ _ _ _ (sym c.has.ensures ∙ c.if-not-has.true) c.read_word.ensures

pub read_part-returns-then-depth-eq0 : goal.read_part-returns-then-depth-eq0
read_part-returns-then-depth-eq0 t c = part-deep _ _ _ (sym c.has.ensures ∙ c.if-not-has.false) _ c.if-depth-eq0.true

pub read_part-slice_bounds-read_moiety-count : goal.read_part-slice_bounds-read_moiety-count
read_part-slice_bounds-read_moiety-count t c = has_within _ 0 40 (sym c.has.ensures ∙ c.if-not-has.false)

pub read_part-slice_bounds-read_moiety-start : goal.read_part-slice_bounds-read_moiety-start
read_part-slice_bounds-read_moiety-start t c = has_within _ 0 40 (sym c.has.ensures ∙ c.if-not-has.false)

pub read_part-read_moiety-requires : goal.read_part-read_moiety-requires
read_part-read_moiety-requires t c =
    let s = c.args.s.now in
    let h = has_within s 0 40 (sym c.has.ensures ∙ c.if-not-has.false) in (
      omega (arith, ap length (rest_part s 1), length-drop 1 s),
      subst (λ (x : List ℕ). Room (c.args.depth - 1) x (replicate {A = ℕ} element_count 0)) (sym (rest_part s 1)) (inner_room c.args.depth s c.args.counts.now c.requires c.if-depth-eq0.false),
    )

pub read_part-returns-in_err-n : goal.read_part-returns-in_err-n
read_part-returns-in_err-n t c =
    rw c.from_residual.ensures (
    part-inner _ _ _ (sym c.has.ensures ∙ c.if-not-has.false) c.if-depth-eq0.false (replicate {A = ℕ} element_count 0) c.read_moiety.new.counts _
    (inner-left _ _ _ _ None c.read_moiety.ensures c.in_err-n.was))

pub read_part-overflow_add-n : goal.read_part-overflow_add-n
read_part-overflow_add-n t c =
    let l = inside _ c.args.depth c.read_moiety.new.counts _ (sym c.has.ensures ∙ c.if-not-has.false) (inner-left _ _ _ _ (Some c.in_ok-n.n) c.read_moiety.ensures c.in_ok-n.was) in
    omega arith

pub read_part-slice_bounds-close_bracket-count : goal.read_part-slice_bounds-close_bracket-count
read_part-slice_bounds-close_bracket-count t c =
    inside _ c.args.depth c.read_moiety.new.counts _ (sym c.has.ensures ∙ c.if-not-has.false) (inner-left _ _ _ _ (Some c.in_ok-n.n) c.read_moiety.ensures c.in_ok-n.was)

pub read_part-slice_bounds-close_bracket-start : goal.read_part-slice_bounds-close_bracket-start
read_part-slice_bounds-close_bracket-start t c =
    inside _ c.args.depth c.read_moiety.new.counts _ (sym c.has.ensures ∙ c.if-not-has.false) (inner-left _ _ _ _ (Some c.in_ok-n.n) c.read_moiety.ensures c.in_ok-n.was)

pub read_part-close_bracket-requires : goal.read_part-close_bracket-requires
read_part-close_bracket-requires t c =
    let room = inner_room c.args.depth c.args.s.now c.args.counts.now c.requires c.if-depth-eq0.false in
    (moiety-below _ _ _ room c.read_moiety.new.counts c.in_ok-n.n c.read_moiety.auto.counts (inner-left _ _ _ _ _ c.read_moiety.ensures c.in_ok-n.was), room-below _ _ _ c.requires)

pub read_part-returns-in_err-m : goal.read_part-returns-in_err-m
read_part-returns-in_err-m t c =
    rw c.from_residual-in_err-m.ensures (
    closes-left _ _ _ c.read_moiety.new.counts _ c.in_ok-n.n _ None (sym c.has.ensures ∙ c.if-not-has.false) c.if-depth-eq0.false
    (inner-left _ _ _ _ (Some c.in_ok-n.n) c.read_moiety.ensures c.in_ok-n.was) c.close_bracket.ensures c.in_err-m.was)

pub read_part-overflow_add-result : goal.read_part-overflow_add-result
read_part-overflow_add-result t c =
    let l = inside _ c.args.depth c.read_moiety.new.counts _ (sym c.has.ensures ∙ c.if-not-has.false) (inner-left _ _ _ _ (Some c.in_ok-n.n) c.read_moiety.ensures c.in_ok-n.was) in
    omega arith

pub read_part-overflow_add-result-2 : goal.read_part-overflow_add-result-2
read_part-overflow_add-result-2 t c =
    let p = closes-left _ _ _ c.read_moiety.new.counts _ c.in_ok-n.n _ (Some c.in_ok-m.m) (sym c.has.ensures ∙ c.if-not-has.false) c.if-depth-eq0.false
    (inner-left _ _ _ _ (Some c.in_ok-n.n) c.read_moiety.ensures c.in_ok-n.was) c.close_bracket.ensures c.in_ok-m.was in
    let l = (part-grown _ _ _ _ _ p).0 in
    omega arith

pub read_part-returns : goal.read_part-returns
read_part-returns t c =
    closes-left _ _ _ c.read_moiety.new.counts _ c.in_ok-n.n _ (Some c.in_ok-m.m) (sym c.has.ensures ∙ c.if-not-has.false) c.if-depth-eq0.false
    (inner-left _ _ _ _ (Some c.in_ok-n.n) c.read_moiety.ensures c.in_ok-n.was) c.close_bracket.ensures c.in_ok-m.was
