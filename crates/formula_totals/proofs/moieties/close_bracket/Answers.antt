-- `formula_totals::moieties::close_bracket` meets its contract. Assumes nothing.
use Rattle.std.specs.Prelude.{Some}
use native.Mathlib.Omega.{arith}
use Prim.Native.Nat.{ℕ, ◌+◌, ◌-◌, ◌≤◌}
use mathlib.Core.Path.{◌≡◌, sym, ap, subst, ◌∙◌}
use mathlib.Core.Bool.{true}
use mathlib.Core.List.{List}
use lib.ListN.{length, take, drop, length-drop}
use Rattle.text.specs.Run.{run_of, has_at}
use Rattle.text.proofs.Runs.{has_within}
use Rattle.text.proofs.Parts.{rest_part}
use Rattle.formula_terms.specs.Term.{count_of}
use Rattle.formula_moiety.specs.Grammar.{most_times}
use Rattle.formula_moiety.specs.Reading.{in_word, is_times}
use Rattle.formula_totals.specs.Left.{CloseLeft}
use Rattle.formula_words.proofs.Times.{times-read, times-unread}
use Rattle.formula_totals.proofs.WordCases.{close-none, close-no-count, close-takes}
use Rattle.formula_totals.proofs.moieties.close_bracket.Goals as goal
use Rattle.formula_totals.proofs.moieties.close_bracket.Goals.{After-word_run-n, Else-not-has, In_ok-c}

back : (n : ℕ) → 1 + n - 1 ≡ n
back n = omega arith

bracket : (c : Else-not-has) → has_at c.args.s.now 0 41 ≡ true
bracket c = sym c.has.ensures ∙ c.if-not-has.false

some : (c : Else-not-has) → 1 ≤ length c.args.s.now
some c = has_within _ 0 41 (bracket c)

run : (c : After-word_run-n) → c.word_run-n.result ≡ run_of in_word (drop 1 c.args.s.now)
run c = c.word_run-n.ensures.0 ∙ ap (run_of in_word) (rest_part c.args.s.now 1)

within : (c : After-word_run-n) → 1 + c.word_run-n.result ≤ length c.args.s.now
within c =
    let bracket : has_at c.args.s.now 0 41 ≡ true = sym c.has.ensures ∙ c.if-not-has.false in
    let some : 1 ≤ length c.args.s.now = has_within _ 0 41 bracket in
    let s = c.args.s.now in
    let l = ap length (rest_part s 1) in
    let h = some in
    omega (arith, c.word_run-n.ensures.1, length-drop 1 s)

-- the count that was read
abbrev text : In_ok-c → List ℕ
text c = take c.word_run-n.result (drop 1 c.args.s.now)

counted : (c : In_ok-c) → (is_times (text c) ≡ true) × ((count_of (text c) ≡ Some c.in_ok-c.c) × (c.in_ok-c.c ≤ most_times))
counted c = times-read (text c) _ (rw (back c.word_run-n.result) at (sym c.read_times.ensures ∙ c.in_ok-c.was))

pub returns-then-not-has : goal.returns-then-not-has
returns-then-not-has c = close-none _ _ _ _ (sym c.has.ensures ∙ c.if-not-has.true)

pub slice_bounds-word_run-count : goal.slice_bounds-word_run-count
slice_bounds-word_run-count c = (some (goal.at.slice_bounds-word_run-count c).Else-not-has)

pub slice_bounds-word_run-start : goal.slice_bounds-word_run-start
slice_bounds-word_run-start c = (some (goal.at.slice_bounds-word_run-start c).Else-not-has)

pub slice_bounds-read_times-end : goal.slice_bounds-read_times-end
slice_bounds-read_times-end c = (within (goal.at.slice_bounds-read_times-end c).After-word_run-n)

pub returns-in_err-c : goal.returns-in_err-c
returns-in_err-c c = subst (CloseLeft _ _ _ _) (sym c.from_residual.ensures) (close-no-count _ _ _ _ (bracket (goal.at.returns-in_err-c c).Else-not-has) _ (run (goal.at.returns-in_err-c c).After-word_run-n) (times-unread _ (rw (back c.word_run-n.result) at (sym c.read_times.ensures ∙ c.in_err-c.was))))

pub add_times-requires : goal.add_times-requires
add_times-requires c = (omega (arith, (counted (goal.at.add_times-requires c).In_ok-c).1.1), (c.requires.0, c.requires.1))

pub returns : goal.returns
returns c = close-takes _ _ _ _ (bracket (goal.at.returns c).Else-not-has) _ (run (goal.at.returns c).After-word_run-n) _ (counted (goal.at.returns c).In_ok-c).0 (counted (goal.at.returns c).In_ok-c).1.0 c.add_times.ensures
