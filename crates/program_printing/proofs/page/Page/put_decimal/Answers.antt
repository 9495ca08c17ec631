use native.Mathlib.Omega.{arith}
use mathlib.Core.Path.{◌≡◌, refl, sym, ap, subst, ◌∙◌}
use mathlib.Core.List.{List, ◌++◌, append-nil}
use Prim.Native.Nat.{ℕ, suc, ◌≤◌, ◌<◌, ◌-◌, ◌%◌}
use lib.ListN.{length, take, drop, set, length-set, length-drop, length-take}
use lib.Seq.{take_all}
use Rattle.program_printing.specs.Page.{decimal_most, Adds}
use Rattle.program_printing.specs.declared.page.Page.{Page}
use Rattle.number_decimal.specs.Digits.{digit, last_digits}
use Rattle.program_printing.specs.Print.{decimal_text}
use Rattle.program_printing.proofs.Pages.{adds-as}
use Rattle.program_printing.proofs.Digits.{first-digit, later-digit}
use Rattle.program_printing.proofs.page.Page.put_decimal.Goals as goal

-- what is lent of the digits from i on
lent : (ds : List ℕ) (i : ℕ) → length ds ≡ decimal_most → take (decimal_most - i) (drop i ds) ≡ drop i ds
lent ds i h = take_all (decimal_most - i) (drop i ds) (simp length-drop (omega arith))

-- the page is as it was when the loop began
from-start : {p q r : Page} {t : List ℕ} → p ≡ q → Adds p t r → Adds q t r
from-start {p} {q} {r} {t} e h = subst (λ (x : Page). Adds x t r) e h

pub loop-i-init : goal.loop-i-init
loop-i-init c = (refl, omega arith, sym (append-nil (decimal_text c.args.n)))

pub slice_bounds-put-end : goal.slice_bounds-put-end
slice_bounds-put-end c = simp length-set (omega arith)

pub put-requires : goal.put-requires
put-requires c = simp (length-take, length-drop, length-set) (omega (arith, ap (λ (p : Page). p.len) c.loop-i.invariant.0))

pub returns-then-rest-lt10 : goal.returns-then-rest-lt10
returns-then-rest-lt10 c =
    let l = c.loop-i in
    let j = l.i - 1 in
    let ds = set l.digits j (digit (l.rest % 10)) in
    let one : l.i ≡ suc j = omega arith in
    let long : length ds ≡ decimal_most = simp length-set (omega arith) in
    let here : j < length l.digits = omega arith in
    let all = l.invariant.2 ∙ ap (λ (k : ℕ). last_digits k l.rest ++ drop k l.digits) one ∙ first-digit l.digits j l.rest here (omega arith) in
    let few : length (drop j ds) ≤ decimal_most = simp length-drop (omega arith) in
    let tail = adds-as (lent ds j long) c.put.ensures in
    (from-start l.invariant.0 (adds-as (sym all) tail), omega (arith, tail.size, few, ap (λ (p : Page). p.len) l.invariant.0))

pub loop-i-preserved : goal.loop-i-preserved
loop-i-preserved c =
    let l = c.loop-i in
    let j = l.i - 1 in
    let one : l.i ≡ suc j = omega arith in
    let here : j < length l.digits = omega arith in (
      l.invariant.0,
      simp length-set (omega arith),
      l.invariant.2 ∙ ap (λ (k : ℕ). last_digits k l.rest ++ drop k l.digits) one ∙ later-digit l.digits j l.rest here (omega arith),
    )

pub returns : goal.returns
unfolding last_digits
returns c =
    let l = c.loop-i in
    let none : l.i ≡ 0 = omega arith in
    let text = adds-as (sym (l.invariant.2 ∙ ap (λ (k : ℕ). last_digits k l.rest ++ drop k l.digits) none)) c.put-2.ensures in
    (from-start l.invariant.0 text, omega (arith, c.put-2.ensures.size, ap (λ (p : Page). p.len) l.invariant.0))
