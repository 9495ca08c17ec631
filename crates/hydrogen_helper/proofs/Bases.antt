-- The two weights that the closed form starts from: of the other terms, and as it was given.
-- Assumes nothing.
use Rattle.std.specs.Prelude.{Some, None}
use Prim.Native.Nat.{ℕ, ◌+◌, ◌*◌, ◌^◌, ◌≤◌, ◌<◌}
use mathlib.Core.Path.{◌≡◌, refl, sym, ap, ◌∙◌}
use mathlib.Core.Bool.{true}
use mathlib.Core.List.{List, [], ◌∷◌, map}
use native.Mathlib.Omega.{arith}
use borrow.Author.Tests.{le-leb}
use lib.IntN.{ℤ, pos, negsuc, nat_abs}
use lib.Signed.{mag}
use lib.ListN.{length}
use Rattle.text.specs.Run.{all, kind_at}
use Rattle.line_quotes.specs.Quoted.{text_of}
use Rattle.formula_terms.specs.Term.{term_of}
use Rattle.formula_terms.specs.Terms.{cut}
use Rattle.formula_terms.specs.Grammar.{joined}
use Rattle.formula_sum.specs.Recognised.{all_recognised}
use Rattle.formula_sum.specs.Sum.{total_weight, sum_of}
use Rattle.formula_order.specs.Order.{in_order}
use Rattle.hydrogen_text.specs.Hydrogens.{most_text_bytes, other_words, in_quotes}
use Rattle.hydrogen_text.specs.NewText.{with_hydrogens, new_words, new_text}
use Rattle.hydrogen_text.proofs.Words.{some_words}
use Rattle.hydrogen_text.proofs.Rows.{new-rows}
use Rattle.hydrogen_writer.specs.Typed.{typed_with}
use Rattle.hydrogen_right.specs.Right.{Start}
use Rattle.hydrogen_right.proofs.Typed.{Plain, typed-text, known-plain}
use Rattle.hydrogen_right.proofs.Starts.{start-known, start-order, Summed, start-sum}
use Rattle.hydrogen_right.proofs.Closed.{Base, Given, short-sum}
use Rattle.hydrogen_helper.specs.Helper.{weight_or, other_weight, size_or, given_weight}

-- the given weight
pub given_is : (w : List ℕ) → Given w (given_weight w)
unfolding given_weight
given_is w z e = sym (ap size_or e)

-- the absolute value of a small number is small
pub size_small : (z : ℤ) → mag z < 10 ^ 15 → nat_abs z < 10 ^ 16
size_small (pos n) h = omega arith
size_small (negsuc n) h = omega arith

plain : Plain []
unfolding all
plain = refl

-- the empty text has no sum
empty-sum : sum_of [] ≡ None
unfolding sum_of total_weight cut term_of kind_at
empty-sum = refl

module _ (s : List ℕ) (short : length (new_text 0 s) ≤ most_text_bytes) where
  typed-short : typed_with 0 s ≡ in_quotes (new_text 0 s)
  unfolding typed_with
  typed-short = rw (le-leb (length (new_text 0 s)) most_text_bytes short)

  -- with no other terms there is nothing
  no-others : other_words (cut s) ≡ [] → other_weight s ≡ 0
  unfolding other_weight new_text with_hydrogens joined
  no-others e =
      let empty : new_text 0 s ≡ [] = ap joined e in
      ap (λ (t : List ℕ). weight_or (sum_of (text_of t))) (typed-short ∙ ap in_quotes empty) ∙ ap (λ (t : List ℕ). weight_or (sum_of t)) (typed-text [] plain) ∙ ap weight_or empty-sum

  -- with others it is the sum of the text without hydrogen
  some-others : (b : ℕ) → all_recognised s ≡ true → in_order s ≡ true → total_weight (map term_of (other_words (cut s))) ≡ Some b → (new_words 0 s ≡ [] → ⊥) → other_weight s ≡ b
  unfolding other_weight
  some-others b known order sum left =
      let rows = new-rows s b 0 (omega arith) left known order sum in
      let same : b + 1008 * 0 ≡ b = omega arith in
      ap (λ (t : List ℕ). weight_or (sum_of (text_of t))) typed-short
      ∙ ap (λ (t : List ℕ). weight_or (sum_of t)) (typed-text (new_text 0 s) (known-plain (new_text 0 s) rows.row_1))
      ∙ ap weight_or (short-sum (new_text 0 s) (b + 1008 * 0) short rows.sum)
      ∙ same

-- the sum of the other terms of the start
pub base-is : (f w : List ℕ) → Start f w → Base (text_of f) (other_weight (text_of f))
unfolding with_hydrogens total_weight
base-is f w start short =
    let k = start-sum f w start in
    k.is ∙ ap Some (go k (other_words (cut (text_of f))) refl)
  where
    nothing : (b : ℕ) → Some 0 ≡ Some b → b ≡ 0
    nothing b e = cc

    go : (k : Summed (other_words (cut (text_of f)))) (ws : List (List ℕ)) → other_words (cut (text_of f)) ≡ ws → k.sum ≡ other_weight (text_of f)
    go k [] e = nothing k.sum (sym (ap (λ (ws : List (List ℕ)). total_weight (map term_of ws)) e) ∙ k.is) ∙ sym (no-others (text_of f) short e)
    go k (v ∷ vs) e = sym (some-others (text_of f) short k.sum (start-known f w start) (start-order f w start) k.is (λ q. some_words (sym e ∙ q)))
