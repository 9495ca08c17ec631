-- The answer of the hydrogen helper (document 02, No. 13), and what the code computes. `theorem_hydrogen` says the answer in the document's words.
-- Assumes nothing.
use Rattle.std.specs.Prelude.{ℕ, zero, suc, ◌+◌, ◌-◌, ◌*◌, ◌/◌, Bool, cond, List, nat_abs, ℤ, Option, Some, None, Result, Ok, Err}
use Rattle.number_decimal.specs.Reading.{reading_of}
use Rattle.line_quotes.specs.Quoted.{text_of}
use Rattle.formula_sum.specs.Sum.{sum_of}
use Rattle.hydrogen_answers.specs.declared.Refusal.{Refusal}
use Rattle.hydrogen_answers.specs.declared.Refusal.TheVariants.{NoStart, NoneRight}
use Rattle.hydrogen_text.specs.Hydrogens.{most_hydrogens}
use Rattle.hydrogen_writer.specs.Typed.{typed_with}
use Rattle.hydrogen_right.specs.Stages.{is_start, is_right}

-- the first of k numbers from i on that passes a test, or none
unfoldable pub first_from : (ℕ → Bool) → ℕ → ℕ → Result ℕ Refusal
first_from p i zero = Err NoneRight
first_from p i (suc k) = cond (p i) (Ok i) (first_from p (suc i) k)

-- "The helper says none exactly if no count is right, and otherwise gives the smallest right one"; "22, start not as said; 23, the helper's, no right count"
unfoldable pub helper_of : List ℕ → List ℕ → Result ℕ Refusal
helper_of f w = cond (is_start f w) (first_from (is_right f w) 0 (most_hydrogens + 1)) (Err NoStart)

abbrev pub weight_or : Option ℕ → ℕ
weight_or (Some x) = x
weight_or None = 0

-- the sum of the text with no hydrogen
unfoldable pub other_weight : List ℕ → ℕ
other_weight s = weight_or (sum_of (text_of (typed_with 0 s)))

abbrev pub size_or : Option ℤ → ℕ
size_or (Some z) = nat_abs z
size_or None = 0

-- the given weight without its sign
unfoldable pub given_weight : List ℕ → ℕ
given_weight w = size_or (reading_of w)

-- the smallest n with 100 * given ≤ 101000 * (base + 1008 * n)
unfoldable pub first_count : ℕ → ℕ → ℕ
first_count base given = (100 * given - 101000 * base + 101807999) / 101808000
