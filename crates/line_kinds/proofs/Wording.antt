-- The test of kinds says what document 01's words say.
-- Assumes nothing.
use Rattle.std.specs.Prelude.{ℤ, Option, Some, None}
use mathlib.Core.Path.{◌≡◌, refl, ap, ◌∙◌}
use mathlib.Core.Bool.{Bool, true, false, or-true, false≢true}
use mathlib.Core.Logic.{⊎_elim}
use mathlib.Core.List.{List, [], ◌∷◌}
use Prim.Native.Nat.{ℕ, ◌≤◌}
use native.Mathlib.Omega.{arith}
use borrow.Author.Tests.{le-leb, eqb-true}
use lib.Dec.{eqb}
use lib.ListN.{length, get_or}
use Rattle.text.specs.Quote.{bytes}
use Rattle.text.proofs.Bools.{and_both, or-either}
use Rattle.text_equality.specs.Same.{exact, same_by}
use Rattle.text_equality.proofs.Sames.{same-exact}
use Rattle.number_decimal.specs.Reading.{reading_of, is_found, is_number}
use Rattle.number_decimal.proofs.Agree.{agree}
use Rattle.line_quotes.specs.Quoted.{is_quoted_by, is_quoted, text_of}
use Rattle.line_categories.specs.Categories.{in_class, is_category}
use Rattle.line_categories.specs.declared.Class.TheVariants as class
use Rattle.line_values.specs.Value.{is_unassigned, is_bare, is_value}
use Rattle.line_values.specs.Wording.{ValueText}
use Rattle.line_values.proofs.Values.{value-is, text-inside, bare-text}
use Rattle.line_items.specs.Items.{item_count, is_item, item_row}
use Rattle.line_items.specs.declared.Kind.{Kind}
use Rattle.line_items.specs.declared.Kind.TheVariants as kind
use Rattle.line_kinds.specs.Kinds.{of_kind, passes}
use Rattle.line_kinds.specs.Wording.{Unassigned, NumberText, SixText, CategoryText, OfKind, Passes}

-- ---- unassigned

one_byte : (t : List ℕ) (b : ℕ) → length t ≡ 1 → get_or t 0 0 ≡ b → t ≡ b ∷ []
one_byte [] b l e = absurd (omega arith)
one_byte (x ∷ []) b l e = ap (λ (y : ℕ). y ∷ []) e
one_byte (x ∷ y ∷ t) b l e = absurd (omega arith)

unassigned-is : (v : List ℕ) → is_unassigned v ≡ true → Unassigned v
unfolding is_unassigned
unassigned-is v e =
    let h = and_both (eqb (length v) 1) _ e in
    let one = eqb-true (length v) 1 h.0 in
    ⊎_elim (λ q. Unassigned.question (one_byte v 63 one (eqb-true (get_or v 0 0) 63 q))) (λ p. Unassigned.point (one_byte v 46 one (eqb-true (get_or v 0 0) 46 p)))
    (or-either (eqb (get_or v 0 0) 63) (eqb (get_or v 0 0) 46) h.1)

unassigned-taken : (v : List ℕ) → Unassigned v → is_unassigned v ≡ true
unfolding is_unassigned
unassigned-taken v (Unassigned.question e) = rw e
unassigned-taken v (Unassigned.point e) = rw e

-- ---- a number

number_is : (v : List ℕ) (r : Option ℤ) → r ≡ reading_of v → is_found r ≡ true → NumberText v
number_is v (Some z) e f = record { denoted = z; is_number = agree v (Some z) e }
number_is v None e f = absurd (false≢true f)

number-taken : (v : List ℕ) (r : Option ℤ) → r ≡ reading_of v → NumberText v → is_found r ≡ true
number-taken v (Some z) e h = refl
number-taken v None e h = absurd (agree v None e h.denoted h.is_number)

-- ---- a category

six-is : (t : List ℕ) → is_category t ≡ true → SixText t
unfolding is_category
six-is t e =
    ⊎_elim (λ i. ⊎_elim (λ a. SixText.fi (same-exact t (bytes "FI") a)) (λ a. SixText.ci (same-exact t (bytes "CI") a)) (or-either (same_by exact t (bytes "FI")) _ i))
    (λ m.
    ⊎_elim (λ m. ⊎_elim (λ a. SixText.fm (same-exact t (bytes "FM") a)) (λ a. SixText.cm (same-exact t (bytes "CM") a)) (or-either (same_by exact t (bytes "FM")) _ m))
    (λ o. ⊎_elim (λ a. SixText.fo (same-exact t (bytes "FO") a)) (λ a. SixText.co (same-exact t (bytes "CO") a)) (or-either (same_by exact t (bytes "FO")) _ o))
    (or-either (in_class class.MetalOrganic t) _ m))
    (or-either (in_class class.Inorganic t) _ e)

-- each of the six is taken, and is its own text
six-taken : (t : List ℕ) → SixText t → (is_category t ≡ true) × (text_of t ≡ t)
unfolding is_category same_by text_of is_quoted is_quoted_by
six-taken t (SixText.fi e) = rw e (refl, refl)
six-taken t (SixText.ci e) = rw e (refl, refl)
six-taken t (SixText.fm e) = rw e (refl, refl)
six-taken t (SixText.cm e) = rw e (refl, refl)
six-taken t (SixText.fo e) = rw e (refl, refl)
six-taken t (SixText.co e) = rw e (refl, refl)

value-category : (v : List ℕ) → ValueText v → is_category (text_of v) ≡ true → CategoryText v
value-category v (ValueText.bare b) e = CategoryText.bare (six-is v (rw (bare-text v b) at e))
value-category v (ValueText.quoted inside q) e = CategoryText.quoted inside q (six-is inside (rw (text-inside v inside q) at e))

category-is : (v : List ℕ) (quoted : Bool) → is_quoted v ≡ quoted → is_category (text_of v) ≡ true → CategoryText v
unfolding text_of is_value
category-is v true e c = value-category v (value-is v (rw e (or-true (is_bare v)))) c
category-is v false e c = CategoryText.bare (six-is v (rw e at c))

category-taken : (v : List ℕ) → CategoryText v → is_category (text_of v) ≡ true
category-taken v (CategoryText.bare s) = let h = six-taken v s in ap is_category h.1 ∙ h.0
category-taken v (CategoryText.quoted inside q s) = ap is_category (text-inside v inside q) ∙ (six-taken inside s).0

-- ---- a kind

of-kind-is : (k : Kind) (v : List ℕ) → of_kind k v ≡ true → OfKind k v
unfolding is_number
of-kind-is kind.Text v e = tt
of-kind-is kind.Number v e = number_is v (reading_of v) refl e
of-kind-is kind.Category v e = category-is v (is_quoted v) refl e

of-kind-taken : (k : Kind) (v : List ℕ) → OfKind k v → of_kind k v ≡ true
unfolding is_number
of-kind-taken kind.Text v h = refl
of-kind-taken kind.Number v h = number-taken v (reading_of v) refl h
of-kind-taken kind.Category v h = category-taken v h

-- a value that passes the test passes the kind
pub passes-is : (item : ℕ) (v : List ℕ) → passes item v ≡ true → Passes item v
unfolding passes
passes-is item v e =
    ⊎_elim (λ u. Passes.unassigned (unassigned-is v u)) (λ k. Passes.of_kind (of-kind-is (item_row item).kind v k))
    (or-either (is_unassigned v) _ (and_both (is_item item) _ e).1)

-- a value that passes an item's kind passes the test
pub passes-taken : (item : ℕ) (v : List ℕ) → 1 ≤ item → item ≤ item_count → Passes item v → passes item v ≡ true
unfolding passes
passes-taken item v first last (Passes.unassigned u) = simp (le-leb 1 item first, le-leb item item_count last, unassigned-taken v u)
passes-taken item v first last (Passes.of_kind k) =
    simp (le-leb 1 item first, le-leb item item_count last, of-kind-taken (item_row item).kind v k) (or-true (is_unassigned v))
