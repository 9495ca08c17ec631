-- A line has the number of its table.
-- Assumes nothing.
use Rattle.std.specs.Prelude.{Result}
use mathlib.Core.Path.{◌≡◌, refl, sym, ◌∙◌}
use mathlib.Core.Bool.{Bool, true, false, ◌&&◌, false≢true}
use mathlib.Core.List.{List}
use Prim.Native.Nat.{ℕ, ◌≤◌}
use native.Mathlib.Omega.{arith}
use borrow.Author.Tests.{leb-true, leb-false}
use lib.Dec.{leb}
use lib.ListN.{length}
use Rattle.text.specs.Run.{all}
use Rattle.line_items.specs.Items.{IsName}
use Rattle.line_items.specs.Typed.{line_most, is_typed}
use Rattle.line_reader.specs.Line.{class_of, class_number}
use Rattle.line_reader.specs.Wording.{IsLine}
use Rattle.line_reader.specs.declared.line.LineEntry.{LineEntry}
use Rattle.line_reader.specs.declared.line.NoEntry.{NoEntry}
use Rattle.theorem_refusals.specs.Table.{Answers}
use Rattle.theorem_refusals.specs.Line.{BadLine, long, outside, bad_form, line_table}
use Rattle.theorem_refusals.proofs.Firsts.{First, this, next, answers}
use Rattle.theorem_refusals.proofs.Cases.{form-so, item-so, LineCase, class-case}

module _ (t : List ℕ) where
  module _ (short : length t ≤ line_most) (typed : all is_typed t ≡ true) where
    of-form : {name value : List ℕ} → IsLine t name value → BadLine t → ⊥
    of-form parts (long l) = omega arith
    of-form parts (outside n) = n typed
    of-form {name} {value} parts (bad_form n) = n name value parts

    by-case : {c : Result LineEntry NoEntry} → LineCase t c → First (line_table t) (class_number c)
    by-case (LineCase.bad_form n) = this (bad_form n) refl
    by-case (LineCase.no_name name value parts none) = next (of-form parts) (this (record { name = name; value = value; parts = parts; so = none }) refl)
    by-case (LineCase.no_kind name value item parts named wrong) =
        next (of-form parts) (next (λ h. form-so parts {P = λ name value. (item : ℕ) → IsName name item → ⊥} h item named)
        (this (record { name = name; value = value; item = item; parts = parts; named = named; so = wrong }) refl))
    by-case (LineCase.entry name item start parts named passes) =
        next (of-form parts) (next (λ h. form-so parts {P = λ name value. (item : ℕ) → IsName name item → ⊥} h item named)
        (next (λ h. item-so parts named h passes) refl))

  refused : (leb (length t) line_most && all is_typed t) ≡ false → BadLine t → First (line_table t) (class_number (class_of t))
  unfolding class_of
  refused e bad = rw e (this bad refl)

  by-fit : (p q : Bool) → leb (length t) line_most ≡ p → all is_typed t ≡ q → First (line_table t) (class_number (class_of t))
  by-fit true true e f = by-case (leb-true (length t) line_most e) f (class-case t (simp (e, f)))
  by-fit true false e f = refused (simp (e, f)) (outside (λ h. false≢true (sym f ∙ h)))
  by-fit false q e f = refused (simp e) (long (leb-false (length t) line_most e))

  -- "the number 0, 5, 6 or 7 for one line"
  pub line-table : Answers (line_table t) (class_number (class_of t))
  line-table = answers (line_table t) (class_number (class_of t)) refl (by-fit (leb (length t) line_most) (all is_typed t) refl refl)
