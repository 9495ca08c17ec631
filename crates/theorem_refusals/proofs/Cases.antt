-- What a line of typed bytes is, with the reason in document 01's words; and what is so of a line's name and value is so of any name and value that it has.
-- Assumes nothing.
use Rattle.std.specs.Prelude.{Option, Some, None, Result, Err}
use mathlib.Core.Path.{◌≡◌, refl, sym, subst, subst₂, ◌∙◌}
use mathlib.Core.Bool.{Bool, true, false, cond, ◌&&◌, false≢true}
use mathlib.Core.List.{List}
use Prim.Native.Nat.{ℕ}
use lib.Dec.{leb}
use lib.ListN.{length, take, drop}
use Rattle.text.specs.Run.{all}
use Rattle.line_items.specs.Items.{IsName, item_of}
use Rattle.line_items.specs.Typed.{line_most, is_typed}
use Rattle.line_items.proofs.Names.{name-found, unknown-name, never-two}
use Rattle.line_kinds.specs.Kinds.{passes}
use Rattle.line_kinds.specs.Wording.{Passes}
use Rattle.line_kinds.proofs.Wording.{passes-is, passes-taken}
use Rattle.line_reader.specs.Line.{split_of, named_class, split_class, class_of, entry_at}
use Rattle.line_reader.specs.Wording.{IsLine}
use Rattle.line_reader.proofs.Wording.{line-is, one_line, no_line}
use Rattle.line_reader.specs.declared.line.Parts.{Parts}
use Rattle.line_reader.specs.declared.line.LineEntry.{LineEntry}
use Rattle.line_reader.specs.declared.line.NoEntry.{NoEntry}
use Rattle.line_reader.specs.declared.line.NoEntry.TheVariants as no_entry
use Rattle.theorem_refusals.specs.Line.{OfForm, OfItem, BadForm}

module _ {t name value : List ℕ} (line : IsLine t name value) where
  pub form-so : {P : List ℕ → List ℕ → Type 0} → OfForm t P → P name value
  form-so {P} h =
      let e = one_line t h.name h.value name value h.parts line in
      subst₂ P e.0 e.1 h.so

  pub item-so : {item : ℕ} {P : ℕ → List ℕ → Type 0} → IsName name item → OfItem t P → P item value
  item-so {item} {P} named h =
      let e = one_line t h.name h.value name value h.parts line in
      let same : h.item ≡ item = never-two name h.item item (subst (λ (s : List ℕ). IsName s h.item) e.0 h.named) named in
      subst₂ P same e.1 h.so

-- the line t is of a class, and why
pub data LineCase (t : List ℕ) : Result LineEntry NoEntry → Type 0 where
  bad_form : BadForm t → LineCase t (Err no_entry.BadForm)
  no_name : (name value : List ℕ) → IsLine t name value → ((item : ℕ) → IsName name item → ⊥) → LineCase t (Err no_entry.UnknownName)
  no_kind : (name value : List ℕ) (item : ℕ) → IsLine t name value → IsName name item → (Passes item value → ⊥) → LineCase t (Err no_entry.WrongKind)
  entry : (name : List ℕ) (item start : ℕ) → IsLine t name (drop start t) → IsName name item → Passes item (drop start t) → LineCase t (entry_at item start)

module _ (t : List ℕ) where
  module _ (start : ℕ) (name : List ℕ) (parts : IsLine t name (drop start t)) where
    by_kind : (item : ℕ) → IsName name item → (b : Bool) → passes item (drop start t) ≡ b → LineCase t (cond b (entry_at item start) (Err no_entry.WrongKind))
    by_kind item named true e = LineCase.entry name item start parts named (passes-is item (drop start t) e)
    by_kind item named false e =
        LineCase.no_kind name (drop start t) item parts named (λ p. false≢true (sym e ∙ passes-taken item (drop start t) named.first named.last p))

    by_name : (x : Option ℕ) → item_of name ≡ x → LineCase t (named_class t start x)
    by_name None e = LineCase.no_name name (drop start t) parts (unknown-name name e)
    by_name (Some item) e = by_kind item (name-found name item e) (passes item (drop start t)) refl

  by-split : (x : Option Parts) → split_of t ≡ x → LineCase t (split_class t x)
  by-split None e = LineCase.bad_form (no_line t e)
  by-split (Some p) e = by_name p.value_start (take p.name_end t) (line-is t p.name_end p.value_start e) (item_of (take p.name_end t)) refl

  -- a line of at most 200 typed bytes is what its class says
  pub class-case : (leb (length t) line_most && all is_typed t) ≡ true → LineCase t (class_of t)
  unfolding class_of
  class-case fit = rw fit (by-split (split_of t) refl)
