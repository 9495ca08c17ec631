-- Laws of the file's lines: an empty item has none, a filled one its name, a space, its value and the end byte.
-- Assumes nothing.
use mathlib.Core.Path.{◌≡◌, refl, ap, ◌∙◌}
use mathlib.Core.List.{List, [], ◌∷◌, ◌++◌, append_assoc}
use Prim.Native.Nat.{ℕ, ◌+◌, ◌≤◌}
use native.Mathlib.Omega.{arith}
use borrow.Author.Tests.{eq-eqb, ne_eqb}
use lib.ListN.{length, length-append}
use Rattle.text.specs.Quote.{bytes}
use Rattle.text_copies.specs.Copy.{copied}
use Rattle.text_copies.specs.Each.{lines_from}
use Rattle.text_copies.proofs.Copies.{copied_next}
use Rattle.line_items.specs.Items.{name_of}
use Rattle.desk_state.specs.Sheets.{value_in}
use Rattle.desk_state.specs.declared.sheet.Item.{Item}
use Rattle.desk_state.specs.declared.sheet.Sheet.{Sheet}
use Rattle.file_cif.specs.File.{ended_line, item_text, item_line, file_of}

pub empty-line : (k : ℕ) (i : Item) → i.len ≡ 0 → item_line k i ≡ []
unfolding item_line
empty-line k i e = simp (eq-eqb i.len 0 e)

pub filled-line : (k : ℕ) (i : Item) → (i.len ≡ 0 → ⊥) → item_line k i ≡ ended_line (item_text k (value_in i))
unfolding item_line
filled-line k i n = simp (ne_eqb i.len 0 n)

pub ended-length : (k : ℕ) (v : List ℕ) → length (ended_line (item_text k v)) ≡ length (name_of k) + 1 + length v + 1
ended-length k v = length-append (item_text k v) (10 ∷ []) ∙ ap (λ (n : ℕ). n + 1) (length-append (name_of k) (32 ∷ v)) ∙ omega arith

-- a line copied in four pieces
pub line-copied : (d : List ℕ) (at : ℕ) (k : ℕ) (v : List ℕ) {o₁ o₂ o₃ o₄ : List ℕ} (p₂ p₃ p₄ : ℕ) → o₁ ≡ copied d at (name_of k) → o₂ ≡ copied o₁ p₂ (32 ∷ [])
    → o₃ ≡ copied o₂ p₃ v → o₄ ≡ copied o₃ p₄ (10 ∷ []) → p₂ ≡ at + length (name_of k) → p₃ ≡ p₂ + 1 → p₄ ≡ p₃ + length v
    → at + length (ended_line (item_text k v)) ≤ length d → o₄ ≡ copied d at (ended_line (item_text k v))
line-copied d at k v p₂ p₃ p₄ e₁ e₂ e₃ e₄ h₂ h₃ h₄ room =
    let name = name_of k in
    let all = ended-length k v in
    let l₂ = length-append name (32 ∷ []) in
    let l₃ = length-append (name ++ (32 ∷ [])) v in
    let c₂ = copied_next d at name p₂ (32 ∷ []) e₁ e₂ refl h₂ (omega arith) in
    let c₃ = copied_next d at (name ++ (32 ∷ [])) p₃ v c₂ e₃ refl (omega arith) (omega arith) in
    let c₄ = copied_next d at ((name ++ (32 ∷ [])) ++ v) p₄ (10 ∷ []) c₃ e₄ refl (omega arith) (omega arith) in
    c₄ ∙ ap (λ (t : List ℕ). copied d at (t ++ (10 ∷ []))) (append_assoc name (32 ∷ []) v)

pub file-length : (name : List ℕ) (s : Sheet) → length (file_of name s) ≡ 6 + length name + length (lines_from item_line 1 s.items)
unfolding file_of
file-length name s =
    let lines = lines_from item_line 1 s.items in
    let heading = bytes "data_" in
    let a = length-append (ended_line (heading ++ name)) lines in
    let b = length-append (heading ++ name) (10 ∷ []) in
    let c = length-append heading name in
    let h : length heading ≡ 5 = refl in
    omega arith

-- a file copied in four pieces
pub file-copied : (d name : List ℕ) (s : Sheet) {o₁ o₂ o₃ o₄ : List ℕ} (p₃ p₄ : ℕ) → o₁ ≡ copied d 0 (bytes "data_") → o₂ ≡ copied o₁ 5 name
    → o₃ ≡ copied o₂ p₃ (10 ∷ []) → o₄ ≡ copied o₃ p₄ (lines_from item_line 1 s.items) → p₃ ≡ 5 + length name → p₄ ≡ 6 + length name
    → length (file_of name s) ≤ length d → o₄ ≡ copied d 0 (file_of name s)
unfolding file_of
file-copied d name s p₃ p₄ e₁ e₂ e₃ e₄ h₃ h₄ room =
    let lines = lines_from item_line 1 s.items in
    let heading = bytes "data_" in
    let h : length heading ≡ 5 = refl in
    let all = file-length name s in
    let l₂ = length-append heading name in
    let l₃ = length-append (heading ++ name) (10 ∷ []) in
    let c₂ = copied_next d 0 heading 5 name e₁ e₂ refl (omega arith) (omega arith) in
    let c₃ = copied_next d 0 (heading ++ name) p₃ (10 ∷ []) c₂ e₃ refl (omega arith) (omega arith) in
    copied_next d 0 (ended_line (heading ++ name)) p₄ lines c₃ e₄ refl (omega arith) (omega arith)
