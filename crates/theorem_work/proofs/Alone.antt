-- A machine of which a camp sees only its own calls: its answers, and its view of the end, are those of its own calls alone.
-- Assumes nothing.
use mathlib.Core.Path.{◌≡◌, refl, sym, ap, ap₂, ◌∙◌}
use mathlib.Core.Bool.{Bool, true, false}
use mathlib.Core.List.{List, [], ◌∷◌}
use Prim.Native.Nat.{ℕ}
use Rattle.text.proofs.Bools.{and_both}
use Rattle.theorem_work.specs.Calls.{Call, Reply, answered, final}
use Rattle.theorem_work.specs.Camps.{of_camp, own_calls, answers_of, fitted, none_full}

module _ {S W Rows : Type 0} (step : Call → S → Reply Rows × S) (alone : Call → W → Reply Rows × W) (view : S → W) (camp : ℕ) where
  -- an own call that does not get 8 gets the same answer alone, and leaves the same; another's call leaves the view as it was
  pub record Apart : Type 0 where
    pub answer : (c : Call) (s : S) → of_camp camp c ≡ true → fitted (step c s).0 ≡ true → (alone c (view s)).0 ≡ (step c s).0
    pub state : (c : Call) (s : S) → of_camp camp c ≡ true → fitted (step c s).0 ≡ true → (alone c (view s)).1 ≡ view (step c s).1
    pub other : (c : Call) (s : S) → of_camp camp c ≡ false → view (step c s).1 ≡ view s

  abbrev pub SameAlone : S → List Call → Type 0
  SameAlone s cs = (answers_of camp (answered step s cs) ≡ answered alone (view s) (own_calls camp cs)) × (view (final step s cs) ≡ final alone (view s) (own_calls camp cs))

  -- only the camp's own Enters are asked not to get 8
  pub alone-same : Apart → (cs : List Call) (s : S) → none_full (answers_of camp (answered step s cs)) ≡ true → SameAlone s cs
  alone-same L [] s h = (refl, refl)
  alone-same L (c ∷ cs) s h = go (alone-same L cs (step c s).1) (of_camp camp c) refl
    where
      go : (none_full (answers_of camp (answered step (step c s).1 cs)) ≡ true → SameAlone (step c s).1 cs) → (t : Bool) → of_camp camp c ≡ t → SameAlone s (c ∷ cs)
      go ih true t =
          let k = and_both (fitted (step c s).0) (none_full (answers_of camp (answered step (step c s).1 cs))) (rw t at h) in
          let r = ih k.1 in
          let e = sym (L.state c s t k.0) in
          rw t (
            ap₂ (λ a rest. (c, a) ∷ rest) (sym (L.answer c s t k.0)) (r.0 ∙ ap (λ v. answered alone v (own_calls camp cs)) e),
            r.1 ∙ ap (λ v. final alone v (own_calls camp cs)) e,
          )
      go ih false t =
          let r = ih (rw t at h) in
          let e = L.other c s t in
          rw t (r.0 ∙ ap (λ v. answered alone v (own_calls camp cs)) e, r.1 ∙ ap (λ v. final alone v (own_calls camp cs)) e)
