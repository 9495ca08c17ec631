-- A machine that follows another one, call by call, follows it over every sequence.
-- Assumes nothing.
use mathlib.Core.Path.{◌≡◌, refl, ap, ◌∙◌}
use mathlib.Core.List.{List, [], ◌∷◌}
use Rattle.theorem_work.specs.Calls.{Call, answered, final}

module _ {S W A : Type 0} (step : Call → S → A × S) (model : Call → W → A × W) (view : W → S) (J : W → Type 0) where
  pub record Follows : Type 0 where
    pub keep : (c : Call) (w : W) → J w → J (model c w).1
    pub answer : (c : Call) (w : W) → J w → (step c (view w)).0 ≡ (model c w).0
    pub state : (c : Call) (w : W) → J w → (step c (view w)).1 ≡ view (model c w).1

  pub record Followed (w : W) (cs : List Call) : Type 0 where
    pub answers : answered step (view w) cs ≡ answered model w cs
    pub end : final step (view w) cs ≡ view (final model w cs)
    pub kept : J (final model w cs)

  pub followed : Follows → (cs : List Call) (w : W) → J w → Followed w cs
  followed F [] w h = record { answers = refl; end = refl; kept = h }
  followed F (c ∷ cs) w h =
      let r = followed F cs (model c w).1 (F.keep c w h) in
      record {
        answers = rw (F.answer c w h, F.state c w h, r.answers);
        end = ap (λ s. final step s cs) (F.state c w h) ∙ r.end;
        kept = r.kept;
      }
