-- Laws of lists: a map after a store, and an element of a map.
-- Assumes nothing.
use mathlib.Core.Path.{◌≡◌, refl, ap}
use mathlib.Core.List.{List, [], ◌∷◌, map}
use Prim.Native.Nat.{ℕ, zero, suc, ◌<◌}
use native.Mathlib.Nat.{not-suc-le-zero, le_of_suc-le-suc}
use lib.ListN.{length, get_or, set}

pub map-set : {A B : Type 0} (f : A → B) (s : List A) (i : ℕ) (x : A) → set (map f s) i (f x) ≡ map f (set s i x)
map-set f [] i x = refl
map-set f (y ∷ s) zero x = refl
map-set f (y ∷ s) (suc i) x = ap (λ (r : List _). f y ∷ r) (map-set f s i x)

pub get_d_map : {A B : Type 0} (f : A → B) (s : List A) (i : ℕ) (d : A) (e : B) → i < length s → get_or (map f s) i e ≡ f (get_or s i d)
get_d_map f [] i d e h = absurd (not-suc-le-zero h)
get_d_map f (y ∷ s) zero d e h = refl
get_d_map f (y ∷ s) (suc i) d e h = get_d_map f s i d e (le_of_suc-le-suc h)
