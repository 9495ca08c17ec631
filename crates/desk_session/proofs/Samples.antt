-- The benches of first bytes at and beside the digits of benches.
-- Assumes nothing.
use mathlib.Core.Path.{◌≡◌, refl}
use mathlib.Core.List.{[], ◌∷◌}
use Rattle.text.specs.Run.{between}
use Rattle.desk_session.specs.Play.{bench_of}

pub benches : bench_of 47 ∷ bench_of 48 ∷ bench_of 51 ∷ bench_of 52 ∷ [] ≡ 255 ∷ 0 ∷ 3 ∷ 255 ∷ []
unfolding bench_of between
benches = refl
