-- A loop over the pairs of an input on lent memory: each turn is one key call.
-- Assumes nothing.
use mathlib.Core.Path.{◌≡◌, refl, ◌∙◌}
use mathlib.Core.Bool.{true, false}
use mathlib.Core.List.{List}
use Prim.Native.Nat.{ℕ, ◌+◌, ◌*◌, ◌≤◌, ◌<◌}
use lib.ListN.{length, get_or}
use Rattle.desk_memory.specs.Memory.{is_desk}
use Rattle.desk_memory.proofs.Desks.{still-desk}
use Rattle.desk_keys.specs.Lent.{leaves, KeyLent}
use Rattle.desk_session.specs.Play.{bench_of}
use Rattle.desk_session.specs.Lent.{held, PlayLent}
use Rattle.desk_session.proofs.Pairs.{Ran, ran-none, ran-next, ran-all}

-- after i pairs t, n and log stand, from t₀, n₀ and log₀
pub record RanLent (input t₀ n₀ log₀ t n log : List ℕ) (i : ℕ) : Type 0 where
  pub desk : is_desk t₀ n₀ ≡ true → Ran input (held t₀ n₀ log₀) (held t n log) i
  pub no_desk : is_desk t₀ n₀ ≡ false → (t ≡ t₀) × (n ≡ n₀) × (log ≡ log₀)

pub lent_none : (input t n log : List ℕ) → RanLent input t n log t n log 0
lent_none input t n log = record { desk = λ d. ran-none input (held t n log); no_desk = λ d. (refl, refl, refl) }

module _ {input t₀ n₀ log₀ t n log : List ℕ} {i : ℕ} (l : length t ≡ length t₀) (m : length n ≡ length n₀) (r : RanLent input t₀ n₀ log₀ t n log i) where
  pub lent-next : {bench a : ℕ} {t' n' log' : List ℕ} → 2 * i + 1 < length input → bench ≡ bench_of (get_or input (2 * i) 0)
      → KeyLent t n log bench (get_or input (2 * i + 1) 0) a t' n' log' → RanLent input t₀ n₀ log₀ t' n' log' (i + 1)
  lent-next {bench} {a} {t'} {n'} {log'} h b k = record {
    desk = λ d. ran-next (leaves a t' n' log') (r.desk d) h b (k.desk (still-desk t₀ n₀ t n l m ∙ d));
    no_desk = λ d.
        let x = k.no_desk (still-desk t₀ n₀ t n l m ∙ d) in
        let y = r.no_desk d in
        (x.1 ∙ y.0, x.2 ∙ y.1, x.3 ∙ y.2);
  }

  pub lent-all : length input ≤ 2 * i + 1 → PlayLent t₀ n₀ log₀ input t n log
  lent-all h = record { desk = λ d. ran-all i (r.desk d) h; no_desk = r.no_desk; same_length = (l, m) }
