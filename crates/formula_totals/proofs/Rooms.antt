-- No counter goes above the limit: what a reader took adds at most what its bytes can stand for, so the room that is left is enough for the rest.
-- Assumes nothing.
use Rattle.std.specs.Prelude.{Some}
use Prim.Native.Nat.{ℕ, ◌+◌, ◌-◌, ◌*◌, ◌≤◌}
use mathlib.Core.Path.{◌≡◌, refl, sym, ap, ◌∙◌}
use mathlib.Core.List.{List, ◌++◌}
use native.Mathlib.Omega.{arith}
use native.Mathlib.Nat.{add-mul, mul-le-mul, mul-le-mul_right}
use lib.ListN.{length, get_or, drop, replicate, length-drop, length-append}
use Rattle.formula_elements.specs.Elements.{element_count}
use Rattle.formula_moiety.specs.Grammar.{shown_part, shown, IsPart, IsMoiety}
use Rattle.formula_moiety.specs.Reading.{Got, got, none, part_of, moiety_of}
use Rattle.formula_moiety.specs.Totals.{total_part, total, most}
use Rattle.formula_moiety.proofs.Sound.{Sound, part_sound, moiety-sound}
use Rattle.formula_moiety.proofs.Bounds.{most-up, part-most, moiety-most}
use Rattle.formula_totals.specs.Counters.{limit, AllBelow}
use Rattle.formula_totals.specs.Left.{GotLeft, PartLeft, MoietyLeft, Room}
use Rattle.formula_totals.proofs.Counters.{zero-at}
use Rattle.formula_totals.proofs.Cases.{no_bytes, same_bytes}

-- what was read of a text is as long as was said
read_length : (s text rest : List ℕ) (n : ℕ) → s ≡ text ++ rest → rest ≡ drop n s → n ≤ length s → length text ≡ n
read_length s text rest n e f h =
    let a = ap length e ∙ length-append text rest in
    let b = ap length f ∙ length-drop n s in
    omega arith

module _ {A : Type 0} (Is : A → Type 0) (text : A → List ℕ) (amounts : A → ℕ → ℕ) (w : ℕ) (small : (x : A) → Is x → (k : ℕ) → amounts x k ≤ length (text x) * w) where
  grown-by : (s before after : List ℕ) (n : ℕ) (g : Got A) → Sound Is text s g → GotLeft amounts s before after (Some n) g → (n ≤ length s) × ((k : ℕ) → get_or after k 0 ≤ get_or before k 0 + n * w)
  grown-by s before after n (got x rest) is t =
      let e = same_bytes n t.n t.is in
      let l : length (text x) ≡ n = read_length s (text x) rest t.n is.1 t.follows t.within ∙ sym e in
      (omega (arith, t.within), λ k. let m = rw l at (small x is.0 k) in omega (arith, t.adds k))
  grown-by s before after n none is t = absurd (no_bytes n (sym t))

module _ (s : List ℕ) (d : ℕ) (before after : List ℕ) (n : ℕ) where
  pub part-grown : PartLeft s d before after (Some n) → (n ≤ length s) × ((k : ℕ) → get_or after k 0 ≤ get_or before k 0 + n * most d)
  unfolding PartLeft
  part-grown p =
      let f = 2 * length s + 1 in
      grown-by (IsPart d) shown_part total_part (most d) (λ x is k. part-most is k) s before after n (part_of f d s) (part_sound f d s) (p f (omega arith))

  pub moiety-grown : MoietyLeft s d before after (Some n) → (n ≤ length s) × ((k : ℕ) → get_or after k 0 ≤ get_or before k 0 + n * most d)
  unfolding MoietyLeft
  moiety-grown p =
      let f = 2 * length s + 2 in
      grown-by (IsMoiety d) shown total (most d) (λ x is k. moiety-most is k) s before after n (moiety_of f d s) (moiety-sound f d s) (p f (omega arith))

fits_on : (x n r len w a : ℕ) → x + len * w ≤ limit → n + r ≤ len → a ≤ x + n * w → a + r * w ≤ limit
fits_on x n r len w a h l g =
    let m = mul-le-mul_right w l in
    omega (arith, m, add-mul n r w)

module _ (d : ℕ) (s before : List ℕ) (h : Room d s before) where
  pub room-below : AllBelow before
  room-below = record { long = h.long; below = λ k. omega (arith, h.room k) }

  module _ (after : List ℕ) (n : ℕ) (long : length after ≡ element_count) where
    -- from any place after what was read
    grown-room : (n ≤ length s) × ((k : ℕ) → get_or after k 0 ≤ get_or before k 0 + n * most d) → (i : ℕ) → n ≤ i → Room d (drop i s) after
    grown-room g i l =
        let r = length-drop i s in
        record { long = long; room = λ k. fits_on (get_or before k 0) n (length (drop i s)) (length s) (most d) (get_or after k 0) (h.room k) (omega (arith, g.0)) (g.1 k) }

    pub part_room : PartLeft s d before after (Some n) → Room d (drop (n + 1) s) after
    part_room p = grown-room (part-grown s d before after n p) (n + 1) (omega arith)

    pub moiety-room : MoietyLeft s d before after (Some n) → Room d (drop (n + 2) s) after
    moiety-room p = grown-room (moiety-grown s d before after n p) (n + 2) (omega arith)

    pub moiety-below : MoietyLeft s d before after (Some n) → AllBelow after
    moiety-below p = let r = moiety-room p in record { long = long; below = λ k. omega (arith, r.room k) }

-- the inside of a bracket has room
pub inner_room : (d : ℕ) (s before : List ℕ) → Room d s before → (d ≡ 0 → ⊥) → Room (d - 1) (drop 1 s) (replicate {A = ℕ} element_count 0)
inner_room d s before h n =
    let l : length (drop 1 s) ≤ length s = omega (arith, length-drop 1 s) in
    let m = mul-le-mul l (most-up d n) in
    record { long = refl; room = λ k. omega (arith, zero-at element_count k, m, h.room k) }
