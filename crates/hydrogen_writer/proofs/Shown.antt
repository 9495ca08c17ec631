-- Bytes put one after the other: what fits stands there, and what does not is known not to.
-- Assumes nothing.
use Prim.Native.Nat.{ℕ, ◌+◌, ◌≤◌, ◌<◌}
use mathlib.Core.Path.{◌≡◌, refl, sym, ap, subst, ◌∙◌}
use mathlib.Core.List.{List, [], ◌∷◌, ◌++◌, append_assoc, append-nil}
use native.Mathlib.Omega.{arith}
use lib.ListN.{length, take, drop, length-append}
use lib.Seq.{take_at}
use Rattle.text_copies.specs.Copy.{copied}
use Rattle.text_copies.proofs.Copies.{copied-fits, copied-then, length-copied}
use Rattle.hydrogen_writer.specs.Typed.{Shows, whole, cut_off, Puts}

-- nothing is put
pub put-nothing : (out : List ℕ) (at : ℕ) → Puts out at [] out at
put-nothing out at bytes s = subst (Shows out at) (sym (append-nil bytes)) s

module _ (out : List ℕ) (at : ℕ) where
  -- past the end nothing more fits
  pub put-past : (more : List ℕ) → length out < at → Puts out at more out at
  put-past more l bytes (whole e f t) = absurd (omega arith)
  put-past more l bytes (cut_off a b) = cut_off a (omega (arith, length-append bytes more))

  -- what is too long does not fit
  pub put-long : (more : List ℕ) (r : ℕ) → length out < r → length out < at + length more → Puts out at more out r
  put-long more r k l bytes (whole e f t) = cut_off k (omega (arith, length-append bytes more))
  put-long more r k l bytes (cut_off a b) = cut_off k (omega (arith, length-append bytes more))

  -- what fits is copied
  pub put-fitting : (more after : List ℕ) → at + length more ≤ length out → after ≡ copied out at more → Puts out at more after (at + length more)
  put-fitting more after l c bytes (whole e f t) =
      let first : List ℕ = take at out ++ more in
      let is : after ≡ first ++ drop (at + length more) out = c ∙ copied-fits out at more l ∙ sym (append_assoc (take at out) more (drop (at + length more) out)) in
      let same : first ≡ bytes ++ more = ap (λ (b : List ℕ). b ++ more) t in
      let long : length first ≡ at + length more = ap length same ∙ length-append bytes more ∙ ap (λ (n : ℕ). n + length more) (sym e) in
      let room : length after ≡ length out = ap length c ∙ length-copied out at more in
      whole (sym long ∙ ap length same) (omega arith) (ap (take (at + length more)) is ∙ take_at first (drop (at + length more) out) (at + length more) long ∙ same)
  put-fitting more after l c bytes (cut_off a b) = absurd (omega arith)

  -- a term and a space, copied one after the other
  pub put-term : (w mid after : List ℕ) → at + length w + 1 ≤ length out → mid ≡ copied out at w → after ≡ copied mid (at + length w) (32 ∷ [])
      → Puts out at (w ++ (32 ∷ [])) after (at + length w + 1)
  put-term w mid after l c d =
      let long : at + length (w ++ (32 ∷ [])) ≡ at + length w + 1 = omega (arith, length-append w (32 ∷ [])) in
      let is : after ≡ copied out at (w ++ (32 ∷ []))
      = d ∙ ap (λ (o : List ℕ). copied o (at + length w) (32 ∷ [])) c ∙ copied-then out at (at + length w) w (32 ∷ []) refl l in
      subst (Puts out at (w ++ (32 ∷ [])) after) long (put-fitting (w ++ (32 ∷ [])) after (omega arith) is)

-- some bytes are shown, and the rest of the whole is to come
pub record Going (out : List ℕ) (at : ℕ) (rest all : List ℕ) : Type 0 where
  pub bytes : List ℕ
  pub shows : Shows out at bytes
  pub then : all ≡ bytes ++ rest

pub going_on : {out : List ℕ} {at : ℕ} {all after : List ℕ} {r : ℕ} (more rest : List ℕ) → Going out at (more ++ rest) all → Puts out at more after r → Going after r rest all
going_on more rest g p = record { bytes = g.bytes ++ more; shows = p g.bytes g.shows; then = g.then ∙ sym (append_assoc g.bytes more rest) }

pub going_end : {out : List ℕ} {at : ℕ} {all after : List ℕ} {r : ℕ} (more : List ℕ) → Going out at more all → Puts out at more after r → Shows after r all
going_end {out} {at} {all} {after} {r} more g p = subst (Shows after r) (sym g.then) (p g.bytes g.shows)
