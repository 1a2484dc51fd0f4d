-- Lent polynomials that passed their range test. Assumes nothing.
use mathlib.Core.Path.{◌≡◌, sym, ap, ◌∙◌}
use mathlib.Core.Bool.{Bool, true}
use Prim.Native.Nat.{ℕ, ◌+◌, ◌*◌, ◌/◌, ◌^◌, ◌≤◌, ◌<◌}
use native.Mathlib.Nat.{zero-add}
use native.Mathlib.Omega.{arith}
use lib.ListN.{length, take, drop}
use Rattle.codec.specs.Bytes.{Bytes, part}
use Rattle.codec.proofs.Laws.{length_part}
use Rattle.codec.specs.Lists.{list, all_below}
use Rattle.modular.proofs.Congruence.{same_eq}
use Rattle.ring.specs.Poly.{Alike}
use Rattle.ring.specs.Slots.{poly, slot}
use Rattle.ring.proofs.Bridge.{poly_part, slot_later, slot_poly}
use Rattle.ring.proofs.Ranges.{below_sound}
use Rattle.scratch.specs.Internal.{Polynomial}

-- 8n bytes are n coefficients
eighth : (n l : ℕ) → l ≡ 8 * n → n ≡ l / 8
eighth n l e = omega arith

pub whole_range : (q n : ℕ) (s : Bytes) {b : Bool} → length s ≡ 8 * n → b ≡ all_below q (list (length s / 8) (poly s)) → b ≡ all_below q (list n (poly s))
whole_range q n s l e = e ∙ ap (λ (k : ℕ). all_below q (list k (poly s))) (sym (eighth n (length s) l))

module _ (n q : ℕ) (low : 4 ≤ n) (high : n ≤ 2048) (some : 3 ≤ q) (few : q < 2 ^ 56) (s : Bytes) where
  pub ranged : length s ≡ 8 * n → all_below q (list n (poly s)) ≡ true → Polynomial n q s
  ranged l e = record { ring_low = low; ring_high = high; modulus_low = some; modulus_high = few; sized = l; below = below_sound q n (poly s) e }

  -- one of the two polynomials of 16n bytes: the first from 0 on, the second from 8n
  module _ (l : length s ≡ 16 * n) (e : all_below q (list (2 * n) (poly s)) ≡ true) (m from long : ℕ) (place : from ≡ 8 * m) (h : m + n ≤ 2 * n) (g : long ≡ 8 * n) where
    ends : from + 8 * n ≤ length s
    ends = omega arith

    halved : take long (drop from s) ≡ part s from (8 * n)
    halved = ap (λ (k : ℕ). take k (drop from s)) g

    half_reads : (k : ℕ) → k < n → poly (take long (drop from s)) k ≡ slot s from k
    half_reads k j = ap (λ (t : Bytes). poly t k) halved ∙ poly_part s from n k j

    pub half_alike : Alike q n (poly (take long (drop from s))) (slot s from)
    half_alike = record { at = λ k j. same_eq (half_reads k j) }

    pub half_public : Polynomial n q (take long (drop from s))
    half_public = record {
      ring_low = low;
      ring_high = high;
      modulus_low = some;
      modulus_high = few;
      sized = ap length halved ∙ length_part s from (8 * n) ends;
      below = record { at = λ k j. rw (half_reads k j ∙ ap (λ (x : ℕ). slot s x k) (place ∙ sym (zero-add (8 * m))) ∙ slot_later s 0 m k ∙ slot_poly s (m + k)) ((below_sound q (2 * n) (poly s) e).at (m + k) (omega arith)) };
    }
