-- What is known of the lent slices where a call is taken: that its tests were passed. Assumes nothing.
use mathlib.Core.Path.{◌≡◌, sym, ◌∙◌}
use mathlib.Core.Bool.{true, ◌&&◌}
use mathlib.Core.List.{List, [], ◌∷◌}
use Prim.Native.Nat.{ℕ, ◌*◌, ◌^◌, ◌≤◌, ◌<◌}
use native.Mathlib.Omega.{arith}
use lib.ListN.{length}
use Rattle.codec.specs.Bytes.{Bytes}
use Rattle.codec.specs.Reply.{first, Taken}
use Rattle.codec.proofs.Laws.{both}
use Rattle.codec.specs.Lists.{list, all_below}
use Rattle.codec.proofs.Lists.{all_below_sound}
use Rattle.ring.specs.Poly.{Poly, plus, Below}
use Rattle.ring.specs.Slots.{poly, slot}
use Rattle.ring.proofs.Polynomials.{alike_refl, alike_plus}
use Rattle.sheet_numbers.specs.Plain.{plain}
use Rattle.sheet_numbers.specs.declared.Numbers.{Numbers}
use Rattle.scratch.specs.Call.{bytes_below, coefficients_below, coefficients}
use Rattle.scratch.specs.Internal.{InSlot}
use Rattle.scratch.proofs.Order.{length_at, passed}
use Rattle.scratch.proofs.Slots.{holds_alike, stands_holds, stands_alike}
use Rattle.scheme.specs.Calls.{encrypt_tests, decrypt_tests}

-- a message has coefficients below q
below_message : (p q n : ℕ) (m : Bytes) → p ≤ q → length m ≡ n → all_below p m ≡ true → Below q n (coefficients m)
below_message p q n m h l e = record { at = λ k j. omega (arith, all_below_sound p m e k (omega arith)) }

-- a polynomial added to what stands at the head of scratch
pub added : {q n : ℕ} {f : Poly} (g : Poly) {w w1 w2 : Bytes} → 0 < q → q < 2 ^ 56 → InSlot q n f w w1 → InSlot q n (plus (slot w1 0) g) w1 w2 → InSlot q n (plus f g) w w2
added g some few x y =
    let s = stands_alike y (alike_plus (holds_alike (stands_holds some few x)) alike_refl) in
    record { sized = s.sized ∙ x.sized; bytes = s.bytes }

module _ (k : Numbers) where
  abbrev n : ℕ
  n = k.ring

  pub encrypt_passed : (r e1 e2 m c w : Bytes) → plain k < k.modulus → Taken ≡ first (encrypt_tests k r e1 e2 m c w)
      → (length r ≡ n) × (length e1 ≡ n) × (length e2 ≡ n) × (length m ≡ n) × Below k.modulus n (coefficients m) × (length c ≡ 16 * n) × (length w ≡ 1048576)
  encrypt_passed r e1 e2 m c w some i =
      let xs : List ℕ = length r ∷ length e1 ∷ length e2 ∷ length m ∷ length c ∷ length w ∷ [] in
      let ys : List ℕ = n ∷ n ∷ n ∷ n ∷ 16 * n ∷ 1048576 ∷ [] in
      let h = passed xs ys (bytes_below 3 (r ∷ e1 ∷ e2 ∷ []) && bytes_below (plain k) (m ∷ [])) [] (sym i) in
      let l = h.0 in
      let m' = (both (all_below (plain k) m) true (both (bytes_below 3 (r ∷ e1 ∷ e2 ∷ [])) (bytes_below (plain k) (m ∷ [])) h.1).1).0 in
      (length_at xs ys 0 l, length_at xs ys 1 l, length_at xs ys 2 l, length_at xs ys 3 l, below_message (plain k) k.modulus n m (omega arith) (length_at xs ys 3 l) m', length_at xs ys 4 l, length_at xs ys 5 l)

  pub decrypt_passed : (s c v w : Bytes) → Taken ≡ first (decrypt_tests k s c v w)
      → (length s ≡ n) × (length c ≡ 16 * n) × (all_below k.modulus (list (2 * n) (poly c)) ≡ true) × (length v ≡ n) × (length w ≡ 1048576)
  decrypt_passed s c v w i =
      let xs : List ℕ = length s ∷ length c ∷ length v ∷ length w ∷ [] in
      let ys : List ℕ = n ∷ 16 * n ∷ n ∷ 1048576 ∷ [] in
      let below = coefficients_below k.modulus (2 * n) (c ∷ []) in
      let h = passed xs ys (bytes_below 3 (s ∷ []) && below) [] (sym i) in
      let l = h.0 in
      let c' = (both (all_below k.modulus (list (2 * n) (poly c))) true (both (bytes_below 3 (s ∷ [])) below h.1).1).0 in
      (length_at xs ys 0 l, length_at xs ys 1 l, c', length_at xs ys 2 l, length_at xs ys 3 l)
