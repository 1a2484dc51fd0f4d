-- Polynomials, their bytes and their sizes, as an extraction needs them: bytes are zeros exactly if a polynomial is zero, and sums and differences of short ones
-- are small. Assumes nothing.
use mathlib.Core.Path.{◌≡◌, refl, sym, ap, ap₂, ◌∙◌}
use mathlib.Core.List.{◌++◌}
use Prim.Native.Nat.{ℕ, zero, suc, ◌+◌, ◌-◌, ◌*◌, ◌/◌, ◌%◌, ◌^◌, ◌≤◌, ◌<◌}
use native.Mathlib.Nat.{zero-mod}
use native.Mathlib.Numerals.{add-one}
use native.Mathlib.Decide.{dec_le}
use native.Mathlib.Omega.{arith}
use lib.IntN.{nat_abs}
use lib.ListN.{length, replicate-append-replicate}
use Rattle.codec.specs.Bytes.{Bytes, bytes, zeros}
use Rattle.modular.specs.Modulo.{Same, centre}
use Rattle.modular.proofs.Centring.{Near, near_centre, near_size, centre_size, centre_mod}
use Rattle.modular.proofs.Near.{near_le, near_add, near_negative}
use Rattle.ring.specs.Poly.{Poly, plus, minus, scale, modulo, zero_poly, Alike}
use Rattle.ring.specs.Slots.{encode}
use Rattle.ring.specs.Ternary.{ternary}
use Rattle.ring.proofs.Bridge.{length_encode, encode_none, encode_more, encode_alike}
use Rattle.ring.proofs.Sizes.{near_ternary}
use Rattle.bgv.specs.Scheme.{Small}
use Rattle.commitment.specs.Commitment.{Three, Alike3}
use Rattle.commitment.proofs.Opening.{encode_decides}
use Rattle.stern.proofs.Sound.{parts}
use Rattle.round.specs.Extractor.{three_bytes, zero3}

-- ---- zero

zero_bytes : (q n : ℕ) → encode n (modulo q zero_poly) ≡ zeros (8 * n)
unfolding modulo zero_poly
zero_bytes q zero = encode_none (modulo q zero_poly)
zero_bytes q (suc n) =
    let e : 8 * n + 8 ≡ 8 * suc n = omega arith in
    let none : bytes 8 0 ≡ zeros 8 = unfold bytes in refl in
    ap (λ (k : ℕ). encode k (modulo q zero_poly)) (sym (add-one n)) ∙ encode_more n (modulo q zero_poly)
    ∙ ap₂ (λ (s t : Bytes). s ++ t) (zero_bytes q n) (ap (bytes 8) (zero-mod q) ∙ none)
    ∙ replicate-append-replicate (8 * n) 8 0 ∙ ap zeros e

module _ (q N : ℕ) where
  zero3_bytes : three_bytes q N zero3 ≡ zeros (24 * N)
  zero3_bytes =
      let e : 8 * N + (8 * N + 8 * N) ≡ 24 * N = omega arith in
      ap₂ (λ (s t : Bytes). s ++ (t ++ t)) (zero_bytes q N) (zero_bytes q N)
      ∙ ap (λ (s : Bytes). zeros (8 * N) ++ s) (replicate-append-replicate (8 * N) (8 * N) 0)
      ∙ replicate-append-replicate (8 * N) (8 * N + 8 * N) 0 ∙ ap zeros e

  -- three polynomials are zero modulo q exactly if their bytes are zeros
  pub alike_zeros : (r : Three) → Alike3 q N r zero3 → three_bytes q N r ≡ zeros (24 * N)
  alike_zeros r e =
      ap₂ (λ (s t : Bytes). s ++ t) (encode_alike e.r1) (ap₂ (λ (s t : Bytes). s ++ t) (encode_alike e.r2) (encode_alike e.r3)) ∙ zero3_bytes

  pub zeros_alike : 0 < q → q ≤ 2 ^ 64 → (r : Three) → three_bytes q N r ≡ zeros (24 * N) → Alike3 q N r zero3
  zeros_alike positive fits r e =
      let long : (f : Poly) → length (encode N (modulo q f)) ≡ length (encode N (modulo q zero_poly)) = λ f. length_encode N (modulo q f) ∙ sym (length_encode N (modulo q zero_poly)) in
      let a = parts (encode N (modulo q r.r1)) (encode N (modulo q zero_poly)) (long r.r1) (e ∙ sym zero3_bytes) in
      let b = parts (encode N (modulo q r.r2)) (encode N (modulo q zero_poly)) (long r.r2) a.1 in
      record {
        r1 = encode_decides q N positive fits a.0;
        r2 = encode_decides q N positive fits b.0;
        r3 = encode_decides q N positive fits b.1;
      }

-- ---- sizes

-- the centred form goes by what a number is modulo q
pub same_centre : {q x y : ℕ} → Same q x y → centre q x ≡ centre q y
same_centre {q} {x} {y} e = sym (centre_mod q x) ∙ ap (centre q) e.is ∙ centre_mod q y

pub small_alike : {q N : ℕ} (K : ℕ) {f g : Poly} → Alike q N f g → Small q N K f → Small q N K g
small_alike K e h = record { at = λ k l. rw (← same_centre (e.at k l)) (h.at k l) }

module _ (q : ℕ) (odd : q % 2 ≡ 1) where
  positive : 0 < q
  positive = omega arith

  module _ (N : ℕ) where
    -- for any bound: where the bound is above (q - 1) / 2, every number is within it
    pub near_small : (K : ℕ) (f : Poly) → ((k : ℕ) → k < N → Near q K (f k)) → Small q N K f
    near_small K f h = record { at = λ k l. go k l (dec_le K ((q - 1) / 2)) }
      where
        go : (k : ℕ) → k < N → Dec (K ≤ (q - 1) / 2) → nat_abs (centre q (f k)) ≤ K
        go k l (yes room) = near_size odd room (h k l)
        go k l (no high) = omega (arith, centre_size q (f k) positive odd)

    pub small_near : (K : ℕ) (f : Poly) → Small q N K f → (k : ℕ) → k < N → Near q K (f k)
    small_near K f h k l = near_le (h.at k l) (near_centre q (f k) positive)

    pub small_ternary : (t : Bytes) → 1 < q → Small q N 1 (ternary q t)
    small_ternary t h = near_small 1 (ternary q t) (λ k l. near_ternary q t k h)

    -- two short ones less two short ones
    pub small_four : (f g h i : Poly) → Small q N 1 f → Small q N 1 g → Small q N 1 h → Small q N 1 i → Small q N 4 (minus q (plus f g) (plus h i))
    unfolding plus scale
    small_four f g h i a b c d =
        near_small 4 (minus q (plus f g) (plus h i))
        (λ k l. near_add (near_add (small_near 1 f a k l) (small_near 1 g b k l)) (near_negative positive (near_add (small_near 1 h c k l) (small_near 1 i d k l))))
