-- The vector for s or for e: where its bytes are not all zeros it is nonzero, small, and the commitment row takes it to zero; where they are, the openings add up to
-- what was extracted. Assumes nothing.
use mathlib.Core.Path.{◌≡◌, sym, ◌∙◌}
use mathlib.Core.Logic.{◌⊎◌, inl, inr}
use mathlib.Core.Bool.{true, false}
use Prim.Native.Nat.{ℕ, zero, suc, ◌+◌, ◌*◌, ◌%◌, ◌^◌, ◌≤◌, ◌<◌}
use native.Mathlib.Nat.{zero-mod}
use native.Mathlib.Decide.{ℕ_discrete}
use native.Mathlib.Omega.{arith}
use Rattle.codec.specs.Bytes.{Bytes, zeros}
use Rattle.codec.proofs.Laws.{same_equal}
use Rattle.ring.specs.Poly.{Poly, plus, zero_poly, Alike}
use Rattle.commitment.specs.Commitment.{Three, Pair, three_of, plus3, row, second, Opens}
use Rattle.stern.specs.Shortness.{polynomial, three_from}
use Rattle.stern.specs.Claims.{Meets}
use Rattle.commitment.specs.Parameters.{Parameters}
use Rattle.round.specs.Extractor.{Openings, three_bytes, is_zero, pairs, unknowns, Nonzero, ShortVector}
use Rattle.round.proofs.Many.{last}
use Rattle.round.proofs.Tests.{differ}
use Rattle.round.proofs.ExtractionSizes.{alike_zeros, zeros_alike}
use Rattle.round.proofs.ExtractionHalves.{Small3, opened_short, difference, difference_small, row_vanishes, openings_add}

module _ (P : Parameters) (m : ℕ) (x : Openings) where
  open P use {q, N, k}

  -- ---- a polynomial is zero, or has a coefficient that is not

  scan : (n : ℕ) (f : Poly) → n ≤ N → Nonzero P m x f ⊎ ((i : ℕ) → i < n → f i % q ≡ 0)
  scan zero f h = inr (λ i l. absurd (omega arith))
  scan (suc n) f h = go (scan n f (omega arith)) (ℕ_discrete (f n % q) 0)
    where
      go : Nonzero P m x f ⊎ ((i : ℕ) → i < n → f i % q ≡ 0) → Dec (f n % q ≡ 0) → Nonzero P m x f ⊎ ((i : ℕ) → i < suc n → f i % q ≡ 0)
      go (inl w) d = inl w
      go (inr w) (no e) = inl (record { place = n; below = h; differs = e })
      go (inr w) (yes e) = inr (λ i l. at i (last n i l))
        where
          at : (i : ℕ) → (i < n) ⊎ (i ≡ n) → f i % q ≡ 0
          at i (inl b) = w i b
          at i (inr s) = rw s e

  nonzero_or_zero : (f : Poly) → Nonzero P m x f ⊎ Alike q N f zero_poly
  unfolding zero_poly
  nonzero_or_zero f = go (scan N f (omega arith))
    where
      go : Nonzero P m x f ⊎ ((i : ℕ) → i < N → f i % q ≡ 0) → Nonzero P m x f ⊎ Alike q N f zero_poly
      go (inl w) = inl w
      go (inr w) = inr (record { at = λ i l. record { is = w i l ∙ sym (zero-mod q) } })

  pub nonzero : (r : Three) → is_zero q N r ≡ false → Nonzero P m x r.r1 ⊎ Nonzero P m x r.r2 ⊎ Nonzero P m x r.r3
  nonzero r e = go (nonzero_or_zero r.r1) (nonzero_or_zero r.r2) (nonzero_or_zero r.r3)
    where
      go : Nonzero P m x r.r1 ⊎ Alike q N r.r1 zero_poly → Nonzero P m x r.r2 ⊎ Alike q N r.r2 zero_poly → Nonzero P m x r.r3 ⊎ Alike q N r.r3 zero_poly
          → Nonzero P m x r.r1 ⊎ Nonzero P m x r.r2 ⊎ Nonzero P m x r.r3
      go (inl w) b c = inl w
      go (inr a) (inl w) c = inr (inl w)
      go (inr a) (inr b) (inl w) = inr (inr w)
      go (inr a) (inr b) (inr c) = absurd (differ (three_bytes q N r) (zeros (24 * N)) e (alike_zeros q N r (record { r1 = a; r2 = b; r3 = c })))

  -- what the bytes of the vector z decide: that it is found, or that m0 and m1 add up to n
  pub record Decided (z : Three) (m0 m1 n : Poly) : Type 0 where
    pub nonzero_short : is_zero q N z ≡ false → ShortVector P m x z
    pub zero_adds : is_zero q N z ≡ true → Alike q N (plus m0 m1) n

  -- ---- one vector: two openings with r0 and r1 in ternary bytes, and the extracted polynomials from numbers i and j on, which hide polynomial l

  module _ (odd : q % 2 ≡ 1) (three : 2 < q) (fits : q ≤ 2 ^ 64) (meets : Meets q N k (pairs P m x) (unknowns P m x)) (r0 r1 : Bytes) (i j l : ℕ) (first : i + 2 < 14) (last : j + 2 < 14)
      (c0 c1 : Pair) (m0 m1 : Poly) (open0 : Opens q N k c0 (three_of q N r0) m0) (open1 : Opens q N k c1 (three_of q N r1) m1)
      (made1 : Alike q N (row q N k (plus3 (three_from N (unknowns P m x) i) (three_from N (unknowns P m x) j))) (plus c0.one c1.one))
      (made2 : Alike q N (second q N k (plus3 (three_from N (unknowns P m x) i) (three_from N (unknowns P m x) j)) (polynomial N (unknowns P m x) l)) (plus c0.two c1.two)) where
    abbrev z : Three
    z = difference q (three_of q N r0) (three_of q N r1) (three_from N (unknowns P m x) i) (three_from N (unknowns P m x) j)

    extracted_short : (n : ℕ) → n + 2 < 14 → Small3 q N 1 (three_from N (unknowns P m x) n)
    extracted_short n h = record {
      r1 = record { at = meets.small n (omega arith) };
      r2 = record { at = meets.small (n + 1) (omega arith) };
      r3 = record { at = meets.small (n + 2) h };
    }

    pub vector_decides : Decided z m0 m1 (polynomial N (unknowns P m x) l)
    vector_decides = record { nonzero_short = nonzero_short; zero_adds = zero_adds }
      where
        nonzero_short : is_zero q N z ≡ false → ShortVector P m x z
        nonzero_short e =
            let small = difference_small q N k (three_of q N r0) (three_of q N r1) (three_from N (unknowns P m x) i) (three_from N (unknowns P m x) j) odd
            (opened_short q N odd (omega arith) r0) (opened_short q N odd (omega arith) r1) (extracted_short i first) (extracted_short j last) in
            record {
              nonzero = nonzero z e;
              vanishes = row_vanishes q N k (three_of q N r0) (three_of q N r1) (three_from N (unknowns P m x) i) (three_from N (unknowns P m x) j) (omega arith)
                  c0 c1 m0 m1 (polynomial N (unknowns P m x) l) open0 open1 made1 made2;
              small1 = small.r1;
              small2 = small.r2;
              small3 = small.r3;
            }

        zero_adds : is_zero q N z ≡ true → Alike q N (plus m0 m1) (polynomial N (unknowns P m x) l)
        zero_adds e =
            openings_add q N k (three_of q N r0) (three_of q N r1) (three_from N (unknowns P m x) i) (three_from N (unknowns P m x) j) (omega arith)
            c0 c1 m0 m1 (polynomial N (unknowns P m x) l) open0 open1 made1 made2
            (zeros_alike q N (omega arith) fits z (same_equal (three_bytes q N z) (zeros (24 * N)) e))
