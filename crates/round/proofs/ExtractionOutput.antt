-- What stands in the extractor's output is itself what was found: polynomials read from it are a short vector, or a key. Assumes nothing.
use mathlib.Core.Path.{◌≡◌, refl, sym, ap, ◌∙◌}
use mathlib.Core.Bool.{Bool, true, false, not, cond}
use mathlib.Core.Logic.{◌⊎◌, inl, inr}
use Prim.Native.Nat.{ℕ, ◌*◌, ◌^◌, ◌≤◌, ◌<◌}
use native.Mathlib.Omega.{arith}
use Rattle.codec.specs.Bytes.{Bytes, part}
use Rattle.codec.specs.Reply.{None}
use Rattle.codec.proofs.Laws.{same_equal}
use Rattle.codec.proofs.Lists.{list_cong}
use Rattle.modular.specs.Modulo.{remainder}
use Rattle.ring.specs.Poly.{Poly, modulo, Alike}
use Rattle.ring.specs.Slots.{encode}
use Rattle.ring.proofs.Bridge.{length_encode}
use Rattle.ring.proofs.Polynomials.{alike_refl, alike_sym, ◌so◌, alike_minus, alike_mul}
use Rattle.bgv.specs.Scheme.{noise_in, plaintext}
use Rattle.bgv.specs.Internal.{Sound}
use Rattle.bgv.proofs.Form.{noisy_alike}
use Rattle.commitment.specs.Commitment.{Three, Alike3}
use Rattle.commitment.proofs.Additive.{row_alike}
use Rattle.stern.proofs.Honest.{slot_alike}
use Rattle.stern.proofs.Layouts.{three_read}
use Rattle.round.specs.Layout.{u_at, v_at}
use Rattle.commitment.specs.Parameters.{Parameters}
use Rattle.round.specs.Extractor.{Openings, Lent, three_bytes, extract_tests, vector_s, vector_e, kind, extracted, Nonzero, ShortVector, Key, Found, vector_of, Output, Lowest}
use Rattle.round.proofs.Ranged.{each_exactly}
use Rattle.round.proofs.ExtractionSizes.{zeros_alike, same_centre, small_alike}
use Rattle.round.proofs.Extraction.{extraction}
use Rattle.round.proofs.ExtractionWritten.{length_extracted, collision_written, vector_s_written, vector_e_written, found_vector_s, found_vector_e, found_secret, key_written}

pub vector_of_three_bytes : {q : ℕ} (N : ℕ) (r : Three) (w : Bytes) → 0 < q → q ≤ 2 ^ 64 → w ≡ three_bytes q N r → Alike3 q N r (vector_of N w)
vector_of_three_bytes {q} N r w positive fits e =
    let t = three_read (8 * N) (8 * N) (8 * N) (16 * N) (omega arith) (encode N (modulo q r.r1)) (encode N (modulo q r.r2)) (encode N (modulo q r.r3))
    (length_encode N _) (length_encode N _) (length_encode N _) in
    record {
      r1 = alike_sym (slot_alike q N positive fits w 0 r.r1 (ap (λ (s : Bytes). part s 0 (8 * N)) e ∙ t.0));
      r2 = alike_sym (slot_alike q N positive fits w (8 * N) r.r2 (ap (λ (s : Bytes). part s (8 * N) (8 * N)) e ∙ t.1));
      r3 = alike_sym (slot_alike q N positive fits w (16 * N) r.r3 (ap (λ (s : Bytes). part s (16 * N) (8 * N)) e ∙ t.2));
    }

module _ (P : Parameters) (m : ℕ) (x : Openings) where
  open P use {q, N, p, D, B, k}

  -- ---- what is found goes by what the coefficients are modulo q

  nonzero_alike : {f g : Poly} → Alike q N f g → Nonzero P m x f → Nonzero P m x g
  nonzero_alike e n = record { place = n.place; below = n.below; differs = λ z. n.differs ((e.at n.place n.below).is ∙ z) }

  pub vector_alike : {z w : Three} → Alike3 q N z w → ShortVector P m x z → ShortVector P m x w
  vector_alike {z} {w} e v = record {
    nonzero = go v.nonzero;
    vanishes = alike_sym (row_alike q N k e) so v.vanishes;
    small1 = small_alike 4 e.r1 v.small1;
    small2 = small_alike 4 e.r2 v.small2;
    small3 = small_alike 4 e.r3 v.small3;
  }
    where
      go : Nonzero P m x z.r1 ⊎ Nonzero P m x z.r2 ⊎ Nonzero P m x z.r3 → Nonzero P m x w.r1 ⊎ Nonzero P m x w.r2 ⊎ Nonzero P m x w.r3
      go (inl n) = inl (nonzero_alike e.r1 n)
      go (inr (inl n)) = inr (inl (nonzero_alike e.r2 n))
      go (inr (inr n)) = inr (inr (nonzero_alike e.r3 n))

  -- v - s u goes by s
  noise_secret : {f g : Poly} (u v : Poly) → Alike q N f g → Alike q N (noise_in q N f u v) (noise_in q N g u v)
  unfolding noise_in
  noise_secret u v e = alike_minus alike_refl (alike_mul e alike_refl)

  pub secret_alike : {f f' g g' : Poly} → Alike q N f f' → Alike q N g g' → Key P m x f g → Key P m x f' g'
  unfolding plaintext
  secret_alike ef eg y = record {
    short_s = small_alike 1 ef y.short_s;
    short_e = small_alike 1 eg y.short_e;
    matches = noisy_alike q N p alike_refl (alike_sym ef) (alike_sym eg) so y.matches;
    opens = λ j l noise.
        let same = noise_secret (u_at N x.ballots j) (v_at N x.ballots j) ef in
        list_cong N (λ i h. ap (remainder p) (sym (same_centre (same.at i h)))) ∙ y.opens j l (small_alike D (alike_sym same) noise);
  }

  -- ---- what is written

  module _ (three : 2 < q) (fits : q ≤ 2 ^ 64) (lent : Lent P m x) (none : None (extract_tests P m x)) (ok : Sound q p D B) where
    -- polynomials read from the output are alike to the vector that was found
    read : (z : Three) → extracted P m x ≡ three_bytes q N z → Alike3 q N z (vector_of N (extracted P m x))
    read z e = vector_of_three_bytes N z (extracted P m x) (omega arith) fits e

    abbrev found : Found P m x (kind P m x)
    found = extraction P m x three fits lent none ok

    pub output : Output P m x (kind P m x) (extracted P m x)
    output = record {
      sized = length_extracted P m x;
      nothing = collision_written P m x;
      short_s = λ e. let l = read (vector_s P m x) (vector_s_written P m x e) in (vector_alike l (found_vector_s P m x found e), l);
      short_e = λ e. let l = read (vector_e P m x) (vector_e_written P m x e) in (vector_alike l (found_vector_e P m x found e), l);
      ternary_s = λ e. (each_exactly 3 (part (extracted P m x) 0 N)).0 (key_written P m x three fits lent none ok e).ternary_s;
      ternary_e = λ e. (each_exactly 3 (part (extracted P m x) N N)).0 (key_written P m x three fits lent none ok e).ternary_e;
      secret = λ e. let w = key_written P m x three fits lent none ok e in secret_alike (alike_sym w.means_s) (alike_sym w.means_e) (found_secret P m x found e);
      rest = λ e. (key_written P m x three fits lent none ok e).rest;
    }

  -- ---- the kind is the lowest

  by_tests : (b1 b2 b3 b4 b5 : Bool)
      → let n : ℕ = cond (not b1) 1 (cond (not b2) 2 (cond (not b3) 3 (cond (not b4) 4 (cond (not b5) 5 6)))) in
      (1 < n → b1 ≡ true) × (2 < n → b2 ≡ true) × (3 < n → b3 ≡ true) × (4 < n → b4 ≡ true) × (5 < n → b5 ≡ true)
  by_tests false b2 b3 b4 b5 = (λ l. absurd (omega arith), λ l. absurd (omega arith), λ l. absurd (omega arith), λ l. absurd (omega arith), λ l. absurd (omega arith))
  by_tests true false b3 b4 b5 = (λ l. refl, λ l. absurd (omega arith), λ l. absurd (omega arith), λ l. absurd (omega arith), λ l. absurd (omega arith))
  by_tests true true false b4 b5 = (λ l. refl, λ l. refl, λ l. absurd (omega arith), λ l. absurd (omega arith), λ l. absurd (omega arith))
  by_tests true true true false b5 = (λ l. refl, λ l. refl, λ l. refl, λ l. absurd (omega arith), λ l. absurd (omega arith))
  by_tests true true true true false = (λ l. refl, λ l. refl, λ l. refl, λ l. refl, λ l. absurd (omega arith))
  by_tests true true true true true = (λ l. refl, λ l. refl, λ l. refl, λ l. refl, λ l. refl)

  pub lowest : 0 < q → q ≤ 2 ^ 64 → Lowest P m x (kind P m x)
  unfolding kind
  lowest positive fits =
      let t = by_tests _ _ _ _ _ in
      record {
        first = λ l. same_equal _ _ (t.0 l);
        second = λ l. same_equal _ _ (t.1 l);
        third = λ l. same_equal _ _ (t.2 l);
        zero_s = λ l. zeros_alike q N positive fits (vector_s P m x) (same_equal _ _ (t.3 l));
        zero_e = λ l. zeros_alike q N positive fits (vector_e P m x) (same_equal _ _ (t.4 l));
      }
