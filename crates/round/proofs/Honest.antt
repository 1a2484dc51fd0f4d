-- The producer's round meets none of 5 to 13: material that meets none of the producer's refusals, with any side and challenges in range. Assumes nothing.
use mathlib.Core.Path.{◌≡◌, refl, sym, ap, ap₂, subst, ◌∙◌}
use mathlib.Core.Bool.{true, not, ◌&&◌}
use mathlib.Core.List.{[], ◌∷◌, ◌++◌, append_assoc}
use Prim.Native.Nat.{ℕ, zero, suc, ◌+◌, ◌*◌, ◌^◌, ◌≤◌, ◌<◌}
use native.Mathlib.Nat.{mul_assoc}
use native.Mathlib.Omega.{arith}
use borrow.Author.Tests.{lt-ltb, le-leb}
use lib.Dec.{leb}
use lib.ListN.{length, get_or}
use Rattle.codec.specs.Bytes.{Bytes, part}
use Rattle.codec.specs.Reply.{None}
use Rattle.codec.proofs.Laws.{part_append}
use Rattle.codec.specs.Lists.{list, all_below}
use Rattle.codec.proofs.Lists.{list_cong, all_complete}
use Rattle.modular.proofs.Centring.{remainder_lt}
use Rattle.ring.specs.Poly.{Poly, plus, Alike}
use Rattle.ring.specs.Slots.{coefficient_bytes, poly}
use Rattle.ring.proofs.Bridge.{encode_alike}
use Rattle.ring.proofs.Polynomials.{alike_refl, alike_sym, ◌so◌, alike_plus}
use Rattle.ring.proofs.Ranges.{below_complete}
use Rattle.bgv.specs.Scheme.{plaintext, decrypted, share, recovered_mask, within, lent_mask, reconstructed}
use Rattle.bgv.specs.Internal.{Sound}
use Rattle.bgv.proofs.Form.{noisy_alike, halves, split_key}
use Rattle.bgv.proofs.Round.{worked_share, reconstructs}
use Rattle.commitment.specs.Commitment.{Pair, three_of, committed, pair_bytes, opens}
use Rattle.commitment.proofs.Additive.{second_alike}
use Rattle.vector.specs.Vector.{vector}
use Rattle.vector.proofs.Counts.{permutes_complete}
use Rattle.stern.specs.Shortness.{in_range, honest_answer, answer_tests}
use Rattle.stern.specs.Claims.{Split}
use Rattle.stern.proofs.Honest.{honest_range, honest_none}
use Rattle.round.specs.Layout.{Opening, joined, u_at, v_at, share_at, claim_at, pairs_of, pair_at, digests_at, opening_of, answer_at}
use Rattle.round.specs.Round.{Round, challenge_at, shares_of, opening_ranged, head_ranged, answers_ranged, ranged, splits, opens_key, opens_pairs, mask_test, claim_test, round_tests}
use Rattle.round.specs.Producer.{Material, MaterialSized, secret_s, secret_e, mask_at, permutation_at, producer_tests, pairs_bytes, produced_head, produced_shares, produced_claims, produced_opening, produced_answers, produced_round}
use Rattle.round.specs.Internal.{half_s, half_e, hides_s, hides_e, drawn_at, pair_bytes_of, produced_pairs}
use Rattle.round.specs.Suitable.{Suitable}
use Rattle.round.proofs.Many.{none_append, each_none, stretch}
use Rattle.round.proofs.Written.{Coefficients, below_append, below_joined, below_part, ranged_first, coefficients_written, coefficients_append, coefficients_joined, coefficients_vector, coefficients_part}
use Rattle.round.proofs.Produced.{pairs_written, pair_s_written, pair_e_written, digests_written, key_written, key_alike, share_alike, claim_written, opening_written, opening_s, opening_e, permutation_sized, vector_sized, salts_sized, answer_written}
use Rattle.round.proofs.Ranged.{each_exactly, ballots_exactly}
use Rattle.round.proofs.Tests.{equal_same, within_complete, splits_exactly}
use Rattle.round.proofs.Passed.{producer_exactly}
use Rattle.commitment.specs.Parameters.{Parameters}

module _ (P : Parameters) (m : ℕ) (x : Material) where
  open P use {q, N, p, B, D, repeats, a, k}

  abbrev head : Bytes
  head = produced_head P m x

  abbrev u : ℕ → Poly
  u j = u_at N x.ballots j

  abbrev v : ℕ → Poly
  v j = v_at N x.ballots j

  -- the shares of a side of a produced round
  opened_shares : (i : ℕ) (challenges : Bytes) (side : ℕ) → side < 2 → shares_of (produced_round P m x i challenges) side ≡ produced_shares P m x side
  opened_shares i challenges zero h = refl
  opened_shares i challenges (suc zero) h = refl
  opened_shares i challenges (suc (suc side)) h = absurd (omega arith)

  module _ (ok : Sound q p D B) (three : 2 < q) (fits : q ≤ 2 ^ 64) where
    positive : 0 < q
    positive = omega arith

    -- ---- 5: what is written is in range

    written_below : (f : Poly) → Coefficients q N (coefficient_bytes q N f)
    written_below f = coefficients_written N f positive fits

    pair_below : (c : Pair) → Coefficients q (N + N) (pair_bytes q N c)
    unfolding pair_bytes
    pair_below c = coefficients_append (coefficient_bytes q N c.one) (coefficient_bytes q N c.two) (written_below c.one) (written_below c.two)

    pairs_below : Coefficients q ((N + N) + ((N + N) + ((N + N) + (N + N)))) (produced_pairs P m x)
    unfolding pairs_bytes
    pairs_below =
        coefficients_append _ _ (pair_below _) (coefficients_append _ _ (pair_below _) (coefficients_append _ _ (pair_below _) (pair_below _)))

    ten_below : (f g : Poly) (pairs rest : Bytes) → Coefficients q ((N + N) + ((N + N) + ((N + N) + (N + N)))) pairs
        → all_below q (list (10 * N) (poly (coefficient_bytes q N f ++ (coefficient_bytes q N g ++ (pairs ++ rest))))) ≡ true
    ten_below f g pairs rest c =
        ranged_first (10 * N) (coefficient_bytes q N f ++ (coefficient_bytes q N g ++ pairs)) rest (coefficient_bytes q N f ++ (coefficient_bytes q N g ++ (pairs ++ rest)))
        (coefficients_append (coefficient_bytes q N f) (coefficient_bytes q N g ++ pairs) (written_below f) (coefficients_append (coefficient_bytes q N g) pairs (written_below g) c)) (omega arith)
        (append_assoc (coefficient_bytes q N f) (coefficient_bytes q N g ++ pairs) rest ∙ ap (λ (s : Bytes). coefficient_bytes q N f ++ s) (append_assoc (coefficient_bytes q N g) pairs rest))

    head_ranged_lem : head_ranged P.q P.N head ≡ true
    unfolding head_ranged produced_head
    head_ranged_lem = ten_below _ _ (produced_pairs P m x) _ pairs_below

    claims_below : all_below p (produced_claims P m x) ≡ true
    unfolding produced_claims plaintext
    claims_below =
        below_joined p m (λ j. list N (decrypted q N p (secret_s P m x) (u j) (v j)))
        (λ j l. below_complete p N (decrypted q N p (secret_s P m x) (u j) (v j)) (record { at = λ i h. remainder_lt p _ ok.positive }))

    shares_below : (side : ℕ) → all_below q (vector (produced_shares P m x side)) ≡ true
    unfolding produced_shares
    shares_below side =
        coefficients_vector (coefficients_joined N m (λ j. coefficient_bytes q N (share q N p (half_s P m x side) (u j) (lent_mask (mask_at P m x side j)))) (λ j l. written_below _))

    module _ (sized : MaterialSized P m x) (none : None (producer_tests P m x true)) where
      fit : Suitable P m x
      fit = (producer_exactly P m x positive fits).0 none

      secrets_below : all_below 3 x.secrets ≡ true
      secrets_below = (each_exactly 3 x.secrets).1 fit.ternary

      hides_below : (at : ℕ) → at + 3 * N ≤ 14 * N → all_below 3 (part x.secrets at (3 * N)) ≡ true
      hides_below at h = below_part 3 x.secrets at (3 * N) (let e = sized.secrets in omega arith) secrets_below

      opening_ranged_lem : (side : ℕ) → side < 2 → opening_ranged P.q P.N (produced_opening P m x side) ≡ true
      opening_ranged_lem side h = unfold opening_ranged in ap₂ ◌&&◌ front back
        where
          two_below : (f g : Poly) (r : Bytes) → all_below q (list (2 * N) (poly (coefficient_bytes q N f ++ (coefficient_bytes q N g ++ r)))) ≡ true
          two_below f g r =
              ranged_first (2 * N) (coefficient_bytes q N f ++ coefficient_bytes q N g) r (coefficient_bytes q N f ++ (coefficient_bytes q N g ++ r)) (coefficients_append (coefficient_bytes q N f) (coefficient_bytes q N g) (written_below f) (written_below g)) (omega arith)
              (append_assoc (coefficient_bytes q N f) (coefficient_bytes q N g) r)

          front : all_below q (list (2 * N) (poly (produced_opening P m x side))) ≡ true
          front = unfold produced_opening in two_below (half_s P m x side) (half_e P m x side) (hides_s P m x side ++ hides_e P m x side)

          hiding : part (produced_opening P m x side) (16 * N) (6 * N) ≡ hides_s P m x side ++ hides_e P m x side
          hiding =
              let w = opening_written P m x sized side h in
              let six : 6 * N ≡ 3 * N + 3 * N = omega arith in
              let at : 16 * N + 3 * N ≡ 19 * N = omega arith in
              ap (part (produced_opening P m x side) (16 * N)) six ∙ part_append (produced_opening P m x side) (16 * N) (3 * N) (3 * N)
              ∙ ap₂ ◌++◌ w.2 (ap (λ (i : ℕ). part (produced_opening P m x side) i (3 * N)) at ∙ w.3)

          back : all_below 3 (part (produced_opening P m x side) (16 * N) (6 * N)) ≡ true
          back =
              ap (all_below 3) hiding
              ∙ below_append 3 (hides_s P m x side) (hides_e P m x side) (hides_below (2 * N + 3 * N * side) (omega (arith, stretch (3 * N) side 2 h)))
              (hides_below (8 * N + 3 * N * side) (omega (arith, stretch (3 * N) side 2 h)))

      -- ---- the split that the shortness argument speaks of

      split : Split q N k x.secrets (pairs_of N head) (half_s P m x 0) (half_s P m x 1) (half_e P m x 0) (half_e P m x 1)
      split = record {
        sized = sized.secrets;
        below = secrets_below;
        adds_s = halves (secret_s P m x) (poly x.s0) positive;
        adds_e = halves (secret_e P m x) (poly x.e0) positive;
        pairs = pairs_written P m x ∙ (unfold pairs_bytes in
            ap₂ ◌++◌ (at (2 * N + 3 * N * 0) (2 * N) (half_s P m x 0) (omega arith))
            (ap₂ ◌++◌ (at (2 * N + 3 * N * 1) (5 * N) (half_s P m x 1) (omega arith))
            (ap₂ ◌++◌ (at (8 * N + 3 * N * 0) (8 * N) (half_e P m x 0) (omega arith)) (at (8 * N + 3 * N * 1) (11 * N) (half_e P m x 1) (omega arith)))));
      }
        where
          at : (i j : ℕ) (f : Poly) → i ≡ j
              → pair_bytes_of P m x (part x.secrets i (3 * N)) f ≡ pair_bytes q N (committed q N k (three_of q N (part x.secrets j (3 * N))) f)
          at i j f e = ap (λ (n : ℕ). pair_bytes_of P m x (part x.secrets n (3 * N)) f) e

      vector_below : (i : ℕ) → i < repeats → all_below q (vector (part x.vectors (336 * N * i) (336 * N))) ≡ true
      vector_below i h =
          let at : 336 * N * i ≡ 8 * (42 * N * i) = omega (arith, mul_assoc 336 N i, mul_assoc 42 N i) in
          let n : 336 * N ≡ 8 * (42 * N) = omega arith in
          let size = sized.vectors in
          ap₂ (λ (j l : ℕ). all_below q (vector (part x.vectors j l))) at n
          ∙ coefficients_vector (coefficients_part x.vectors (42 * N * i) (42 * N) ((each_exactly q (vector x.vectors)).1 fit.vectors) (omega (arith, stretch (336 * N) i repeats h)))

      -- an answer is in range, and meets none of 9, 10, 11
      answer_ranged : (i challenge : ℕ) → i < repeats → in_range q N challenge (honest_answer q N x.secrets (drawn_at P m x i) challenge) ≡ true
      answer_ranged i challenge h =
          honest_range q N k x.secrets (pairs_of N head) (half_s P m x 0) (half_s P m x 1) (half_e P m x 0) (half_e P m x 1) split three fits
          (permutation_at P m x i) (part x.vectors (336 * N * i) (336 * N)) (part x.salts (96 * i) 96)
          (permutation_sized P m x sized i h) (vector_sized P m x sized i h) (salts_sized P m x sized i h) (permutes_complete (fit.permuting i h)) (vector_below i h) challenge

      answer_none : (i challenge : ℕ) → i < repeats
          → None (answer_tests q N k (pairs_of N head) (digests_at N head i) i challenge (honest_answer q N x.secrets (drawn_at P m x i) challenge))
      answer_none i challenge h =
          honest_none q N k x.secrets (pairs_of N head) (half_s P m x 0) (half_s P m x 1) (half_e P m x 0) (half_e P m x 1) split three fits
          (permutation_at P m x i) (part x.vectors (336 * N * i) (336 * N)) (part x.salts (96 * i) 96)
          (permutation_sized P m x sized i h) (vector_sized P m x sized i h) (salts_sized P m x sized i h) (permutes_complete (fit.permuting i h)) (vector_below i h)
          (digests_at N head i) (digests_written P m x i h) i challenge

      -- ---- 6: the halves of the key add up to b

      key_splits : splits P head ≡ true
      key_splits =
          (splits_exactly P m positive fits head).1
          (alike_plus (key_alike P m x positive fits 0 (omega arith)) (key_alike P m x positive fits 1 (omega arith))
          so split_key p a (secret_s P m x) (secret_e P m x) (poly x.s0) (poly x.e0) positive so fit.matches)

      -- ---- 13: the claims are the votes

      adds_s : Alike q N (plus (half_s P m x 0) (half_s P m x 1)) (secret_s P m x)
      adds_s = split.adds_s

      claim_is : (j : ℕ) → j < m
          → claim_at N (produced_claims P m x) j ≡ list N (reconstructed q p (v j) (share_at N (produced_shares P m x 0) j) (share_at N (produced_shares P m x 1) j))
      claim_is j l =
          claim_written P m x j l
          ∙ sym (list_cong N (reconstructs ok (half_s P m x 0) (half_s P m x 1) (secret_s P m x) (u j) (v j) (share_at N (produced_shares P m x 0) j) (share_at N (produced_shares P m x 1) j)
          (lent_mask (mask_at P m x 0 j)) (lent_mask (mask_at P m x 1 j)) adds_s (share_alike P m x positive fits 0 j l) (share_alike P m x positive fits 1 j l)
          (fit.quiet j l) (fit.masked 0 j (omega arith) l) (fit.masked 1 j (omega arith) l)))

      -- ---- 7, 8, 12: a side

      module _ (side : ℕ) (low : side < 2) where
        abbrev opening : Opening
        opening = opening_of N (produced_opening P m x side)

        opened_s : Alike q N opening.s (half_s P m x side)
        opened_s = opening_s P m x sized positive fits side low

        opened_e : Alike q N opening.e (half_e P m x side)
        opened_e = opening_e P m x sized positive fits side low

        key_opens : opens_key P head side opening ≡ true
        unfolding opens_key
        key_opens = equal_same (key_written P m x side low ∙ encode_alike (noisy_alike q N p alike_refl (alike_sym opened_s) (alike_sym opened_e)))

        -- a pair that was written for f and r is opened by what is alike
        pair_opens : (c r r' : Bytes) (f g : Poly) → c ≡ pair_bytes_of P m x r f → r' ≡ r → Alike q N g f → opens q N k c (three_of q N r') g ≡ true
        unfolding opens pair_bytes
        pair_opens c r r' f g e er l =
            equal_same
            (e ∙ ap (λ (t : Bytes). pair_bytes_of P m x t f) (sym er)
            ∙ ap (λ (t : Bytes). coefficient_bytes q N (committed q N k (three_of q N r') f).one ++ t) (encode_alike (second_alike q N k (record { r1 = alike_refl; r2 = alike_refl; r3 = alike_refl }) (alike_sym l))))

        pairs_open : opens_pairs P head side opening ≡ true
        unfolding opens_pairs
        pairs_open =
            let w = opening_written P m x sized side low in
            ap₂ ◌&&◌ (pair_opens (pair_at N head side) (hides_s P m x side) opening.rs (half_s P m x side) opening.s (pair_s_written P m x side low) w.2 opened_s)
            (pair_opens (pair_at N head (2 + side)) (hides_e P m x side) opening.re (half_e P m x side) opening.e (pair_e_written P m x side low) w.3 opened_e)

        mask_bounded : (j : ℕ) → j < m → within B N (recovered_mask q N p opening.s (u j) (share_at N (produced_shares P m x side) j)) ≡ true
        mask_bounded j l =
            let E = lent_mask (mask_at P m x side j) in
            let made = share_alike P m x positive fits side j l so noisy_alike q N p (alike_sym opened_s) alike_refl alike_refl in
            let is = worked_share ok opening.s (u j) (share_at N (produced_shares P m x side) j) E (fit.masked side j low l) made in
            within_complete B N (recovered_mask q N p opening.s (u j) (share_at N (produced_shares P m x side) j)) (record { at = λ i h. rw (is i h) ((fit.masked side j low l).at i h) })

        module _ (challenges : Bytes) (size : length challenges ≡ repeats) (valid : (i : ℕ) → i < repeats → (1 ≤ get_or challenges i 0) × (get_or challenges i 0 ≤ 3)) where
          abbrev round : Round
          round = produced_round P m x side challenges

          answers_ranged_lem : answers_ranged P.q P.N P.repeats round.challenges round.answers ≡ true
          unfolding answers_ranged
          answers_ranged_lem =
              all_complete repeats (λ i. (leb 1 (challenge_at round i) && leb (challenge_at round i) 3) && in_range q N (challenge_at round i) (answer_at N challenges (produced_answers P m x challenges) i))
              (λ i h. ap₂ ◌&&◌ (ap₂ ◌&&◌ (le-leb 1 _ (valid i h).0) (le-leb _ 3 (valid i h).1))
              (ap (in_range q N (get_or challenges i 0)) (answer_written P m x sized challenges size i h) ∙ answer_ranged i (get_or challenges i 0) h))

          round_ranged : ranged P m round ≡ true
          unfolding ranged
          round_ranged =
              ap₂ ◌&&◌ (lt-ltb side 2 low)
              (ap₂ ◌&&◌ answers_ranged_lem
              (ap₂ ◌&&◌ ((ballots_exactly P m x.ballots).1 fit.ballots)
              (ap₂ ◌&&◌ claims_below
              (ap₂ ◌&&◌ head_ranged_lem (ap₂ ◌&&◌ (shares_below 0) (ap₂ ◌&&◌ (shares_below 1) (opening_ranged_lem side low)))))))

          answers_none : (i : ℕ) → i < repeats
              → None (answer_tests q N k (pairs_of N head) (digests_at N head i) i (challenge_at round i) (answer_at N challenges (produced_answers P m x challenges) i))
          answers_none i h =
              subst (λ (s : Bytes). None (answer_tests q N k (pairs_of N head) (digests_at N head i) i (get_or challenges i 0) s)) (sym (answer_written P m x sized challenges size i h))
              (answer_none i (get_or challenges i 0) h)

          ballot_none : (j : ℕ) → j < m
              → None (mask_test q N p B opening.s x.ballots (shares_of round side) j ∷ claim_test q N p x.ballots (produced_claims P m x) (produced_shares P m x 0) (produced_shares P m x 1) j ∷ [])
          ballot_none j l =
              let shares = ap (λ (s : Bytes). within B N (recovered_mask q N p opening.s (u j) (share_at N s j))) (opened_shares side challenges side low) in
              (ap not (shares ∙ mask_bounded j l), (ap not (equal_same (claim_is j l)), tt))

          -- the producer's round meets none of 5 to 13
          pub honest_round : None (round_tests P m (produced_round P m x side challenges))
          unfolding round_tests
          honest_round = (
            ap not round_ranged,
            (
              ap not key_splits,
              (
                ap not key_opens,
                (
                  ap not pairs_open,
                  none_append (joined repeats (λ i. answer_tests q N k (pairs_of N head) (digests_at N head i) i (challenge_at round i) (answer_at N challenges (produced_answers P m x challenges) i))) _
                      (each_none repeats _ answers_none) (each_none m _ ballot_none),
                ),
              ),
            ),
          )
