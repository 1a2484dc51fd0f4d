-- What is known of the lent parts of a round once the tests of lengths and ranges are passed. Assumes nothing.
use mathlib.Core.Path.{◌≡◌, ap, ◌∙◌}
use mathlib.Core.Bool.{true, ◌&&◌}
use Prim.Native.Nat.{ℕ, ◌+◌, ◌*◌, ◌/◌, ◌≤◌, ◌<◌}
use native.Mathlib.Nat.{mul_assoc}
use native.Mathlib.Omega.{arith}
use borrow.Author.Tests.{ltb-true}
use lib.Dec.{ltb}
use lib.ListN.{length}
use Rattle.codec.specs.Bytes.{Bytes, part}
use Rattle.codec.proofs.Laws.{length_part, both}
use Rattle.codec.specs.Lists.{list, all_below}
use Rattle.codec.proofs.Lists.{all_sound}
use Rattle.ring.specs.Poly.{Below}
use Rattle.ring.specs.Slots.{poly}
use Rattle.ring.proofs.Bridge.{poly_part}
use Rattle.ring.proofs.Ranges.{below_sound}
use Rattle.scratch.specs.Internal.{Polynomial}
use Rattle.vector.specs.Vector.{vector}
use Rattle.stern.specs.Shortness.{in_range}
use Rattle.stern.proofs.Written.{vector_below}
use Rattle.round.specs.Layout.{ballot_length, head_length, u_at, pairs_of, answer_at}
use Rattle.round.specs.Round.{Round, challenge_at, is_challenge, ballots_ranged, opening_ranged, head_ranged, answers_ranged, ranged}
use Rattle.round.specs.Internal.{Batch, SharesLent, Lengths}
use Rattle.round.proofs.Many.{stretch}
use Rattle.round.proofs.Written.{below_slot, coefficients_vector}
use Rattle.round.proofs.Compared.{lent_public}
use Rattle.round_side.specs.Internal.{Opened, Head, RoundInRange}
use Rattle.commitment.specs.Parameters.{Parameters}

-- for a ring size and a modulus that some polynomial of the sheet has
module _ (P : Parameters) (m : ℕ) {a : Bytes} (p : Polynomial P.N P.q a) where
  open P use {q, N, repeats}

  -- a polynomial of bytes that hold l coefficients below q, from coefficient d on
  public_part : (l : ℕ) (s : Bytes) → Below q l (poly s) → (d at : ℕ) → at ≡ 8 * d → d + N ≤ l → 8 * l ≤ length s → Polynomial N q (part s at (8 * N))
  public_part l s b d at e h f =
      lent_public N q s at (8 * N) (omega arith) (omega arith) p.ring_low p.ring_high p.modulus_low p.modulus_high (below_slot q l s d N at e h b)

  pub opening_passed : (opening : Bytes) → length opening ≡ 22 * N → opening_ranged P.q P.N opening ≡ true → Opened q N opening
  unfolding opening_ranged
  opening_passed opening l t =
      let b = below_sound q (2 * N) (poly opening) (both _ _ t).0 in
      record {
        sized = l;
        s = public_part (2 * N) opening b 0 0 (omega arith) (omega arith) (omega arith);
        e = public_part (2 * N) opening b N (8 * N) (omega arith) (omega arith) (omega arith);
      }

  pub head_passed : (head : Bytes) → length head ≡ head_length N repeats → head_ranged P.q P.N head ≡ true → Head q N repeats head
  unfolding head_ranged
  head_passed head l t =
      let b = below_sound q (10 * N) (poly head) t in
      record {
        sized = l;
        b0 = public_part (10 * N) head b 0 0 (omega arith) (omega arith) (omega arith);
        b1 = public_part (10 * N) head b N (8 * N) (omega arith) (omega arith) (omega arith);
        pairs = coefficients_vector {n = 8 * N} (record {
          sized = length_part head (16 * N) (64 * N) (omega arith) ∙ omega arith;
          below = record { at = λ k j. pair_below b k j };
        });
      }
    where
      pair_below : Below q (10 * N) (poly head) → (k : ℕ) → k < 8 * N → poly (pairs_of N head) k < q
      pair_below b k j =
          let e : 64 * N ≡ 8 * (8 * N) = omega arith in
          rw (ap (λ (x : ℕ). poly (part head (16 * N) x) k) e ∙ poly_part head (16 * N) (8 * N) k j)
          ((below_slot q (10 * N) head (2 * N) (8 * N) (16 * N) (omega arith) (omega arith) b).at k j)

  pub batch_passed : (ballots claims : Bytes) → length ballots ≡ ballot_length N * m → length claims ≡ N * m → ballots_ranged P m ballots ≡ true → Batch q N m ballots claims
  unfolding ballots_ranged
  batch_passed ballots claims l k t = record {
    ballots_sized = l;
    claims_sized = k;
    below = λ j h. below_sound q (2 * N) (u_at N ballots j) (all_sound m (λ i. all_below q (list (2 * N) (u_at N ballots i))) t j h);
  }

  pub shares_passed : (shares : Bytes) → length shares ≡ 8 * N * m → all_below q (vector shares) ≡ true → SharesLent q N m shares
  shares_passed shares l t = record {
    sized = l;
    below = λ j h. below_slot q (length shares / 8) shares (N * j) N (8 * N * j) (mul_assoc 8 N j) (ends j h) (vector_below q shares t);
  }
    where
      ends : (j : ℕ) → j < m → N * j + N ≤ length shares / 8
      ends j h = omega (arith, stretch N j m h)

  -- ---- a check

  pub round_passed : (r : Round) → Lengths P m r → ranged P m r ≡ true → RoundInRange q N m repeats r
  unfolding ranged answers_ranged
  round_passed r l t =
      let a1 = both (ltb r.side 2) _ t in
      let a2 = both (answers_ranged P.q P.N P.repeats r.challenges r.answers) _ a1.1 in
      let a3 = both (ballots_ranged P m r.ballots) _ a2.1 in
      let a4 = both (all_below P.p r.claims) _ a3.1 in
      let a5 = both (head_ranged P.q P.N r.head) _ a4.1 in
      let a6 = both (all_below q (vector r.shares0)) _ a5.1 in
      let a7 = both (all_below q (vector r.shares1)) (opening_ranged P.q P.N r.opening) a6.1 in
      record {
        side = ltb-true r.side 2 a1.0;
        answers = record {
          challenges_sized = l.challenges;
          answers_sized = l.answers;
          below = λ i h.
              (both (is_challenge (challenge_at r i)) (in_range q N (challenge_at r i) (answer_at N r.challenges r.answers i))
              (all_sound repeats (λ j. is_challenge (challenge_at r j) && in_range q N (challenge_at r j) (answer_at N r.challenges r.answers j)) a2.0 i h)).1;
        };
        batch = batch_passed r.ballots r.claims l.ballots l.claims a3.0;
        head = head_passed r.head l.head a5.0;
        shares0 = shares_passed r.shares0 l.shares0 a6.0;
        shares1 = shares_passed r.shares1 l.shares1 a7.0;
        opening = opening_passed r.opening l.opening a7.1;
      }
