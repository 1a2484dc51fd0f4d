-- Accepted exactly: no test of a round holds if and only if the round is what `Accepted` says, for a head of the right length; and the
-- producer's round is. Assumes nothing.
use mathlib.Core.Path.{◌≡◌, ap}
use mathlib.Core.Logic.{◌↔◌}
use mathlib.Core.Bool.{true, not}
use Prim.Native.Nat.{ℕ, ◌^◌, ◌≤◌, ◌<◌}
use native.Mathlib.Omega.{arith}
use borrow.Author.Tests.{not-false}
use lib.ListN.{length, get_or}
use Rattle.codec.specs.Bytes.{Bytes, Octets}
use Rattle.codec.specs.Reply.{None, first, Taken}
use Rattle.codec.proofs.Replies.{taken_exactly}
use Rattle.bgv.specs.Internal.{Sound}
use Rattle.round.specs.Layout.{Opening, joined, head_length, pairs_of, digests_at, opening_of, answer_at}
use Rattle.round.specs.Round.{Round, challenge_at, shares_of, ranged, round_tests}
use Rattle.round.specs.Accepted.{Answered, InRange, SideOpened, Accepted}
use Rattle.round.specs.Extractor.{side_tests}
use Rattle.round.specs.Producer.{Material, MaterialSized, producer_tests, produced_round}
use Rattle.round.proofs.Many.{none_append, append_none, each_none, none_each}
use Rattle.round.proofs.Produced.{length_produced_head, octets_produced_head}
use Rattle.round.proofs.Ranged.{ranged_exactly}
use Rattle.round.proofs.Answered.{answered_exactly}
use Rattle.round.proofs.Tests.{answer_tests_lem, ballot_tests_lem, splits_exactly}
use Rattle.round.proofs.Sides.{side_exactly}
use Rattle.round.proofs.Honest.{honest_round}
use Rattle.commitment.specs.Parameters.{Parameters}

module _ (P : Parameters) (m : ℕ) (positive : 0 < P.q) (fits : P.q ≤ 2 ^ 64) (r : Round) where
  open P use {q, N, repeats, k}

  abbrev head : Bytes
  head = r.head

  abbrev opening : Opening
  opening = opening_of N r.opening

  module _ (sized : length r.head ≡ head_length N repeats) (octets : Octets r.head) where
    -- ---- a round in range

    module _ (in_range : InRange P m r) where
      side_means : None (side_tests P m head r.ballots r.claims r.shares0 r.shares1 r.side (shares_of r r.side) opening)
          ↔ SideOpened P m r.ballots r.claims head r.shares0 r.shares1 r.side opening
      side_means = side_exactly P m positive fits r.ballots r.claims head r.shares0 r.shares1 sized octets in_range.message.in_head r.side in_range.side opening

      answer_means : (i : ℕ) → i < repeats
          → None (answer_tests_lem P m r i) ↔ Answered q N k (pairs_of N head) (digests_at N head i) (challenge_at r i) (answer_at N r.challenges r.answers i)
      answer_means i l =
          let c = in_range.challenges i l in
          answered_exactly q N k (pairs_of N head) (digests_at N head i) i (answer_at N r.challenges r.answers i) (challenge_at r i) c.0 c.1

    -- ---- both ways

    accepted : None (round_tests P m r) → Accepted P m r
    unfolding round_tests
    accepted none =
        let in_range = (ranged_exactly P m r).0 (not-false (ranged P m r) none.0) in
        let rest = append_none (joined repeats (answer_tests_lem P m r)) (joined m (ballot_tests_lem P m r)) none.1.1.1.1 in
        record {
          in_range = in_range;
          key_splits = (splits_exactly P m positive fits head).0 (not-false _ none.1.0);
          opened = (side_means in_range).0 (none.1.1.0, (none.1.1.1.0, rest.1));
          answered = λ i l. (answer_means in_range i l).0 (none_each repeats (answer_tests_lem P m r) rest.0 i l);
        }

    tests_pass : Accepted P m r → None (round_tests P m r)
    unfolding round_tests
    tests_pass c =
        let side = (side_means c.in_range).1 c.opened in (
          ap not ((ranged_exactly P m r).1 c.in_range),
          (
            ap not ((splits_exactly P m positive fits head).1 c.key_splits),
            (
              side.0,
              (
                side.1.0,
                none_append (joined repeats (answer_tests_lem P m r)) (joined m (ballot_tests_lem P m r)) (each_none repeats (answer_tests_lem P m r) (λ i l. (answer_means c.in_range i l).1 (c.answered i l)))
                    side.1.1,
              ),
            ),
          ),
        )

    -- no test of the round holds exactly if it is accepted
    pub none_exactly : None (round_tests P m r) ↔ Accepted P m r
    none_exactly = (accepted, tests_pass)

    -- the check of the round takes it exactly if it is accepted
    pub accepted_exactly : (first (round_tests P m r) ≡ Taken) ↔ Accepted P m r
    accepted_exactly =
        let t = taken_exactly (round_tests P m r) in
        (λ e. accepted (t.0 e), λ c. t.1 (tests_pass c))

-- so the producer's round is accepted
pub honest_accepted : (P : Parameters) (m : ℕ) (x : Material) → Sound P.q P.p P.D P.B → 2 < P.q → P.q ≤ 2 ^ 64 → MaterialSized P m x → None (producer_tests P m x true)
    → (side : ℕ) → side < 2 → (challenges : Bytes) → length challenges ≡ P.repeats → ((i : ℕ) → i < P.repeats → (1 ≤ get_or challenges i 0) × (get_or challenges i 0 ≤ 3))
    → Accepted P m (produced_round P m x side challenges)
honest_accepted P m x ok three fits sized none side low challenges size valid =
    (none_exactly P m (omega arith) fits (produced_round P m x side challenges) (length_produced_head P m x) (octets_produced_head P m x)).0
    (honest_round P m x ok three fits sized none side low challenges size valid)
