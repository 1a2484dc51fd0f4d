-- What the contracts of inner functions and the proofs go by: no exported contract and no claim cites this file. Assumes nothing.
use Rattle.std.specs.Prelude.{◌≡◌, ℕ, ◌*◌, ◌≤◌, ◌<◌, ltb, Bool, true, not, ◌&&◌, List, ◌∷◌, length, get_or}
use Rattle.codec.specs.Bytes.{Bytes, zeros}
use Rattle.codec.specs.Reply.{Test, test, first, None, Refused}
use Rattle.codec.specs.Lists.{all_below}
use Rattle.vector.specs.Vector.{vector}
use Rattle.ring.specs.Poly.{Poly, Below}
use Rattle.stern.specs.Argument.{Drawn}
use Rattle.stern.specs.Shortness.{in_range, answer_tests}
use Rattle.round.specs.Layout.{ballot_length, u_at, head_length, share_at, answers_length, pairs_of, digests_at, opening_of, answer_at}
use Rattle.std.specs.Borrow.{MutBor}
use Rattle.codec.specs.Slices.{Slice, given}
use Rattle.round.specs.declared.LentMaterial.{LentMaterial}
use Rattle.round.specs.Producer.{Material, material_of, half_of, s_in, e_in, hides_sin, hides_ein, drawn_in, committed_pair, pairs_bytes, opening_bytes, answers_bytes, produced_head, produced_shares, produced_claims}
use Rattle.round.specs.Writes.{FirstRoom, first_room, SecondRoom, second_room}
use Rattle.commitment.specs.Parameters.{Parameters}
use Rattle.round.specs.Round.{Round, challenge_at, is_challenge, shares_of, ballots_ranged, opening_ranged, head_ranged, split_test}
use Rattle.round.specs.Extractor.{Openings, side_tests}
use Rattle.sheet_numbers.specs.declared.Numbers.{Numbers}

-- ---- what inner functions are given and write: ballots, claims, shares, challenges and answers that passed the tests of lengths and ranges, and the room that is lent

-- the shares of one side for `count` ballots
pub record SharesLent (q N count : ℕ) (shares : Bytes) : Type 0 where
  pub sized : length shares ≡ 8 * N * count
  pub below : (j : ℕ) → j < count → Below q N (share_at N shares j)

-- ballots and claims
pub record Batch (q N count : ℕ) (ballots claims : Bytes) : Type 0 where
  pub ballots_sized : length ballots ≡ ballot_length N * count
  pub claims_sized : length claims ≡ N * count
  pub below : (j : ℕ) → j < count → Below q (2 * N) (u_at N ballots j)

-- challenges and answers: each answer has the length of its challenge, and is in range
pub record Answers (q N repeats : ℕ) (challenges answers : Bytes) : Type 0 where
  pub challenges_sized : length challenges ≡ repeats
  pub answers_sized : length answers ≡ answers_length N challenges
  pub below : (i : ℕ) → i < repeats → in_range q N (get_or challenges i 0) (answer_at N challenges answers i) ≡ true

-- what both calls of a producer are lent, from the code's own `LentMaterial`
abbrev pub material_lent : LentMaterial → Material
material_lent x =
    material_of x.secrets.now x.s0.now x.e0.now x.masks0.now x.masks1.now x.vectors.now x.permutations.now x.salts.now x.ballots.now

abbrev pub first_now : (head shares0 shares1 claims scratch : MutBor Bytes) → FirstRoom
first_now head shares0 shares1 claims scratch = first_room head.now shares0.now shares1.now claims.now scratch.now

abbrev pub second_now : (opening answers scratch : MutBor Bytes) → SecondRoom
second_now opening answers scratch = second_room opening.now answers.now scratch.now

-- a round from its slices one by one
abbrev pub round_of : (side : ℕ) (challenges ballots claims head shares0 shares1 opening answers : Bytes) → Round
round_of side challenges ballots claims head shares0 shares1 opening answers = record {
  side = side;
  challenges = challenges;
  ballots = ballots;
  claims = claims;
  head = head;
  shares0 = shares0;
  shares1 = shares1;
  opening = opening;
  answers = answers;
}

abbrev pub round_in : (side : ℕ) (challenges ballots claims head shares0 shares1 opening answers : Slice) → Round
round_in side challenges ballots claims head shares0 shares1 opening answers =
    round_of side (given challenges) (given ballots) (given claims) (given head) (given shares0) (given shares1) (given opening) (given answers)

-- the first message and the claims of m ballots are written, and scratch is zeroed
pub record FirstProduced (P : Parameters) (m : ℕ) (x : Material) (before after : FirstRoom) : Type 0 where
  pub head : after.head ≡ produced_head P m x
  pub shares0 : after.shares0 ≡ produced_shares P m x 0
  pub shares1 : after.shares1 ≡ produced_shares P m x 1
  pub claims : after.claims ≡ produced_claims P m x
  pub cleared : after.scratch ≡ zeros (length before.scratch)

-- the opening of a side and the answers to challenges are written, from what is read for them, and scratch is zeroed
pub record SecondProduced (k : Numbers) (secrets s0 e0 vectors permutations salts : Bytes) (side : ℕ) (challenges : Bytes) (before after : SecondRoom) : Type 0 where
  pub opening : after.opening ≡ opening_bytes k.modulus k.ring secrets s0 e0 side
  pub answers : after.answers ≡ answers_bytes k.modulus k.ring k.repeats secrets vectors permutations salts challenges
  pub cleared : after.scratch ≡ zeros (length before.scratch)

-- ---- a producer's material, for the parameters of a sheet and m ballots

module _ (P : Parameters) (m : ℕ) (x : Material) where
  open P use {q, N, k}

  -- the halves of the secret by side, and their three r
  abbrev pub half_s : ℕ → Poly
  half_s = half_of q (s_in N x.secrets) x.s0

  abbrev pub half_e : ℕ → Poly
  half_e = half_of q (e_in N x.secrets) x.e0

  abbrev pub hides_s : ℕ → Bytes
  hides_s = hides_sin N x.secrets

  abbrev pub hides_e : ℕ → Bytes
  hides_e = hides_ein N x.secrets

  -- what is drawn for repetition i
  abbrev pub drawn_at : ℕ → Drawn
  drawn_at = drawn_in N x.vectors x.permutations x.salts

  -- a committed pair, and the four of the head
  abbrev pub pair_bytes_of : (hides : Bytes) → Poly → Bytes
  pair_bytes_of = committed_pair q N k

  abbrev pub produced_pairs : Bytes
  produced_pairs = pairs_bytes q N x.secrets x.s0 x.e0 k

-- ---- a round of m ballots

module _ (P : Parameters) (m : ℕ) where
  open P use {N, repeats}

  -- the lengths, which refusal 1 asks for
  pub record Lengths (r : Round) : Type 0 where
    pub challenges : length r.challenges ≡ repeats
    pub ballots : length r.ballots ≡ ballot_length N * m
    pub claims : length r.claims ≡ N * m
    pub head : length r.head ≡ head_length N repeats
    pub shares0 : length r.shares0 ≡ 8 * N * m
    pub shares1 : length r.shares1 ≡ 8 * N * m
    pub opening : length r.opening ≡ 22 * N
    pub answers : length r.answers ≡ answers_length N r.challenges

-- ---- the tests of a check in two parts: of the opening, and of the answer in each repetition

module _ (P : Parameters) (m : ℕ) (r : Round) where
  open P use {q, N, p, k}

  -- 5 but for challenges and answers
  unfoldable pub opened_ranged : Bool
  opened_ranged =
      ltb r.side 2
      && (ballots_ranged P m r.ballots
      && (all_below p r.claims
      && (head_ranged q N r.head
      && (all_below q (vector r.shares0)
      && (all_below q (vector r.shares1)
      && opening_ranged q N r.opening)))))

  -- of the opening: 5, 6, 7, 8; by ballot 12, 13
  unfoldable pub opening_tests : List Test
  opening_tests =
      test 5 0 (not opened_ranged)
      ∷ split_test P r.head
      ∷ side_tests P m r.head r.ballots r.claims r.shares0 r.shares1 r.side (shares_of r r.side) (opening_of N r.opening)

  -- of the answer in repetition i: 5, 9, 10, 11
  unfoldable pub repetition_tests : ℕ → List Test
  repetition_tests i =
      let answer = answer_at N r.challenges r.answers i in
      test 5 0 (not (is_challenge (challenge_at r i) && in_range q N (challenge_at r i) answer))
      ∷ answer_tests q N k (pairs_of N r.head) (digests_at N r.head i) i (challenge_at r i) answer

-- ---- checks of what the extractor is lent, by rounds that open each side and rounds that answer each challenge

module _ (P : Parameters) (m : ℕ) (x : Openings) (opened answered : ℕ → Round) where
  -- their checks refuse none of those openings and answers
  pub record ChecksTake : Type 0 where
    pub repetition : x.repetition < P.repeats
    pub openings : (i : ℕ) → i < 2 → None (opening_tests P m (opened i))
    pub answers : (c : ℕ) → 1 ≤ c → c ≤ 3 → None (repetition_tests P m (answered c) x.repetition)

  -- one of them is refused so, or the repetition is out of range
  pub data ChecksRefuse (number place : ℕ) : Type 0 where
    no_repetition : P.repeats ≤ x.repetition → Refused 5 0 ≡ Refused number place → ChecksRefuse number place
    opening : (i : ℕ) → i < 2 → first (opening_tests P m (opened i)) ≡ Refused number place → ChecksRefuse number place
    answer : (c : ℕ) → 1 ≤ c → c ≤ 3 → first (repetition_tests P m (answered c) x.repetition) ≡ Refused number place → ChecksRefuse number place
