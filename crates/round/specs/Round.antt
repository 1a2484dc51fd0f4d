-- The check of a round (document 01, "One round", and the order of check after 16): the ordered list of its tests. What an accepted round is
-- in propositions: specs/Accepted.antt. Assumes nothing.
use Rattle.std.specs.Prelude.{Bool, not, ◌&&◌, List, [], ◌∷◌, ◌++◌, ℕ, zero, suc, ◌+◌, ◌*◌, leb, ltb, get_or}
use Rattle.codec.specs.Bytes.{Bytes, part, same}
use Rattle.codec.specs.Reply.{Test, test}
use Rattle.codec.specs.Lists.{list, all_below, all}
use Rattle.ring.specs.Poly.{Poly, plus}
use Rattle.ring.specs.Slots.{coefficient_bytes, poly}
use Rattle.bgv.specs.Scheme.{key, recovered_mask, within, reconstructed}
use Rattle.commitment.specs.Commitment.{three_of, opens}
use Rattle.vector.specs.Vector.{vector}
use Rattle.stern.specs.Shortness.{in_range, answer_tests}
use Rattle.commitment.specs.Parameters.{Parameters}
use Rattle.round.specs.Layout.{Opening, joined, u_at, v_at, ballots_below, share_at, claim_at, key_at, pairs_of, pair_at, digests_at, opening_of, answer_at}

-- what is lent to a check of one round
pub record Round : Type 0 where
  pub side : ℕ
  pub challenges : Bytes
  pub ballots : Bytes
  pub claims : Bytes
  pub head : Bytes
  pub shares0 : Bytes
  pub shares1 : Bytes
  pub opening : Bytes
  pub answers : Bytes

abbrev pub challenge_at : Round → ℕ → ℕ
challenge_at r i = get_or r.challenges i 0

-- a challenge is 1, 2 or 3
abbrev pub is_challenge : ℕ → Bool
is_challenge c = leb 1 c && leb c 3

-- the first of two for side 0, the second for side 1
abbrev pub of_side : ℕ → Bytes → Bytes → Bytes
of_side zero x y = x
of_side (suc i) x y = y

-- the shares of a side
abbrev pub shares_of : Round → ℕ → Bytes
shares_of r i = of_side i r.shares0 r.shares1

-- ---- 5: the coefficients and ternary bytes of an opening, the head of a first message, challenges and answers are in range

unfoldable pub opening_ranged : (q N : ℕ) → Bytes → Bool
opening_ranged q N o = all_below q (list (2 * N) (poly o)) && all_below 3 (part o (16 * N) (6 * N))

-- b0, b1 and the committed pairs
unfoldable pub head_ranged : (q N : ℕ) → Bytes → Bool
head_ranged q N head = all_below q (list (10 * N) (poly head))

unfoldable pub answers_ranged : (q N repeats : ℕ) (challenges answers : Bytes) → Bool
answers_ranged q N repeats challenges answers =
    all repeats (λ i. is_challenge (get_or challenges i 0) && in_range q N (get_or challenges i 0) (answer_at N challenges answers i))

-- ---- by ballot 12, 13

-- 12: the mask of ballot j, worked out from the opened half s of the secret and that side's share, is at most B
abbrev pub mask_test : (q N p B : ℕ) (s : Poly) (ballots shares : Bytes) → ℕ → Test
mask_test q N p B s ballots shares j = test 12 j (not (within B N (recovered_mask q N p s (u_at N ballots j) (share_at N shares j))))

-- 13: the claim of ballot j is the vote
abbrev pub claim_test : (q N p : ℕ) (ballots claims shares0 shares1 : Bytes) → ℕ → Test
claim_test q N p ballots claims shares0 shares1 j =
    test 13 j (not (same (claim_at N claims j) (list N (reconstructed q p (v_at N ballots j) (share_at N shares0 j) (share_at N shares1 j)))))

-- by ballot 12, 13, with the opened half s of the secret and the shares of its side
abbrev pub votes_tests : (q N p B m : ℕ) (s : Poly) (ballots claims shares0 shares1 shares : Bytes) → List Test
votes_tests q N p B m s ballots claims shares0 shares1 shares =
    joined m (λ j. mask_test q N p B s ballots shares j ∷ claim_test q N p ballots claims shares0 shares1 j ∷ [])

-- for the parameters of a sheet
module _ (P : Parameters) where
  open P use {q, N, p, B, repeats, a, b, k}

  -- ---- 6, 7, 8: the halves of the key

  -- b0 + b1 is b
  unfoldable pub splits : Bytes → Bool
  splits head = same (coefficient_bytes q N (plus (key_at N head 0) (key_at N head 1))) (coefficient_bytes q N b)

  -- the opened b_i is a s_i + p e_i
  unfoldable pub opens_key : (head : Bytes) (side : ℕ) → Opening → Bool
  opens_key head side o = same (part head (8 * N * side) (8 * N)) (coefficient_bytes q N (key q N p a o.s o.e))

  -- the pairs of s_i and e_i are those of the opening
  unfoldable pub opens_pairs : (head : Bytes) (side : ℕ) → Opening → Bool
  opens_pairs head side o =
      opens q N k (pair_at N head side) (three_of q N o.rs) o.s && opens q N k (pair_at N head (2 + side)) (three_of q N o.re) o.e

  -- ---- stretches of the orders

  abbrev pub split_test : (head : Bytes) → Test
  split_test head = test 6 0 (not (splits head))

  -- 7, 8: the half of the key and the pairs that a side's opening makes
  abbrev pub half_tests : (head : Bytes) (side : ℕ) → Opening → List Test
  half_tests head side o = test 7 0 (not (opens_key head side o)) ∷ test 8 0 (not (opens_pairs head side o)) ∷ []

  -- by repetition 9, 10, 11
  abbrev pub answers_tests : (head challenges answers : Bytes) → List Test
  answers_tests head challenges answers =
      joined repeats (λ i. answer_tests q N k (pairs_of N head) (digests_at N head i) i (get_or challenges i 0) (answer_at N challenges answers i))

-- and m ballots
module _ (P : Parameters) (m : ℕ) where
  open P use {q, N, p, B, repeats}

  -- ---- 5: every coefficient, claim, ternary byte, side and challenge is in its range

  unfoldable pub ballots_ranged : Bytes → Bool
  ballots_ranged = ballots_below q N m

  unfoldable pub ranged : Round → Bool
  ranged r =
      ltb r.side 2
      && (answers_ranged q N repeats r.challenges r.answers
      && (ballots_ranged r.ballots
      && (all_below p r.claims
      && (head_ranged q N r.head
      && (all_below q (vector r.shares0)
      && (all_below q (vector r.shares1)
      && opening_ranged q N r.opening))))))

  -- ---- the order: 5, 6, 7, 8; by repetition 9, 10, 11; by ballot 12, 13

  -- after 5
  abbrev pub round_later : Round → List Test
  round_later r =
      let o = opening_of N r.opening in
      split_test P r.head
      ∷ (half_tests P r.head r.side o
      ++ (answers_tests P r.head r.challenges r.answers
      ++ votes_tests q N p B m o.s r.ballots r.claims r.shares0 r.shares1 (shares_of r r.side)))

  unfoldable pub round_tests : Round → List Test
  round_tests r = test 5 0 (not (ranged r)) ∷ round_later r
