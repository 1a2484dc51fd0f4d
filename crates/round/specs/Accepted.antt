-- What an accepted round is (document 01, "One round" and refusals 5 to 13), in propositions to hold against the paper: no test stands in them, and the numbers
-- beside them are those of the refusals that they exclude. The extractor asks for the same parts (specs/OpeningsAccepted.antt). The lengths (1) stand apart: `InputsSized`,
-- session_check, specs/Equations.antt. Assumes nothing.
use Rattle.std.specs.Prelude.{◌≡◌, List, ℕ, ◌+◌, ◌*◌, ◌≤◌, ◌<◌, length, get_or}
use Rattle.codec.specs.Bytes.{Bytes}
use Rattle.codec.specs.Lists.{list}
use Rattle.sha3.specs.Sponge.{sha3}
use Rattle.ring.specs.Poly.{plus, Alike, Below}
use Rattle.ring.specs.Ternary.{count}
use Rattle.bgv.specs.Scheme.{Bounded, key, recovered_mask, reconstructed}
use Rattle.commitment.specs.Commitment.{Keys, three_of, pair_of, Opens}
use Rattle.vector.specs.Vector.{vector}
use Rattle.vector.specs.Permutation.{Permutes, entries}
use Rattle.stern.specs.Argument.{Setting, Answer1, Answer2, Answer3, one_by2, one_by3, two_by1, two_by3, three_by1, three_by2}
use Rattle.stern.specs.Shortness.{setting, first_of, answer1_of, answer2_of, answer3_of}
use Rattle.round.specs.Layout.{Opening, u_at, v_at, share_at, claim_at, key_at, pairs_of, pair_at, digests_at, opening_of, answer_at}
use Rattle.round.specs.Round.{Round, challenge_at, of_side}
use Rattle.commitment.specs.Parameters.{Parameters}

-- each number of a list is below v
abbrev pub EachBelow : ℕ → List ℕ → Type 0
EachBelow v s = (i : ℕ) → i < length s → get_or s i 0 < v

-- ---- an answer to each challenge, for the committed pairs c and the digests d of its repetition

module _ (q N : ℕ) (k : Keys) (c d : Bytes) where
  abbrev s : Setting
  s = setting q N k c

  -- to 1: P(extended) has L of each of 0, 1, -1; digests 2 and 3 are those of P(R) and of P(extended) + P(R)
  pub record Answered1 (a : Answer1) : Type 0 where
    pub sized : length a.w ≡ 42 * N
    pub balanced : (v : ℕ) → v < 3 → count v a.w ≡ 14 * N  -- 10
    pub digest2 : (first_of d).d2 ≡ sha3 (two_by1 s a)  -- 11
    pub digest3 : (first_of d).d3 ≡ sha3 (three_by1 s a)  -- 11

  -- to 2: P is a permutation; digests 1 and 3 are those of P and the equations applied to extended + R, less their right-hand sides, and of P(extended + R)
  pub record Answered2 (a : Answer2) : Type 0 where
    pub permutes : Permutes (42 * N) (entries a.p)  -- 9
    pub digest1 : (first_of d).d1 ≡ sha3 (one_by2 s a)  -- 11
    pub digest3 : (first_of d).d3 ≡ sha3 (three_by2 s a)  -- 11

  -- to 3: P is a permutation; digests 1 and 2 are those of P and the equations applied to R, and of P(R)
  pub record Answered3 (a : Answer3) : Type 0 where
    pub permutes : Permutes (42 * N) (entries a.p)  -- 9
    pub digest1 : (first_of d).d1 ≡ sha3 (one_by3 s a)  -- 11
    pub digest2 : (first_of d).d2 ≡ sha3 (two_by3 s a)  -- 11

  -- by the challenge
  pub record Answered (challenge : ℕ) (answer : Bytes) : Type 0 where
    pub to1 : challenge ≡ 1 → Answered1 (answer1_of N answer)
    pub to2 : challenge ≡ 2 → Answered2 (answer2_of N answer)
    pub to3 : challenge ≡ 3 → Answered3 (answer3_of N answer)

-- its range: coefficients below q, and the ternary bytes of answer 1
pub record AnswerRanged (q N challenge : ℕ) (answer : Bytes) : Type 0 where
  pub ternary : challenge ≡ 1 → EachBelow 3 (answer1_of N answer).w
  pub to1 : challenge ≡ 1 → EachBelow q (vector (answer1_of N answer).t)
  pub to2 : challenge ≡ 2 → EachBelow q (vector (answer2_of N answer).u)
  pub to3 : challenge ≡ 3 → EachBelow q (vector (answer3_of N answer).r)

-- for the parameters of a sheet, and m ballots
module _ (P : Parameters) (m : ℕ) where
  open P use {q, N, p, B, repeats, a, b, k}

  -- ---- 5: coefficients are below q, claims below p, ternary bytes below 3

  pub record BallotsRanged (ballots : Bytes) : Type 0 where
    pub u : (j : ℕ) → j < m → Below q N (u_at N ballots j)
    pub v : (j : ℕ) → j < m → Below q N (v_at N ballots j)

  -- b0, b1 and the pairs of s0, s1, e0, e1
  pub record HeadRanged (head : Bytes) : Type 0 where
    pub keys : (side : ℕ) → side < 2 → Below q N (key_at N head side)
    pub first_halves : (i : ℕ) → i < 4 → Below q N (pair_of N (pair_at N head i)).one
    pub second_halves : (i : ℕ) → i < 4 → Below q N (pair_of N (pair_at N head i)).two

  pub record OpeningRanged (o : Opening) : Type 0 where
    pub s : Below q N o.s
    pub e : Below q N o.e
    pub rs : EachBelow 3 o.rs
    pub re : EachBelow 3 o.re

  -- ballots, claims, the head of the first message, and the shares of both sides
  pub record MessageRanged (ballots claims head shares0 shares1 : Bytes) : Type 0 where
    pub in_ballots : BallotsRanged ballots
    pub in_claims : EachBelow p claims
    pub in_head : HeadRanged head
    pub in_shares0 : EachBelow q (vector shares0)
    pub in_shares1 : EachBelow q (vector shares1)

  pub record InRange (r : Round) : Type 0 where
    pub side : r.side < 2
    pub challenges : (i : ℕ) → i < repeats → (1 ≤ challenge_at r i) × (challenge_at r i ≤ 3)
    pub answers : (i : ℕ) → i < repeats → AnswerRanged q N (challenge_at r i) (answer_at N r.challenges r.answers i)
    pub message : MessageRanged r.ballots r.claims r.head r.shares0 r.shares1
    pub opening : OpeningRanged (opening_of N r.opening)

  -- ---- 6: b0 + b1 is b

  abbrev pub KeySplits : (head : Bytes) → Type 0
  KeySplits head = Alike q N (plus (key_at N head 0) (key_at N head 1)) b

  -- ---- the opening of a side, against the first message, the ballots and the claims

  pub record SideOpened (ballots claims head shares0 shares1 : Bytes) (side : ℕ) (o : Opening) : Type 0 where
    -- 7: the opened b_i is a s_i + p e_i
    pub key_opened : Alike q N (key_at N head side) (key q N p a o.s o.e)
    -- 8: the pairs of s_i and e_i are those of the opening
    pub s_committed : Opens q N k (pair_of N (pair_at N head side)) (three_of q N o.rs) o.s
    pub e_committed : Opens q N k (pair_of N (pair_at N head (2 + side))) (three_of q N o.re) o.e
    -- 12: the mask of each ballot, worked out from the opened side's share, is at most B
    pub masked : (j : ℕ) → j < m → Bounded N B (recovered_mask q N p o.s (u_at N ballots j) (share_at N (of_side side shares0 shares1) j))
    -- 13: the claim of each ballot is the vote
    pub claimed : (j : ℕ) → j < m → claim_at N claims j ≡ list N (reconstructed q p (v_at N ballots j) (share_at N shares0 j) (share_at N shares1 j))

  -- ---- all of it

  pub record Accepted (r : Round) : Type 0 where
    pub in_range : InRange r  -- 5
    pub key_splits : KeySplits r.head  -- 6
    pub opened : SideOpened r.ballots r.claims r.head r.shares0 r.shares1 r.side (opening_of N r.opening)  -- 7, 8, 12, 13
    -- 9, 10, 11: each repetition is answered
    pub answered : (i : ℕ) → i < repeats → Answered q N k (pairs_of N r.head) (digests_at N r.head i) (challenge_at r i) (answer_at N r.challenges r.answers i)
