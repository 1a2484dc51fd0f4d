-- Rounds over what the extractor is lent (document 01, "first message, ballots, claims, both openings, a repetition number and its three answers"). Assumes nothing.
use Rattle.std.specs.Prelude.{◌≡◌, cond, ℕ, zero, suc, ◌≤◌, ◌<◌, eqb, replicate}
use Rattle.codec.specs.Bytes.{Bytes}
use Rattle.round.specs.Layout.{joined, answer_at}
use Rattle.round.specs.Round.{Round, challenge_at}
use Rattle.round.specs.Extractor.{Openings}
use Rattle.commitment.specs.Parameters.{Parameters}

-- the lent opening of a side, and the lent answer to a challenge
abbrev pub opening_by : Openings → ℕ → Bytes
opening_by x zero = x.opening0
opening_by x (suc i) = x.opening1

abbrev pub answer_by : Openings → ℕ → Bytes
answer_by x c = cond (eqb c 1) x.answer1 (cond (eqb c 2) x.answer2 x.answer3)

-- a round over the lent first message, ballots and claims
pub record OfLent (x : Openings) (r : Round) : Type 0 where
  pub head : r.head ≡ x.head
  pub shares0 : r.shares0 ≡ x.shares0
  pub shares1 : r.shares1 ≡ x.shares1
  pub ballots : r.ballots ≡ x.ballots
  pub claims : r.claims ≡ x.claims

-- one that opens this side, as lent
pub record OpensLent (x : Openings) (side : ℕ) (r : Round) : Type 0 where
  pub of_lent : OfLent x r
  pub side_is : r.side ≡ side
  pub opening : r.opening ≡ opening_by x side

-- one that answers this challenge in the lent repetition, as lent
pub record AnswersLent (N : ℕ) (x : Openings) (c : ℕ) (r : Round) : Type 0 where
  pub of_lent : OfLent x r
  pub challenge : challenge_at r x.repetition ≡ c
  pub answer : answer_at N r.challenges r.answers x.repetition ≡ answer_by x c

-- there is one for each side and challenge: every repetition asks c and is answered as the lent one is
abbrev pub lent_round : Parameters → Openings → (side c : ℕ) → Round
lent_round P x side c = record {
  side = side;
  challenges = replicate P.repeats c;
  ballots = x.ballots;
  claims = x.claims;
  head = x.head;
  shares0 = x.shares0;
  shares1 = x.shares1;
  opening = opening_by x side;
  answers = joined P.repeats (λ i. answer_by x c);
}

-- rounds that open each side, and rounds that answer each challenge; one round may do both
module _ (P : Parameters) (m : ℕ) (x : Openings) (opened answered : ℕ → Round) where
  pub record Lending : Type 0 where
    pub sides : (i : ℕ) → i < 2 → OpensLent x i (opened i)
    pub challenges : (c : ℕ) → 1 ≤ c → c ≤ 3 → AnswersLent P.N x c (answered c)
