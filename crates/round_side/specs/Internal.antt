-- What the contracts of inner functions and the proofs go by: no exported contract and no claim cites this file. Assumes nothing.
use Rattle.std.specs.Prelude.{◌≡◌, Bool, true, ◌&&◌, ℕ, ◌*◌, ◌<◌, length}
use Rattle.codec.specs.Bytes.{Bytes, part}
use Rattle.codec.specs.Lists.{list, all_below, all}
use Rattle.scratch.specs.Internal.{Polynomial}
use Rattle.vector.specs.Vector.{vector}
use Rattle.round.specs.Layout.{head_length, u_at, pairs_of}
use Rattle.round.specs.Round.{Round, head_ranged}
use Rattle.round.specs.Internal.{Batch, SharesLent, Answers}

-- ---- what the inner functions of a check are given: parts of a round that passed the tests of lengths and ranges

-- 5 for m ballots, their claims and a first message
abbrev pub message_ranged : (q n p m : ℕ) (ballots claims head shares0 shares1 : Bytes) → Bool
message_ranged q n p m ballots claims head shares0 shares1 =
    all m (λ j. all_below q (list (2 * n) (u_at n ballots j)))
    && (all_below p claims && (head_ranged q n head && (all_below q (vector shares0) && all_below q (vector shares1))))

-- an opening
pub record Opened (q n : ℕ) (opening : Bytes) : Type 0 where
  pub sized : length opening ≡ 22 * n
  pub s : Polynomial n q (part opening 0 (8 * n))
  pub e : Polynomial n q (part opening (8 * n) (8 * n))

-- the head of a first message
pub record Head (q n repeats : ℕ) (head : Bytes) : Type 0 where
  pub sized : length head ≡ head_length n repeats
  pub b0 : Polynomial n q (part head 0 (8 * n))
  pub b1 : Polynomial n q (part head (8 * n) (8 * n))
  pub pairs : all_below q (vector (pairs_of n head)) ≡ true

-- all that is lent to a check
pub record RoundInRange (q n count repeats : ℕ) (r : Round) : Type 0 where
  pub side : r.side < 2
  pub answers : Answers q n repeats r.challenges r.answers
  pub batch : Batch q n count r.ballots r.claims
  pub head : Head q n repeats r.head
  pub shares0 : SharesLent q n count r.shares0
  pub shares1 : SharesLent q n count r.shares1
  pub opening : Opened q n r.opening
