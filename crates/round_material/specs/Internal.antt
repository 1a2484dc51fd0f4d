-- What the contracts of inner functions and the proofs go by: no exported contract and no claim cites this file. Assumes nothing.
use Rattle.std.specs.Prelude.{◌≡◌, Bool, true, ℕ, ◌*◌, length}
use Rattle.codec.specs.Bytes.{Bytes, zeros}
use Rattle.codec.specs.Reply.{first, Reply}
use Rattle.sheet_numbers.specs.declared.Numbers.{Numbers}
use Rattle.round.specs.Layout.{ballot_length, ballots_below}
use Rattle.commitment.specs.Parameters.{Parameters}
use Rattle.round.specs.Producer.{Material, producer_tests}

-- ---- what the tests of the producer's material answer and leave

-- what the tests by ballot and by repetition are given: the secrets, E of both sides, every P and the ballots, of right lengths, and the ballots in range
pub record EachReady (k : Numbers) (count : ℕ) (s E0 E1 ps bs : Bytes) : Type 0 where
  pub secrets : length s ≡ 14 * k.ring
  pub masks0 : length E0 ≡ 8 * k.ring * count
  pub masks1 : length E1 ≡ 8 * k.ring * count
  pub permutations : length ps ≡ 168 * k.ring * k.repeats
  pub ballots : length bs ≡ ballot_length k.ring * count
  pub below : ballots_below k.modulus k.ring count bs ≡ true

-- the reply for `count` ballots, and scratch, which is given back zeroed
pub record MaterialTested (P : Parameters) (count : ℕ) (x : Material) (asked : Bool) (reply : Reply) (scratch scratch' : Bytes) : Type 0 where
  pub replied : reply ≡ first (producer_tests P count x asked)
  pub cleared : scratch' ≡ zeros (length scratch)
