-- What the contracts of inner functions and the proofs go by: no exported contract and no claim cites this file. Assumes nothing.
use Rattle.std.specs.Prelude.{◌≡◌, true, ℕ, ◌*◌, ◌<◌, length}
use Rattle.codec.specs.Bytes.{Bytes}
use Rattle.codec.specs.Lists.{all_below}
use Rattle.vector.specs.Vector.{vector}
use Rattle.vector.specs.Permutation.{entries, permutes}
use Rattle.round.specs.Producer.{permutation_in}

-- ---- what the writing of a round is given once the material passed all tests: the unknowns, and what is drawn for the repetitions

-- the unknowns, and what is drawn for each repetition
pub record Drawings (q N repeats : ℕ) (secrets vectors permutations salts : Bytes) : Type 0 where
  pub secrets_sized : length secrets ≡ 14 * N
  pub vectors_sized : length vectors ≡ 336 * N * repeats
  pub permutations_sized : length permutations ≡ 168 * N * repeats
  pub salts_sized : length salts ≡ 96 * repeats
  pub below : all_below q (vector vectors) ≡ true
  pub permuting : (i : ℕ) → i < repeats → permutes (42 * N) (entries (permutation_in N permutations i)) ≡ true
