-- Turns come: a whole count, from a newly cleared session to its last check, so that what is claimed of rounds at their turn (specs/Claims.antt) is not empty. Assumes nothing.
use Rattle.std.specs.Prelude.{◌≡◌, ◌≢◌, ℕ, ◌+◌, ◌^◌, ◌≤◌, ◌<◌, length, drop}
use mathlib.Core.List.{List, ◌∷◌, ◌++◌, flatten}
use Rattle.codec.specs.Bytes.{Bytes, zeros}
use Rattle.codec.specs.Lists.{list}
use Rattle.sheet.specs.Reader.{sheet_of}
use Rattle.scratch.specs.Call.{scratch_length}
use Rattle.vector.specs.Vector.{vector}
use Rattle.round.specs.Layout.{ballot_length}
use Rattle.commitment.specs.Parameters.{Parameters, parameters_of}
use Rattle.round.specs.Accepted.{EachBelow}
use Rattle.round.specs.Producer.{Material, MaterialSized, produced_head, produced_shares, produced_claims, produced_opening, produced_answers}
use Rattle.round.specs.Suitable.{Suitable}
use Rattle.session_check.specs.Stored.{Inputs, inputs_of}
use Rattle.register.specs.Register.{mark_of}
use Rattle.session_digests.specs.Draw.{drawn_side, drawn_challenges}
use Rattle.session.specs.Machine.{Step, admit, withdraw, close, claim, commit, draw, check}

-- m ballots, material for each round, claims and a seed
module _ (sheet : Bytes) (m : ℕ) (ballot : ℕ → Bytes) (material : ℕ → Material) (claims seed : Bytes) where
  abbrev P : Parameters
  P = parameters_of sheet

  abbrev pub rounds_of : ℕ
  rounds_of = (sheet_of sheet).numbers.rounds

  -- the batch
  abbrev pub batch_bytes : Bytes
  batch_bytes = flatten (list m ballot)

  -- what a check of round k is lent
  abbrev pub inputs_for : ℕ → Inputs
  inputs_for k =
      inputs_of sheet batch_bytes claims (produced_head P m (material k)) (produced_shares P m (material k) 0) (produced_shares P m (material k) 1) (produced_opening P m (material k) (drawn_side seed k))
      (produced_answers P m (material k) (drawn_challenges seed k P.repeats)) (zeros scratch_length)

  abbrev pub commits : ℕ → Step
  commits k = commit k (produced_head P m (material k)) (produced_shares P m (material k) 0) (produced_shares P m (material k) 1)

  abbrev pub checks : ℕ → Step
  checks k = check k (inputs_for k)

  -- with e marks that are withdrawn before any ballot comes
  module _ (e : ℕ) (early : ℕ → ℕ) where
    -- marks and ballots that can be entered, all of them different, and material over the ballots from which the producer writes a round, all with the same votes
    pub record Countable : Type 0 where
      pub some : 0 < m
      pub few : e + m ≤ 4096
      pub early_size : (i : ℕ) → i < e → early i < 2 ^ 32
      pub early_marks : (i j : ℕ) → i < j → j < e → early i ≢ early j
      pub apart : (i j : ℕ) → i < e → j < m → early i ≢ mark_of (ballot j)
      pub ballot_size : (i : ℕ) → i < m → length (ballot i) ≡ ballot_length P.N
      pub ballot_range : (i : ℕ) → i < m → EachBelow P.q (vector (drop 4 (ballot i)))
      pub marks : (i j : ℕ) → i < j → j < m → mark_of (ballot i) ≢ mark_of (ballot j)
      pub over_batch : (k : ℕ) → k < rounds_of → (material k).ballots ≡ batch_bytes
      pub sized : (k : ℕ) → k < rounds_of → MaterialSized P m (material k)
      pub suitable : (k : ℕ) → k < rounds_of → Suitable P m (material k)
      pub votes : (k : ℕ) → k < rounds_of → produced_claims P m (material k) ≡ claims
      pub seed_size : length seed ≡ 32

    -- these marks withdrawn, every ballot admitted, the batch closed, the claims, every round's first message, the seed, and every round's check
    unfoldable pub election : List Step
    election =
        list e (λ i. withdraw (early i))
        ++ (list m (λ i. admit (ballot i)) ++ (close ∷ claim claims ∷ (list rounds_of commits ++ (draw seed ∷ list rounds_of checks))))
