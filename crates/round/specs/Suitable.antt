-- Material from which the producer writes a round (document 01, "One round", third paragraph, and the producer's order), in propositions to hold against the paper: no
-- test stands in them, and the numbers beside them are those of the refusals that they exclude. The lengths (1) stand apart: `MaterialSized`, specs/Producer.antt. Assumes nothing.
use Rattle.std.specs.Prelude.{ℕ, ◌*◌, ◌≤◌, ◌<◌, get_or}
use Rattle.codec.specs.Bytes.{Bytes}
use Rattle.ring.specs.Poly.{Alike, Below}
use Rattle.ring.specs.Slots.{poly}
use Rattle.bgv.specs.Scheme.{Bounded, Small, key, noise_in, lent_mask}
use Rattle.vector.specs.Vector.{vector}
use Rattle.vector.specs.Permutation.{Permutes, entries}
use Rattle.round.specs.Layout.{u_at, v_at}
use Rattle.commitment.specs.Parameters.{Parameters}
use Rattle.round.specs.Accepted.{EachBelow, BallotsRanged}
use Rattle.round.specs.Producer.{Material, secret_s, secret_e, mask_at, permutation_at}

-- for the parameters of a sheet, and m ballots
module _ (P : Parameters) (m : ℕ) (x : Material) where
  open P use {q, N, p, B, D, repeats, a, b}

  pub record Suitable : Type 0 where
    -- 5: s, e and every r are ternary bytes; s0, e0, every R and the ballots have coefficients below q
    pub ternary : EachBelow 3 x.secrets
    pub s0 : Below q N (poly x.s0)
    pub e0 : Below q N (poly x.e0)
    pub vectors : EachBelow q (vector x.vectors)
    pub ballots : BallotsRanged P m x.ballots
    -- 14: a s + p e is b
    pub matches : Alike q N (key q N p a (secret_s P m x) (secret_e P m x)) b
    -- 12: every E, as it is lent, is at most B in size
    pub masked : (side j : ℕ) → side < 2 → j < m → Bounded N B (lent_mask (mask_at P m x side j))
    -- 9: every P is a permutation of 3L places
    pub permuting : (i : ℕ) → i < repeats → Permutes (42 * N) (entries (permutation_at P m x i))
    -- 15: the noise of every ballot, v - s u centred, is at most D in size
    pub quiet : (j : ℕ) → j < m → Small q N D (noise_in q N (secret_s P m x) (u_at N x.ballots j) (v_at N x.ballots j))

  -- what the second call is given beside the material (5): a side, and a challenge for each repetition
  pub record Asked (side : ℕ) (challenges : Bytes) : Type 0 where
    pub side_ranged : side < 2
    pub challenges_ranged : (i : ℕ) → i < repeats → (1 ≤ get_or challenges i 0) × (get_or challenges i 0 ≤ 3)
