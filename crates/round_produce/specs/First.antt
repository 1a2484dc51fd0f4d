-- What the producer's first call leaves in the room that it is lent. Assumes nothing.
use Rattle.std.specs.Prelude.{◌≡◌, ℕ}
use Rattle.codec.specs.Reply.{leaves, Reply}
use Rattle.commitment.specs.Parameters.{Parameters}
use Rattle.round.specs.Producer.{Material, produced_head, produced_shares, produced_claims}
use Rattle.round.specs.Writes.{FirstRoom}
use Rattle.round_lengths.specs.Calls.{count_of}

module _ (P : Parameters) (x : Material) (before : FirstRoom) (reply : Reply) (after : FirstRoom) where
  abbrev m : ℕ
  m = count_of P.N x.ballots

  -- the first message and the claims, unless the call is refused
  pub record FirstLeft : Type 0 where
    pub head : after.head ≡ leaves reply (produced_head P m x) before.head
    pub shares0 : after.shares0 ≡ leaves reply (produced_shares P m x 0) before.shares0
    pub shares1 : after.shares1 ≡ leaves reply (produced_shares P m x 1) before.shares1
    pub claims : after.claims ≡ leaves reply (produced_claims P m x) before.claims
