-- The digests by which a session holds what it was lent (document 01, "Register and session"). Assumes nothing.
use mathlib.Core.List.{List, [], ◌∷◌, ◌++◌, flatten}
use Rattle.std.specs.Prelude.{ℕ, zero, suc, ◌*◌}
use Rattle.codec.specs.Bytes.{Bytes, bytes, part}
use Rattle.sha3.specs.Sponge.{sha3}

-- the digests of m ballots of one length, in order
unfoldable pub ballot_digests : (size m : ℕ) (ballots : Bytes) → List Bytes
ballot_digests size zero ballots = []
ballot_digests size (suc m) ballots = ballot_digests size m ballots ++ (sha3 (part ballots (size * m) size) ∷ [])

-- covers the sheet's digest and the digests of the ballots that are closed, in order of admission
unfoldable pub closing_digest : (sheet : Bytes) → List Bytes → Bytes
closing_digest sheet ds = sha3 (sheet ++ flatten ds)

-- covers the closing digest and the claims
unfoldable pub claim_digest : (closing claims : Bytes) → Bytes
claim_digest closing claims = sha3 (closing ++ claims)

-- covers the claim digest, the round in 2 bytes, and the first message
unfoldable pub round_digest : (claim : Bytes) (round : ℕ) (head shares0 shares1 : Bytes) → Bytes
round_digest claim round head shares0 shares1 = sha3 (claim ++ (bytes 2 round ++ (head ++ (shares0 ++ shares1))))
