-- What a seed draws for round k (document 01, "Register and session"): the stream of SHA3-256 of seed, k, c for c = 0, 1, .., in 8-byte numbers, gives the side and
-- then each challenge. Assumes nothing.
use Rattle.std.specs.Prelude.{[], ◌∷◌, ◌++◌, ℕ, zero, suc, ◌+◌, ◌*◌, ◌/◌, ◌%◌}
use Rattle.codec.specs.Bytes.{Bytes, bytes, number, part}
use Rattle.sha3.specs.Sponge.{sha3}

-- the c-th digest of the stream
unfoldable pub block : (seed : Bytes) (k c : ℕ) → Bytes
block seed k c = sha3 (seed ++ (bytes 2 k ++ bytes 2 c))

-- its i-th number: four to a digest
unfoldable pub stream : (seed : Bytes) (k i : ℕ) → ℕ
stream seed k i = number (part (block seed k (i / 4)) (8 * (i % 4)) 8)

unfoldable pub drawn_side : (seed : Bytes) (k : ℕ) → ℕ
drawn_side seed k = stream seed k 0 % 2

-- the first n challenges
unfoldable pub drawn_challenges : (seed : Bytes) (k n : ℕ) → Bytes
drawn_challenges seed k zero = []
drawn_challenges seed k (suc n) = drawn_challenges seed k n ++ ((stream seed k (suc n) % 3 + 1) ∷ [])
