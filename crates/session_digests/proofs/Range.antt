-- What is drawn is in range: a side below 2, and as many challenges as asked for, each 1, 2 or 3. Assumes nothing.
use mathlib.Core.Path.{◌≡◌, refl, ◌∙◌}
use mathlib.Core.List.{[], ◌∷◌, ◌++◌}
use Prim.Native.Nat.{ℕ, zero, suc, ◌+◌, ◌%◌, ◌≤◌, ◌<◌}
use native.Mathlib.Decide.{ℕ_discrete}
use native.Mathlib.Omega.{arith}
use lib.ListN.{length, get_or, length-append, get_or-append}
use lib.Seq.{get_or_at}
use Rattle.codec.specs.Bytes.{Bytes}
use Rattle.sha3.proofs.Squeezing.{length_sha3}
use Rattle.session_digests.specs.Draw.{block, stream, drawn_side, drawn_challenges}

pub length_block : (seed : Bytes) (k c : ℕ) → length (block seed k c) ≡ 32
unfolding block
length_block seed k c = length_sha3 _

pub side_range : (seed : Bytes) (k : ℕ) → drawn_side seed k < 2
unfolding drawn_side
side_range seed k = omega arith

pub length_challenges : (seed : Bytes) (k n : ℕ) → length (drawn_challenges seed k n) ≡ n
unfolding drawn_challenges
length_challenges seed k zero = refl
length_challenges seed k (suc n) = simp length-append (omega (arith, length_challenges seed k n))

-- challenge i is made of number i + 1 of the stream, however many are drawn
pub challenge_at_lem : (seed : Bytes) (k n i : ℕ) → i < n → get_or (drawn_challenges seed k n) i 0 ≡ stream seed k (suc i) % 3 + 1
unfolding drawn_challenges
challenge_at_lem seed k zero i h = absurd (omega arith)
challenge_at_lem seed k (suc n) i h = go (ℕ_discrete i n) (challenge_at_lem seed k n i)
  where
    go : Dec (i ≡ n) → (i < n → get_or (drawn_challenges seed k n) i 0 ≡ stream seed k (suc i) % 3 + 1)
        → get_or (drawn_challenges seed k n ++ ((stream seed k (suc n) % 3 + 1) ∷ [])) i 0 ≡ stream seed k (suc i) % 3 + 1
    go (yes e) rest = rw e (get_or_at (drawn_challenges seed k n) (stream seed k (suc n) % 3 + 1) [] 0 n (length_challenges seed k n))
    go (no d) rest =
        get_or-append (drawn_challenges seed k n) ((stream seed k (suc n) % 3 + 1) ∷ []) 0 i (omega (arith, length_challenges seed k n))
        ∙ rest (omega arith)

pub challenge_range : (seed : Bytes) (k n i : ℕ) → i < n → (1 ≤ get_or (drawn_challenges seed k n) i 0) × (get_or (drawn_challenges seed k n) i 0 ≤ 3)
challenge_range seed k n i h = let e = challenge_at_lem seed k n i h in (omega arith, omega arith)
