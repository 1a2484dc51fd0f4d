-- What the calls for tests answer: 0 taken, else the first test that holds, with document 01's numbers. The plain numbers are tested first (5), then lengths (1), then
-- what stands in the slices (5, and 9 for P). Assumes nothing.
use Rattle.std.specs.Prelude.{◌≡◌, Bool, not, ◌&&◌, List, [], ◌∷◌, ℕ, ◌*◌, ◌^◌, eqb, leb, ltb, length}
use Rattle.codec.specs.Bytes.{Bytes}
use Rattle.codec.specs.Reply.{Test, test, first, leaves, packed, Reply}
use Rattle.codec.specs.Lists.{all_below}
use Rattle.scratch.specs.Call.{scratch_length, zeroized, length_test}
use Rattle.scratch.specs.Internal.{Free}
use Rattle.commitment.specs.Commitment.{keys_of}
use Rattle.vector.specs.Vector.{vector}
use Rattle.vector.specs.Permutation.{entries, permutes}
use Rattle.stern.specs.Shortness.{answer_length, in_range, answer_tests}

-- a ring size and a modulus that the code takes
unfoldable pub ring_fits : (n q : ℕ) → Bool
ring_fits n q = leb 4 n && (leb n 2048 && (leb 3 q && ltb q (2 ^ 56)))

-- what is lent for a repetition: ternary unknowns, a mask vector below q, a permutation
abbrev pub range_tests : (q n : ℕ) → (x r p : Bytes) → List Test
range_tests q n x r p = test 5 0 (not (all_below 3 x)) ∷ test 5 0 (not (all_below q (vector r))) ∷ test 9 0 (not (permutes (42 * n) (entries p))) ∷ []

-- its lengths, with those of an output and of scratch w
abbrev pub lengths : (x r p salts out w : Bytes) → List ℕ
lengths x r p salts out w = length x ∷ length r ∷ length p ∷ length salts ∷ length out ∷ length w ∷ []

abbrev pub wanted : (n room : ℕ) → List ℕ
wanted n room = 14 * n ∷ 336 * n ∷ 168 * n ∷ 96 ∷ room ∷ scratch_length ∷ []

unfoldable pub digests_reply : (n q : ℕ) → (k x r p salts out w : Bytes) → Reply
digests_reply n q k x r p salts out w =
    first
    (test 5 0 (not (ring_fits n q))
    ∷ test 1 0 (not (eqb (length k) (24 * n)))
    ∷ length_test (lengths x r p salts out w) (wanted n 96)
    ∷ test 5 0 (not (all_below q (vector k)))
    ∷ range_tests q n x r p)

-- a challenge out of range counts as 3, here and below
unfoldable pub answer_reply : (n q challenge : ℕ) → (x r p salts out w : Bytes) → Reply
answer_reply n q challenge x r p salts out w =
    first
    (test 5 0 (not (ring_fits n q))
    ∷ length_test (lengths x r p salts out w) (wanted n (answer_length n challenge))
    ∷ range_tests q n x r p)

-- the keys, the committed pairs, the digests, the answer, and then the tests of the answer
unfoldable pub test_reply : (n q challenge place : ℕ) → (k c d answer w : Bytes) → Reply
test_reply n q challenge place k c d answer w =
    first
    (test 5 0 (not (ring_fits n q))
    ∷ length_test (length k ∷ length c ∷ length d ∷ length answer ∷ length w ∷ []) (24 * n ∷ 64 * n ∷ 96 ∷ answer_length n challenge ∷ scratch_length ∷ [])
    ∷ test 5 0 (not (all_below q (vector k) && (all_below q (vector c) && in_range q n challenge answer)))
    ∷ answer_tests q n (keys_of n k) c d place challenge answer)

-- ---- what the functions answer and leave, for the reply `is` that their tests give

-- the tests: scratch is free where it is zeroized behind them
pub record Sifted (is reply : Reply) (scratch scratch' : Bytes) : Type 0 where
  pub replied : reply ≡ is
  pub used : zeroized reply scratch' ≡ zeroized reply scratch
  pub kept : Free scratch scratch'

-- a call: the one number that it answers, and what it leaves in each slice
pub record CallAnswered (is : Reply) (writes : Bytes) (answer : ℕ) (out out' scratch scratch' : Bytes) : Type 0 where
  pub replied : answer ≡ packed is
  pub written : out' ≡ leaves is writes out
  pub cleared : scratch' ≡ zeroized is scratch

-- a call that writes nothing
pub record CallTold (is : Reply) (answer : ℕ) (scratch scratch' : Bytes) : Type 0 where
  pub replied : answer ≡ packed is
  pub cleared : scratch' ≡ zeroized is scratch
