-- What the contracts of inner functions and the proofs go by: no exported contract and no claim cites this file. Assumes nothing.
use Rattle.std.specs.Prelude.{Bool, cond, not, ◌&&◌, List, [], ◌∷◌, ◌++◌, ℕ, ◌*◌, take}
use Rattle.codec.specs.Bytes.{Bytes, words, same}
use Rattle.codec.specs.Reply.{Test, test}
use Rattle.sha3.specs.Sponge.{sha3}
use Rattle.commitment.specs.Commitment.{Keys}
use Rattle.vector.specs.Vector.{vector, ternaries, add, subtract}
use Rattle.vector.specs.Permutation.{entries, apply, permutes, balanced}
use Rattle.stern.specs.Argument.{string1, string2, string3}
use Rattle.stern.specs.Shortness.{equations, right_hand_sides}

-- ---- the tests of an answer by its parts: 10, 11 for answer 1, and 9, 11, which answers 2 and 3 have in common

-- w has as many of each, `two` is the digest of t = P(R), and `three` that of w + t
abbrev pub balanced_tests : (q n : ℕ) (two three w t salt2 salt3 : Bytes) (place : ℕ) → List Test
balanced_tests q n two three w t salt2 salt3 place =
    test 10 place (not (balanced (14 * n) w))
    ∷ test 11 place (not (same two (sha3 (string2 salt2 t)) && same three (sha3 (string3 salt3 (add q (ternaries q w) (vector t))))))
    ∷ []

-- p is a permutation; `one` is the digest of the equations of x, less the right-hand sides or not, and `other` that of p applied to x
abbrev pub permuted_tests : (q n : ℕ) → Keys → (c : Bytes) (less : Bool) (one : Bytes) (lead : ℕ) (other p x salt1 salt : Bytes) (place : ℕ) → List Test
permuted_tests q n k c less one lead other p x salt1 salt place =
    test 9 place (not (permutes (42 * n) (entries p)))
    ∷ test 11 place
    (not (same one (sha3 (string1 salt1 p (cond less (subtract q (equations q n k (take (14 * n) (vector x))) (right_hand_sides q n c)) (equations q n k (take (14 * n) (vector x))))))
    && same other (sha3 (lead ∷ (salt ++ words (apply (entries p) (vector x)))))))
    ∷ []
