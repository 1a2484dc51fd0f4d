-- The strings of the extractor's digests are bytes, since the answers are. Assumes nothing.
use mathlib.Core.List.{List, [], ◌∷◌, ◌++◌}
use Prim.Native.Nat.{ℕ, ◌+◌, ◌*◌, ◌<◌}
use native.Mathlib.Omega.{arith}
use lib.ListN.{take}
use Rattle.codec.specs.Bytes.{Bytes, Octets, bytes, words}
use Rattle.codec.proofs.Laws.{octets_one, octets_part, octets_append}
use Rattle.codec.proofs.Numbers.{bytes_octets}
use Rattle.vector.specs.Vector.{vector, ternaries, add, subtract}
use Rattle.vector.specs.Permutation.{entries, apply}
use Rattle.stern.specs.Argument.{Setting, Answer1, Answer2, Answer3, string1, string2, string3}
use Rattle.stern.specs.Shortness.{setting, answer1_of, answer2_of, answer3_of}
use Rattle.commitment.specs.Parameters.{Parameters}
use Rattle.round.specs.Extractor.{Openings, Hashed, pairs}

octets_words : (xs : List ℕ) → Octets (words xs)
unfolding words
octets_words [] = λ i h. absurd (omega arith)
octets_words (x ∷ xs) = octets_append (bytes 8 x) (words xs) (bytes_octets 8 x) (octets_words xs)

-- a string behind its leading byte
octets_behind : (b : ℕ) (s : Bytes) → b < 256 → Octets s → Octets (b ∷ s)
octets_behind b s l o = octets_append (b ∷ []) s (octets_one b l) o

octets_string1 : (salt p : Bytes) (v : List ℕ) → Octets salt → Octets p → Octets (string1 salt p v)
octets_string1 salt p v os op = octets_behind 1 (salt ++ (p ++ words v)) (omega arith) (octets_append salt (p ++ words v) os (octets_append p (words v) op (octets_words v)))

octets_string2 : (salt v : Bytes) → Octets salt → Octets v → Octets (string2 salt v)
octets_string2 salt v os ov = octets_behind 2 (salt ++ v) (omega arith) (octets_append salt v os ov)

octets_string3 : (salt : Bytes) (v : List ℕ) → Octets salt → Octets (string3 salt v)
octets_string3 salt v os = octets_behind 3 (salt ++ words v) (omega arith) (octets_append salt (words v) os (octets_words v))

pub hashed : (P : Parameters) (m : ℕ) (x : Openings) → Octets x.answer1 → Octets x.answer2 → Octets x.answer3 → Hashed P m x
hashed P m x o1 o2 o3 =
    let n = P.N in
    let s : Setting = setting P.q n P.k (pairs P m x) in
    let a : Answer1 = answer1_of n x.answer1 in
    let b : Answer2 = answer2_of n x.answer2 in
    let c : Answer3 = answer3_of n x.answer3 in
    record {
      first_by2 = octets_string1 b.salt1 b.p (subtract s.q (s.A (take s.L (vector b.u))) s.y) (octets_part x.answer2 (504 * n) 32 o2) (octets_part x.answer2 0 (168 * n) o2);
      first_by3 = octets_string1 c.salt1 c.p (s.A (take s.L (vector c.r))) (octets_part x.answer3 (504 * n) 32 o3) (octets_part x.answer3 0 (168 * n) o3);
      second_by1 = octets_string2 a.salt2 a.t (octets_part x.answer1 (378 * n) 32 o1) (octets_part x.answer1 (42 * n) (336 * n) o1);
      second_by3 = octets_string2 c.salt2 (words (apply (entries c.p) (vector c.r))) (octets_part x.answer3 (504 * n + 32) 32 o3) (octets_words (apply (entries c.p) (vector c.r)));
      third_by1 = octets_string3 a.salt3 (add s.q (ternaries s.q a.w) (vector a.t)) (octets_part x.answer1 (378 * n + 32) 32 o1);
      third_by2 = octets_string3 b.salt3 (apply (entries b.p) (vector b.u)) (octets_part x.answer2 (504 * n + 32) 32 o2);
    }
