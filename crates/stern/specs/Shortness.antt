-- The shortness argument of a round (document 01, "One round", second paragraph, and "Layouts"): 14N unknowns, the four equations that they meet, and the
-- strings, digests and answers in bytes, with N and q as parameters. Assumes nothing.
use Rattle.std.specs.Prelude.{Bool, cond, not, ◌&&◌, List, [], ◌∷◌, ◌++◌, ℕ, ◌+◌, ◌*◌, eqb, get_or}
use Rattle.codec.specs.Bytes.{Bytes, part, same}
use Rattle.codec.specs.Reply.{Test, test}
use Rattle.codec.specs.Lists.{list, all_below}
use Rattle.sha3.specs.Sponge.{sha3}
use Rattle.ring.specs.Poly.{Poly, plus, modulo}
use Rattle.ring.specs.Slots.{slot}
use Rattle.commitment.specs.Commitment.{Keys, Three, plus3, row, second}
use Rattle.vector.specs.Vector.{vector}
use Rattle.vector.specs.Permutation.{entries, permutes, balanced}
use Rattle.stern.specs.Argument.{Setting, Drawn, First, Answer1, Answer2, Answer3, first_message, answer1, answer2, answer3, one_by2, one_by3, two_by1, two_by3, three_by1, three_by2}

-- ---- the equations

-- polynomial j of a list, N numbers each
unfoldable pub polynomial : ℕ → List ℕ → ℕ → Poly
polynomial N x j = λ k. get_or x (j * N + k) 0

-- three polynomials from the one with number j on
abbrev pub three_from : ℕ → List ℕ → ℕ → Three
three_from N x j = record { r1 = polynomial N x j; r2 = polynomial N x (j + 1); r3 = polynomial N x (j + 2) }

-- the numbers of a polynomial modulo q
abbrev pub list_modulo : (q N : ℕ) → Poly → List ℕ
list_modulo q N f = list N (modulo q f)

-- the unknowns are s, e, then the three r of s0, of s1, of e0, of e1. The left-hand sides: the pair made from s and the summed r of s0 and s1, first half first, then
-- likewise for e
unfoldable pub equations : (q N : ℕ) → Keys → List ℕ → List ℕ
equations q N k x =
    let rs = plus3 (three_from N x 2) (three_from N x 5) in
    let re = plus3 (three_from N x 8) (three_from N x 11) in
    list_modulo q N (row q N k rs)
    ++ (list_modulo q N (second q N k rs (polynomial N x 0))
    ++ (list_modulo q N (row q N k re)
    ++ list_modulo q N (second q N k re (polynomial N x 1))))

-- the right-hand sides: the committed pairs for s0 and s1 added, then those for e0 and e1. The pairs of s0, s1, e0, e1 are 64N bytes
unfoldable pub right_hand_sides : (q N : ℕ) → Bytes → List ℕ
right_hand_sides q N c =
    list_modulo q N (plus (slot c 0) (slot c (16 * N)))
    ++ (list_modulo q N (plus (slot c (8 * N)) (slot c (24 * N)))
    ++ (list_modulo q N (plus (slot c (32 * N)) (slot c (48 * N)))
    ++ list_modulo q N (plus (slot c (40 * N)) (slot c (56 * N)))))

-- Stern's argument for them, with salts of 32 bytes and SHA3-256
abbrev pub setting : (q N : ℕ) → Keys → Bytes → Setting
setting q N k c = record { q = q; L = 14 * N; M = 4 * N; S = 32; A = equations q N k; y = right_hand_sides q N c; H = sha3 }

-- ---- layouts

-- what is drawn for a repetition: P in 168N bytes, R in 336N, three salts in 96
abbrev pub drawn_of : (p r salts : Bytes) → Drawn
drawn_of p r salts = record { p = p; r = r; salt1 = part salts 0 32; salt2 = part salts 32 32; salt3 = part salts 64 32 }

-- the digests of a repetition, 96 bytes
abbrev pub first_of : Bytes → First
first_of d = record { d1 = part d 0 32; d2 = part d 32 32; d3 = part d 64 32 }

abbrev pub first_bytes : First → Bytes
first_bytes f = f.d1 ++ (f.d2 ++ f.d3)

-- answer 1: 378N + 64 bytes; answers 2 and 3: 504N + 64
abbrev pub answer_length : (N challenge : ℕ) → ℕ
answer_length N challenge = cond (eqb challenge 1) (378 * N + 64) (504 * N + 64)

abbrev pub answer1_of : ℕ → Bytes → Answer1
answer1_of N s = record { w = part s 0 (42 * N); t = part s (42 * N) (336 * N); salt2 = part s (378 * N) 32; salt3 = part s (378 * N + 32) 32 }

abbrev pub answer2_of : ℕ → Bytes → Answer2
answer2_of N s = record { p = part s 0 (168 * N); u = part s (168 * N) (336 * N); salt1 = part s (504 * N) 32; salt3 = part s (504 * N + 32) 32 }

abbrev pub answer3_of : ℕ → Bytes → Answer3
answer3_of N s = record { p = part s 0 (168 * N); r = part s (168 * N) (336 * N); salt1 = part s (504 * N) 32; salt2 = part s (504 * N + 32) 32 }

abbrev pub answer1_bytes : Answer1 → Bytes
answer1_bytes a = a.w ++ (a.t ++ (a.salt2 ++ a.salt3))

abbrev pub answer2_bytes : Answer2 → Bytes
answer2_bytes b = b.p ++ (b.u ++ (b.salt1 ++ b.salt3))

abbrev pub answer3_bytes : Answer3 → Bytes
answer3_bytes c = c.p ++ (c.r ++ (c.salt1 ++ c.salt2))

-- ---- what the producer of a round writes for 14N ternary bytes x

-- the digests of a repetition; the committed pairs do not enter
abbrev pub honest_digests : (q N : ℕ) → Keys → Bytes → Drawn → Bytes
honest_digests q N k x drawn = first_bytes (first_message (setting q N k []) x drawn)

-- the bytes of the answer to a challenge; one out of range counts as 3
abbrev pub honest_answer : (q N : ℕ) → Bytes → Drawn → (challenge : ℕ) → Bytes
honest_answer q N x drawn challenge =
    cond (eqb challenge 1) (answer1_bytes (answer1 (14 * N) x drawn)) (cond (eqb challenge 2) (answer2_bytes (answer2 q (14 * N) x drawn)) (answer3_bytes (answer3 drawn)))

-- whether an answer's coefficients are below q, and the ternary bytes of answer 1 below 3
abbrev pub in_range : (q N challenge : ℕ) → Bytes → Bool
in_range q N challenge answer =
    cond (eqb challenge 1) (all_below 3 (answer1_of N answer).w && all_below q (vector (answer1_of N answer).t))
    (cond (eqb challenge 2) (all_below q (vector (answer2_of N answer).u)) (all_below q (vector (answer3_of N answer).r)))

-- ---- the tests of an answer to a challenge of 1, 2, 3, at a place: 9, then 10, then 11

module _ (q N : ℕ) (k : Keys) (c : Bytes) (d : Bytes) where
  abbrev s : Setting
  s = setting q N k c

  -- 9: P is no permutation; 10: not L of each; 11: a digest differs
  abbrev pub tests1 : (place : ℕ) → Answer1 → List Test
  tests1 place a =
      test 10 place (not (balanced (14 * N) a.w))
      ∷ test 11 place (not (same (first_of d).d2 (sha3 (two_by1 s a)) && same (first_of d).d3 (sha3 (three_by1 s a))))
      ∷ []

  abbrev pub tests2 : (place : ℕ) → Answer2 → List Test
  tests2 place b =
      test 9 place (not (permutes (42 * N) (entries b.p)))
      ∷ test 11 place (not (same (first_of d).d1 (sha3 (one_by2 s b)) && same (first_of d).d3 (sha3 (three_by2 s b))))
      ∷ []

  abbrev pub tests3 : (place : ℕ) → Answer3 → List Test
  tests3 place a =
      test 9 place (not (permutes (42 * N) (entries a.p)))
      ∷ test 11 place (not (same (first_of d).d1 (sha3 (one_by3 s a)) && same (first_of d).d2 (sha3 (two_by3 s a))))
      ∷ []

  abbrev pub answer_tests : (place challenge : ℕ) → Bytes → List Test
  answer_tests place challenge answer =
      cond (eqb challenge 1) (tests1 place (answer1_of N answer)) (cond (eqb challenge 2) (tests2 place (answer2_of N answer)) (tests3 place (answer3_of N answer)))
