-- The extractor (document 01, the extractor's order; the third demand): its tests, what it answers, and what an answer says. Assumes nothing.
use Rattle.std.specs.Prelude.{◌≡◌, Bool, cond, not, ◌&&◌, ◌⊎◌, ◌≢◌, List, ◌∷◌, ◌++◌, ℕ, ◌*◌, ◌<◌, ◌%◌, ltb, eqb, length}
use Rattle.codec.specs.Bytes.{Bytes, Octets, part, same, zeros}
use Rattle.codec.specs.Reply.{Test, test}
use Rattle.codec.specs.Lists.{list, all_below}
use Rattle.sha3.specs.Sponge.{sha3}
use Rattle.ring.specs.Poly.{Poly, modulo, zero_poly, Alike}
use Rattle.ring.specs.Slots.{slot, encode}
use Rattle.ring.specs.Ternary.{ternary}
use Rattle.bgv.specs.Scheme.{Small, key, decrypted, noise_in}
use Rattle.commitment.specs.Commitment.{Three, Alike3, three_of, plus3, minus3, row}
use Rattle.vector.specs.Vector.{vector}
use Rattle.stern.specs.Argument.{Setting, Answer1, Answer2, Answer3, solution, one_by2, one_by3, two_by1, two_by3, three_by1, three_by2}
use Rattle.stern.specs.Shortness.{polynomial, three_from, setting, answer_length, answer1_of, answer2_of, answer3_of, tests1, tests2, tests3, in_range}
use Rattle.round.specs.Layout.{Opening, ballot_length, head_length, u_at, v_at, claim_at, pairs_of, digests_at, opening_of}
use Rattle.round.specs.Round.{ballots_ranged, opening_ranged, head_ranged, split_test, half_tests, votes_tests}
use Rattle.round.specs.Accepted.{EachBelow}
use Rattle.commitment.specs.Parameters.{Parameters}

-- what the extractor is lent: the first message, ballots, claims, both openings, a repetition and its three answers
pub record Openings : Type 0 where
  pub head : Bytes
  pub shares0 : Bytes
  pub shares1 : Bytes
  pub ballots : Bytes
  pub claims : Bytes
  pub opening0 : Bytes
  pub opening1 : Bytes
  pub repetition : ℕ
  pub answer1 : Bytes
  pub answer2 : Bytes
  pub answer3 : Bytes

-- the same from the slices one by one
abbrev pub openings_of : (head shares0 shares1 ballots claims opening0 opening1 : Bytes) (repetition : ℕ) (answer1 answer2 answer3 : Bytes) → Openings
openings_of head shares0 shares1 ballots claims opening0 opening1 repetition answer1 answer2 answer3 = record {
  head = head;
  shares0 = shares0;
  shares1 = shares1;
  ballots = ballots;
  claims = claims;
  opening0 = opening0;
  opening1 = opening1;
  repetition = repetition;
  answer1 = answer1;
  answer2 = answer2;
  answer3 = answer3;
}

-- the room for what it finds, and scratch
pub record ExtractRoom : Type 0 where
  pub out : Bytes
  pub scratch : Bytes

abbrev pub extract_room : (out scratch : Bytes) → ExtractRoom
extract_room out scratch = record { out = out; scratch = scratch }

-- the lengths are right, for m ballots, and the head of the first message is bytes
pub record Lent (P : Parameters) (m : ℕ) (x : Openings) : Type 0 where
  pub head : length x.head ≡ head_length P.N P.repeats
  pub octets : Octets x.head
  pub shares0 : length x.shares0 ≡ 8 * P.N * m
  pub shares1 : length x.shares1 ≡ 8 * P.N * m
  pub ballots : length x.ballots ≡ ballot_length P.N * m
  pub claims : length x.claims ≡ P.N * m
  pub opening0 : length x.opening0 ≡ 22 * P.N
  pub opening1 : length x.opening1 ≡ 22 * P.N
  pub answer1 : length x.answer1 ≡ answer_length P.N 1
  pub answer2 : length x.answer2 ≡ answer_length P.N 2
  pub answer3 : length x.answer3 ≡ answer_length P.N 3

-- two different strings with one SHA3-256
pub record Collision (u v : Bytes) : Type 0 where
  pub differ : u ≢ v
  pub collide : sha3 u ≡ sha3 v

-- ---- what it writes

-- three polynomials modulo q in 24N bytes
abbrev pub three_bytes : (q N : ℕ) → Three → Bytes
three_bytes q N r = encode N (modulo q r.r1) ++ (encode N (modulo q r.r2) ++ encode N (modulo q r.r3))

-- and read from them
abbrev pub vector_of : ℕ → Bytes → Three
vector_of N w = record { r1 = slot w 0; r2 = slot w (8 * N); r3 = slot w (16 * N) }

abbrev pub zero3 : Three
zero3 = record { r1 = zero_poly; r2 = zero_poly; r3 = zero_poly }

-- whether they are zero modulo q
abbrev pub is_zero : (q N : ℕ) → Three → Bool
is_zero q N r = same (three_bytes q N r) (zeros (24 * N))

-- ternary bytes of numbers that are 0, 1 or -1 modulo q
abbrev pub ternary_bytes : (q N : ℕ) → Poly → Bytes
ternary_bytes q N f = list N (λ i. cond (eqb (f i % q) 1) 1 (cond (eqb (f i % q) 0) 0 2))

-- ---- stretches of its order

module _ (P : Parameters) where
  open P use {q, N, p, B, k}

  -- of a side's opening, for m ballots: 7, 8; by ballot 12, 13
  abbrev pub side_tests : (m : ℕ) (head ballots claims shares0 shares1 : Bytes) (side : ℕ) (shares : Bytes) → Opening → List Test
  side_tests m head ballots claims shares0 shares1 side shares o =
      half_tests P head side o ++ votes_tests q N p B m o.s ballots claims shares0 shares1 shares

  -- of the three answers in repetition i, by answer 9, 10, 11; the place is the repetition
  abbrev pub three_tests : (head : Bytes) (i : ℕ) (answer1 answer2 answer3 : Bytes) → List Test
  three_tests head i answer1 answer2 answer3 =
      tests1 q N k (pairs_of N head) (digests_at N head i) i (answer1_of N answer1)
      ++ (tests2 q N k (pairs_of N head) (digests_at N head i) i (answer2_of N answer2)
      ++ tests3 q N k (pairs_of N head) (digests_at N head i) i (answer3_of N answer3))

module _ (P : Parameters) (m : ℕ) (x : Openings) where
  open P use {q, N, p, D, repeats, a, b, k}

  abbrev pub pairs : Bytes
  pairs = pairs_of N x.head

  abbrev pub digests : Bytes
  digests = digests_at N x.head x.repetition

  abbrev pub open0 : Opening
  open0 = opening_of N x.opening0

  abbrev pub open1 : Opening
  open1 = opening_of N x.opening1

  -- ---- the order after the lengths: 5, 6; for side 0 and then 1: 7, 8 and by ballot 12, 13; then by answer 9, 10, 11

  unfoldable pub lent_ranged : Bool
  lent_ranged =
      ltb x.repetition repeats
      && (ballots_ranged P m x.ballots
      && (all_below p x.claims
      && (head_ranged q N x.head
      && (all_below q (vector x.shares0)
      && (all_below q (vector x.shares1)
      && (opening_ranged q N x.opening0
      && (opening_ranged q N x.opening1
      && (in_range q N 1 x.answer1
      && (in_range q N 2 x.answer2
      && in_range q N 3 x.answer3)))))))))

  -- after 5
  abbrev pub extract_later : List Test
  extract_later =
      split_test P x.head
      ∷ (side_tests P m x.head x.ballots x.claims x.shares0 x.shares1 0 x.shares0 open0
      ++ (side_tests P m x.head x.ballots x.claims x.shares0 x.shares1 1 x.shares1 open1
      ++ three_tests P x.head x.repetition x.answer1 x.answer2 x.answer3))

  unfoldable pub extract_tests : List Test
  extract_tests = test 5 0 (not lent_ranged) ∷ extract_later

  -- ---- what it finds

  -- the shortness argument, and the three answers as they are read
  abbrev pub argument : Setting
  argument = setting q N k pairs

  abbrev pub read1 : Answer1
  read1 = answer1_of N x.answer1

  abbrev pub read2 : Answer2
  read2 = answer2_of N x.answer2

  abbrev pub read3 : Answer3
  read3 = answer3_of N x.answer3

  -- the unknowns of the answers
  abbrev pub unknowns : List ℕ
  unknowns = solution argument read2 read3

  -- the openings' summed r less the extracted summed r, for s and for e
  abbrev pub vector_s : Three
  vector_s = minus3 q (plus3 (three_of q N open0.rs) (three_of q N open1.rs)) (plus3 (three_from N unknowns 2) (three_from N unknowns 5))

  abbrev pub vector_e : Three
  vector_e = minus3 q (plus3 (three_of q N open0.re) (three_of q N open1.re)) (plus3 (three_from N unknowns 8) (three_from N unknowns 11))

  -- 1, 2, 3: the lowest digest whose two strings differ; 4: the vector for s; 5: the vector for e; 6: the key
  unfoldable pub kind : ℕ
  kind =
      cond (not (same (one_by2 argument read2) (one_by3 argument read3))) 1
      (cond (not (same (two_by1 argument read1) (two_by3 argument read3))) 2
      (cond (not (same (three_by1 argument read1) (three_by2 argument read2))) 3
      (cond (not (is_zero q N vector_s)) 4
      (cond (not (is_zero q N vector_e)) 5 6))))

  -- its 24N output bytes: zeros for a collision, the vector, or s and e as ternary bytes and then zeros
  unfoldable pub extracted : Bytes
  extracted =
      cond (ltb kind 4) (zeros (24 * N))
      (cond (ltb kind 5) (three_bytes q N vector_s)
      (cond (ltb kind 6) (three_bytes q N vector_e) (ternary_bytes q N (polynomial N unknowns 0) ++ (ternary_bytes q N (polynomial N unknowns 1) ++ zeros (22 * N)))))

  -- ---- what the answers say (the third demand)

  -- a coefficient that is not 0 modulo q
  pub record Nonzero (f : Poly) : Type 0 where
    pub place : ℕ
    pub below : place < N
    pub differs : f place % q ≢ 0

  -- a nonzero vector of centred size at most 4 on which the commitment row is zero
  pub record ShortVector (z : Three) : Type 0 where
    pub nonzero : Nonzero z.r1 ⊎ Nonzero z.r2 ⊎ Nonzero z.r3
    pub vanishes : Alike q N (row q N k z) zero_poly
    pub small1 : Small q N 4 z.r1
    pub small2 : Small q N 4 z.r2
    pub small3 : Small q N 4 z.r3

  -- a ternary key that matches b, under which every ballot with noise within D decrypts to its claim
  pub record Key (f g : Poly) : Type 0 where
    pub short_s : Small q N 1 f
    pub short_e : Small q N 1 g
    pub matches : Alike q N (key q N p a f g) b
    pub opens : (j : ℕ) → j < m → Small q N D (noise_in q N f (u_at N x.ballots j) (v_at N x.ballots j))
        → list N (decrypted q N p f (u_at N x.ballots j) (v_at N x.ballots j)) ≡ claim_at N x.claims j

  -- by the kind
  pub data Found : ℕ → Type 0 where
    collision1 : Collision (one_by2 argument read2) (one_by3 argument read3) → Found 1
    collision2 : Collision (two_by1 argument read1) (two_by3 argument read3) → Found 2
    collision3 : Collision (three_by1 argument read1) (three_by2 argument read2) → Found 3
    short_s : ShortVector vector_s → Found 4
    short_e : ShortVector vector_e → Found 5
    secret : Key (polynomial N unknowns 0) (polynomial N unknowns 1) → Found 6

  -- the strings of the answers' digests are bytes, as SHA3-256 takes them: a collision is one of byte strings
  pub record Hashed : Type 0 where
    pub first_by2 : Octets (one_by2 argument read2)
    pub first_by3 : Octets (one_by3 argument read3)
    pub second_by1 : Octets (two_by1 argument read1)
    pub second_by3 : Octets (two_by3 argument read3)
    pub third_by1 : Octets (three_by1 argument read1)
    pub third_by2 : Octets (three_by2 argument read2)

  -- what the 24N output bytes w are, by the kind
  pub record Output (n : ℕ) (w : Bytes) : Type 0 where
    pub sized : length w ≡ 24 * N
    -- 1, 2, 3: all zeros
    pub nothing : n < 4 → w ≡ zeros (24 * N)
    -- 4, 5: a nonzero short vector on which the commitment row is zero, and it is the one for s, or for e
    pub short_s : n ≡ 4 → ShortVector (vector_of N w) × Alike3 q N vector_s (vector_of N w)
    pub short_e : n ≡ 5 → ShortVector (vector_of N w) × Alike3 q N vector_e (vector_of N w)
    -- 6: s and e as ternary bytes, then zeros
    pub ternary_s : n ≡ 6 → EachBelow 3 (part w 0 N)
    pub ternary_e : n ≡ 6 → EachBelow 3 (part w N N)
    pub secret : n ≡ 6 → Key (ternary q (part w 0 N)) (ternary q (part w N N))
    pub rest : n ≡ 6 → part w (2 * N) (22 * N) ≡ zeros (22 * N)

  -- nothing that comes before the kind was there: the two strings of every lower digest are equal, and a vector before it is zero
  pub record Lowest (n : ℕ) : Type 0 where
    pub first : 1 < n → one_by2 argument read2 ≡ one_by3 argument read3
    pub second : 2 < n → two_by1 argument read1 ≡ two_by3 argument read3
    pub third : 3 < n → three_by1 argument read1 ≡ three_by2 argument read2
    pub zero_s : 4 < n → Alike3 q N vector_s zero3
    pub zero_e : 5 < n → Alike3 q N vector_e zero3
