-- The producer of a round (document 01, "One round", third paragraph, and the producer's order): what it is lent, what it refuses, and what its two calls write.
-- Assumes nothing.
use Rattle.std.specs.Prelude.{◌≡◌, Bool, not, ◌&&◌, List, [], ◌∷◌, ◌++◌, ℕ, zero, suc, ◌+◌, ◌*◌, ltb, length, get_or}
use Rattle.codec.specs.Bytes.{Bytes, part, same}
use Rattle.codec.specs.Reply.{Test, test}
use Rattle.codec.specs.Lists.{list, all_below, all}
use Rattle.ring.specs.Poly.{Poly}
use Rattle.ring.specs.Slots.{coefficient_bytes, poly}
use Rattle.ring.specs.Ternary.{ternary}
use Rattle.bgv.specs.Scheme.{centred, key, noise_in, decrypted, other, share, lent_mask, within}
use Rattle.commitment.specs.Commitment.{Keys, three_of, committed, pair_bytes}
use Rattle.vector.specs.Vector.{vector}
use Rattle.vector.specs.Permutation.{entries, permutes}
use Rattle.stern.specs.Argument.{Drawn}
use Rattle.stern.specs.Shortness.{drawn_of, honest_digests, honest_answer}
use Rattle.round.specs.Layout.{joined, ballot_length, u_at, v_at, ballots_below}
use Rattle.round.specs.Round.{Round, is_challenge}
use Rattle.commitment.specs.Parameters.{Parameters}

-- what both calls are lent: s, e and the three r of s0, of s1, of e0, of e1 in ternary bytes; s0, e0; E of both sides; every R, P and salt; the ballots
pub record Material : Type 0 where
  pub secrets : Bytes
  pub s0 : Bytes
  pub e0 : Bytes
  pub masks0 : Bytes
  pub masks1 : Bytes
  pub vectors : Bytes
  pub permutations : Bytes
  pub salts : Bytes
  pub ballots : Bytes

-- the same from the slices one by one
abbrev pub material_of : (secrets s0 e0 masks0 masks1 vectors permutations salts ballots : Bytes) → Material
material_of secrets s0 e0 masks0 masks1 vectors permutations salts ballots = record {
  secrets = secrets;
  s0 = s0;
  e0 = e0;
  masks0 = masks0;
  masks1 = masks1;
  vectors = vectors;
  permutations = permutations;
  salts = salts;
  ballots = ballots;
}

-- ---- what stands in the material, each part over the slices that it is read from

-- the half of a secret by side, from its ternary bytes and its half 0
abbrev pub half_of : (q : ℕ) (secret half : Bytes) → ℕ → Poly
half_of q secret half zero = poly half
half_of q secret half (suc i) = other q (ternary q secret) (poly half)

module _ (N : ℕ) where
  -- s and e, in ternary bytes
  abbrev pub s_in : (secrets : Bytes) → Bytes
  s_in secrets = part secrets 0 N

  abbrev pub e_in : (secrets : Bytes) → Bytes
  e_in secrets = part secrets N N

  -- the three r of s_i and of e_i, in ternary bytes
  abbrev pub hides_sin : (secrets : Bytes) → ℕ → Bytes
  hides_sin secrets i = part secrets (2 * N + 3 * N * i) (3 * N)

  abbrev pub hides_ein : (secrets : Bytes) → ℕ → Bytes
  hides_ein secrets i = part secrets (8 * N + 3 * N * i) (3 * N)

  -- E of one side for ballot j
  abbrev pub mask_in : (masks : Bytes) → ℕ → Bytes
  mask_in masks j = part masks (8 * N * j) (8 * N)

  -- what is drawn for repetition i
  abbrev pub permutation_in : (permutations : Bytes) → ℕ → Bytes
  permutation_in permutations i = part permutations (168 * N * i) (168 * N)

  abbrev pub drawn_in : (vectors permutations salts : Bytes) → ℕ → Drawn
  drawn_in vectors permutations salts i = drawn_of (permutation_in permutations i) (part vectors (336 * N * i) (336 * N)) (part salts (96 * i) 96)

-- ---- the order after the lengths, 5, 14, 12, 9, 15, in stretches over what they read

-- 5: ternary bytes, and coefficients below q
abbrev pub material_ranged : (q N m : ℕ) (secrets s0 e0 vectors ballots : Bytes) → Bool
material_ranged q N m secrets s0 e0 vectors ballots =
    all_below 3 secrets
    && (all_below q (list N (poly s0))
    && (all_below q (list N (poly e0))
    && (all_below q (vector vectors)
    && ballots_below q N m ballots)))

-- 14: a s + p e is b
abbrev pub key_matches : (P : Parameters) (secrets : Bytes) → Bool
key_matches P secrets =
    same (coefficient_bytes P.q P.N (key P.q P.N P.p P.a (ternary P.q (s_in P.N secrets)) (ternary P.q (e_in P.N secrets)))) (coefficient_bytes P.q P.N P.b)

-- 5 and 14. `asked` says whether what a call is given beside the material is in range; the first call is given nothing
abbrev pub secret_tests : (P : Parameters) (m : ℕ) (asked : Bool) (secrets s0 e0 vectors ballots : Bytes) → List Test
secret_tests P m asked secrets s0 e0 vectors ballots =
    test 5 0 (not (asked && material_ranged P.q P.N m secrets s0 e0 vectors ballots)) ∷ test 14 0 (not (key_matches P secrets)) ∷ []

-- 12: every E is at most B in size, by ballot
abbrev pub mask_tests : (N B m : ℕ) (masks0 masks1 : Bytes) → List Test
mask_tests N B m masks0 masks1 = joined m (λ j. test 12 j (not (within B N (lent_mask (mask_in N masks0 j)) && within B N (lent_mask (mask_in N masks1 j)))) ∷ [])

-- 9: every P is a permutation, by repetition
abbrev pub permutation_tests : (N repeats : ℕ) (permutations : Bytes) → List Test
permutation_tests N repeats permutations = joined repeats (λ i. test 9 i (not (permutes (42 * N) (entries (permutation_in N permutations i)))) ∷ [])

-- 15: the noise, v - s u centred, is at most D in size, by ballot
abbrev pub noise_tests : (q N D m : ℕ) (secrets ballots : Bytes) → List Test
noise_tests q N D m secrets ballots =
    joined m (λ j. test 15 j (not (within D N (centred q (noise_in q N (ternary q (s_in N secrets)) (u_at N ballots j) (v_at N ballots j))))) ∷ [])

-- ---- what is written, each part over the slices that it is made from

-- a committed pair, with its three r in ternary bytes
abbrev pub committed_pair : (q N : ℕ) (k : Keys) (hides : Bytes) → Poly → Bytes
committed_pair q N k hides f = pair_bytes q N (committed q N k (three_of q N hides) f)

module _ (q N : ℕ) (secrets s0 e0 : Bytes) where
  -- the opening of a side
  abbrev pub opening_bytes : ℕ → Bytes
  opening_bytes side =
      coefficient_bytes q N (half_of q (s_in N secrets) s0 side) ++ (coefficient_bytes q N (half_of q (e_in N secrets) e0 side) ++ (hides_sin N secrets side ++ hides_ein N secrets side))

  -- the committed pairs of s0, s1, e0, e1
  unfoldable pub pairs_bytes : (k : Keys) → Bytes
  pairs_bytes k =
      committed_pair q N k (hides_sin N secrets 0) (half_of q (s_in N secrets) s0 0)
      ++ (committed_pair q N k (hides_sin N secrets 1) (half_of q (s_in N secrets) s0 1)
      ++ (committed_pair q N k (hides_ein N secrets 0) (half_of q (e_in N secrets) e0 0)
      ++ committed_pair q N k (hides_ein N secrets 1) (half_of q (e_in N secrets) e0 1)))

  -- b_i
  abbrev pub key_bytes_of : (p : ℕ) (a : Poly) → ℕ → Bytes
  key_bytes_of p a side = coefficient_bytes q N (key q N p a (half_of q (s_in N secrets) s0 side) (half_of q (e_in N secrets) e0 side))

-- by repetition: the digests, and the answers to challenges
module _ (q N repeats : ℕ) (secrets vectors permutations salts : Bytes) where
  abbrev pub digests_bytes : (k : Keys) → Bytes
  digests_bytes k = joined repeats (λ i. honest_digests q N k secrets (drawn_in N vectors permutations salts i))

  abbrev pub answers_bytes : (challenges : Bytes) → Bytes
  answers_bytes challenges = joined repeats (λ i. honest_answer q N secrets (drawn_in N vectors permutations salts i) (get_or challenges i 0))

-- the whole head
abbrev pub head_bytes : (P : Parameters) (secrets s0 e0 vectors permutations salts : Bytes) → Bytes
head_bytes P secrets s0 e0 vectors permutations salts =
    let b : ℕ → Bytes = key_bytes_of P.q P.N secrets s0 e0 P.p P.a in
    b 0 ++ (b 1 ++ (pairs_bytes P.q P.N secrets s0 e0 P.k ++ digests_bytes P.q P.N P.repeats secrets vectors permutations salts P.k))

-- by ballot: the shares of a side, and the decrypted votes
module _ (q N p m : ℕ) (secrets : Bytes) where
  abbrev pub shares_bytes : (s0 masks ballots : Bytes) → ℕ → Bytes
  shares_bytes s0 masks ballots side = joined m (λ j. coefficient_bytes q N (share q N p (half_of q (s_in N secrets) s0 side) (u_at N ballots j) (lent_mask (mask_in N masks j))))

  abbrev pub claims_bytes : (ballots : Bytes) → Bytes
  claims_bytes ballots = joined m (λ j. list N (decrypted q N p (ternary q (s_in N secrets)) (u_at N ballots j) (v_at N ballots j)))

-- ---- the same of the whole material, for the parameters of a sheet and m ballots

module _ (P : Parameters) (m : ℕ) (x : Material) where
  open P use {q, N, p, B, D, repeats}

  -- the secret
  abbrev pub secret_s : Poly
  secret_s = ternary q (s_in N x.secrets)

  abbrev pub secret_e : Poly
  secret_e = ternary q (e_in N x.secrets)

  -- E of a side for ballot j
  abbrev pub masks_of : ℕ → Bytes
  masks_of zero = x.masks0
  masks_of (suc i) = x.masks1

  abbrev pub mask_at : (side j : ℕ) → Bytes
  mask_at side j = mask_in N (masks_of side) j

  -- the P of repetition i
  abbrev pub permutation_at : ℕ → Bytes
  permutation_at = permutation_in N x.permutations

  -- the lengths, which refusal 1 asks for
  pub record MaterialSized : Type 0 where
    pub secrets : length x.secrets ≡ 14 * N
    pub s0 : length x.s0 ≡ 8 * N
    pub e0 : length x.e0 ≡ 8 * N
    pub masks0 : length x.masks0 ≡ 8 * N * m
    pub masks1 : length x.masks1 ≡ 8 * N * m
    pub vectors : length x.vectors ≡ 336 * N * repeats
    pub permutations : length x.permutations ≡ 168 * N * repeats
    pub salts : length x.salts ≡ 96 * repeats
    pub ballots : length x.ballots ≡ ballot_length N * m

  -- ---- the order after the lengths

  -- the side and the challenges that the second call is given
  unfoldable pub asked_ranged : (side : ℕ) (challenges : Bytes) → Bool
  asked_ranged side challenges = ltb side 2 && all repeats (λ i. is_challenge (get_or challenges i 0))

  unfoldable pub producer_tests : (asked : Bool) → List Test
  producer_tests asked =
      secret_tests P m asked x.secrets x.s0 x.e0 x.vectors x.ballots
      ++ (mask_tests N B m x.masks0 x.masks1
      ++ (permutation_tests N repeats x.permutations
      ++ noise_tests q N D m x.secrets x.ballots))

  -- ---- the first call: the first message and the claims

  unfoldable pub produced_head : Bytes
  produced_head = head_bytes P x.secrets x.s0 x.e0 x.vectors x.permutations x.salts

  unfoldable pub produced_shares : ℕ → Bytes
  produced_shares side = shares_bytes q N p m x.secrets x.s0 (masks_of side) x.ballots side

  -- the decrypted votes
  unfoldable pub produced_claims : Bytes
  produced_claims = claims_bytes q N p m x.secrets x.ballots

  -- ---- the second call: the opening of a side, and the answers to challenges

  unfoldable pub produced_opening : ℕ → Bytes
  produced_opening = opening_bytes q N x.secrets x.s0 x.e0

  unfoldable pub produced_answers : Bytes → Bytes
  produced_answers = answers_bytes q N repeats x.secrets x.vectors x.permutations x.salts

  -- the round as a check is lent it
  abbrev pub produced_round : (side : ℕ) (challenges : Bytes) → Round
  produced_round side challenges = record {
    side = side;
    challenges = challenges;
    ballots = x.ballots;
    claims = produced_claims;
    head = produced_head;
    shares0 = produced_shares 0;
    shares1 = produced_shares 1;
    opening = produced_opening side;
    answers = produced_answers challenges;
  }
