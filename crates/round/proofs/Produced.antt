-- Where the parts of what the producer writes stand: each layout reads back what was written, for material of the right lengths. Assumes nothing.
use mathlib.Core.Path.{◌≡◌, sym, ap, ◌∙◌}
use mathlib.Core.List.{[], ◌++◌}
use Prim.Native.Nat.{ℕ, zero, suc, ◌+◌, ◌*◌, ◌^◌, ◌≤◌, ◌<◌}
use native.Mathlib.Omega.{arith}
use lib.ListN.{length, get_or, length-append}
use lib.Seq.{take_all}
use Rattle.codec.specs.Bytes.{Bytes, Octets, part}
use Rattle.codec.proofs.Laws.{length_part, part_part, octets_append}
use Rattle.codec.specs.Lists.{list}
use Rattle.codec.proofs.Lists.{length_list}
use Rattle.sha3.proofs.Squeezing.{length_sha3, octets_sha3}
use Rattle.ring.specs.Poly.{Poly, modulo, Alike}
use Rattle.ring.specs.Slots.{coefficient_bytes, encode}
use Rattle.ring.proofs.Bridge.{length_encode}
use Rattle.bgv.specs.Scheme.{key, decrypted, share, lent_mask}
use Rattle.commitment.specs.Commitment.{Pair, pair_bytes}
use Rattle.stern.specs.Argument.{First, first_message}
use Rattle.stern.specs.Shortness.{setting, first_bytes, answer_length, honest_digests, honest_answer}
use Rattle.stern.proofs.Layouts.{four_read}
use Rattle.stern.proofs.Honest.{length_pair_bytes, slot_alike}
use Rattle.round.specs.Layout.{joined, head_length, u_at, v_at, share_at, claim_at, key_at, pairs_of, pair_at, digests_at, opening_of, answers_length, answer_at}
use Rattle.commitment.specs.Parameters.{Parameters}
use Rattle.round.specs.Producer.{Material, MaterialSized, secret_s, mask_at, permutation_at, pairs_bytes, produced_head, produced_shares, produced_claims, produced_opening, produced_answers}
use Rattle.round.specs.Internal.{half_s, half_e, hides_s, hides_e, drawn_at, pair_bytes_of, produced_pairs}
use Rattle.round.proofs.Many.{stretch, length_joined, joined_at}
use Rattle.round.proofs.Written.{octets_encode, octets_joined}
use Rattle.round.proofs.Answers.{length_answers, answers_at, length_honest_answer}

-- three digests are 96 bytes
pub length_digests : (f : First) → length f.d1 ≡ 32 → length f.d2 ≡ 32 → length f.d3 ≡ 32 → length (first_bytes f) ≡ 96
length_digests f e1 e2 e3 = simp length-append (omega arith)

module _ (P : Parameters) (m : ℕ) (x : Material) where
  open P use {q, N, p, repeats, a, k}

  -- ---- the head

  abbrev key_of : ℕ → Poly
  key_of side = key q N p a (half_s P m x side) (half_e P m x side)

  abbrev digests : ℕ → Bytes
  digests i = honest_digests q N k x.secrets (drawn_at P m x i)

  digests_sized : (i : ℕ) → length (digests i) ≡ 96
  digests_sized i = length_digests (first_message (setting q N k []) x.secrets (drawn_at P m x i)) (length_sha3 _) (length_sha3 _) (length_sha3 _)

  abbrev pair_s : ℕ → Bytes
  pair_s side = pair_bytes_of P m x (hides_s P m x side) (half_s P m x side)

  abbrev pair_e : ℕ → Bytes
  pair_e side = pair_bytes_of P m x (hides_e P m x side) (half_e P m x side)

  pairs_sized : length (produced_pairs P m x) ≡ 64 * N
  unfolding pairs_bytes
  pairs_sized = simp (length-append, length_pair_bytes) (omega arith)

  head_read : (part (produced_head P m x) 0 (8 * N) ≡ coefficient_bytes q N (key_of 0)) × (part (produced_head P m x) (8 * N) (8 * N) ≡ coefficient_bytes q N (key_of 1))
      × (part (produced_head P m x) (16 * N) (64 * N) ≡ produced_pairs P m x) × (part (produced_head P m x) (80 * N) (96 * repeats) ≡ joined repeats (λ i. digests i))
  unfolding produced_head
  head_read =
      four_read (8 * N) (8 * N) (64 * N) (96 * repeats) (16 * N) (80 * N) (omega arith) (omega arith) (coefficient_bytes q N (key_of 0)) (coefficient_bytes q N (key_of 1)) (produced_pairs P m x) (joined repeats (λ i. digests i))
      (length_encode N _) (length_encode N _) pairs_sized (length_joined 96 (λ i. digests i) repeats (λ j l. digests_sized j))

  pub length_produced_head : length (produced_head P m x) ≡ head_length N repeats
  unfolding produced_head
  length_produced_head = simp (length-append, length_encode) (omega (arith, pairs_sized, length_joined 96 (λ i. digests i) repeats (λ j l. digests_sized j)))

  pub key_written : (side : ℕ) → side < 2
      → part (produced_head P m x) (8 * N * side) (8 * N) ≡ encode N (modulo q (key q N p a (half_s P m x side) (half_e P m x side)))
  key_written zero h = let e : 8 * N * 0 ≡ 0 = omega arith in ap (λ (at : ℕ). part (produced_head P m x) at (8 * N)) e ∙ head_read.0
  key_written (suc zero) h = let e : 8 * N * 1 ≡ 8 * N = omega arith in ap (λ (at : ℕ). part (produced_head P m x) at (8 * N)) e ∙ head_read.1
  key_written (suc (suc i)) h = absurd (omega arith)

  pub pairs_written : pairs_of N (produced_head P m x) ≡ produced_pairs P m x
  pairs_written = head_read.2

  pairs_read : (part (produced_pairs P m x) 0 (16 * N) ≡ pair_s 0) × (part (produced_pairs P m x) (16 * N) (16 * N) ≡ pair_s 1)
      × (part (produced_pairs P m x) (32 * N) (16 * N) ≡ pair_e 0) × (part (produced_pairs P m x) (48 * N) (16 * N) ≡ pair_e 1)
  unfolding pairs_bytes
  pairs_read =
      four_read (16 * N) (16 * N) (16 * N) (16 * N) (32 * N) (48 * N) (omega arith) (omega arith) (pair_s 0) (pair_s 1) (pair_e 0) (pair_e 1)
      (length_pair_bytes q N _) (length_pair_bytes q N _) (length_pair_bytes q N _) (length_pair_bytes q N _)

  pair_inside : (i at : ℕ) → i < 4 → 16 * N * i ≡ at → pair_at N (produced_head P m x) i ≡ part (produced_pairs P m x) at (16 * N)
  pair_inside i at h e =
      sym (part_part (produced_head P m x) (16 * N) (64 * N) (16 * N * i) (16 * N) (omega (arith, stretch (16 * N) i 4 h)))
      ∙ ap (λ (s : Bytes). part s (16 * N * i) (16 * N)) pairs_written ∙ ap (λ (j : ℕ). part (produced_pairs P m x) j (16 * N)) e

  pub pair_s_written : (side : ℕ) → side < 2 → pair_at N (produced_head P m x) side ≡ pair_bytes_of P m x (hides_s P m x side) (half_s P m x side)
  pair_s_written zero h = pair_inside 0 0 (omega arith) (omega arith) ∙ pairs_read.0
  pair_s_written (suc zero) h = pair_inside 1 (16 * N) (omega arith) (omega arith) ∙ pairs_read.1
  pair_s_written (suc (suc i)) h = absurd (omega arith)

  pub pair_e_written : (side : ℕ) → side < 2 → pair_at N (produced_head P m x) (2 + side) ≡ pair_bytes_of P m x (hides_e P m x side) (half_e P m x side)
  pair_e_written zero h = pair_inside 2 (32 * N) (omega arith) (omega arith) ∙ pairs_read.2
  pair_e_written (suc zero) h = pair_inside 3 (48 * N) (omega arith) (omega arith) ∙ pairs_read.3
  pair_e_written (suc (suc i)) h = absurd (omega arith)

  pub digests_written : (i : ℕ) → i < repeats → digests_at N (produced_head P m x) i ≡ honest_digests q N k x.secrets (drawn_at P m x i)
  digests_written i h =
      sym (part_part (produced_head P m x) (80 * N) (96 * repeats) (96 * i) 96 (stretch 96 i repeats h))
      ∙ ap (λ (s : Bytes). part s (96 * i) 96) head_read.3 ∙ joined_at 96 (λ j. digests j) repeats (λ j l. digests_sized j) i h

  -- and its bytes are below 256
  octets_pair : (c : Pair) → Octets (pair_bytes q N c)
  unfolding pair_bytes
  octets_pair c = octets_append (coefficient_bytes q N c.one) (coefficient_bytes q N c.two) (octets_encode N _) (octets_encode N _)

  octets_pairs : Octets (produced_pairs P m x)
  unfolding pairs_bytes
  octets_pairs =
      octets_append (pair_s 0) (pair_s 1 ++ (pair_e 0 ++ pair_e 1)) (octets_pair _)
      (octets_append (pair_s 1) (pair_e 0 ++ pair_e 1) (octets_pair _) (octets_append (pair_e 0) (pair_e 1) (octets_pair _) (octets_pair _)))

  octets_digests : (f : First) → Octets f.d1 → Octets f.d2 → Octets f.d3 → Octets (first_bytes f)
  octets_digests f o1 o2 o3 = octets_append f.d1 (f.d2 ++ f.d3) o1 (octets_append f.d2 f.d3 o2 o3)

  pub octets_produced_head : Octets (produced_head P m x)
  unfolding produced_head
  octets_produced_head =
      octets_append (coefficient_bytes q N (key_of 0)) (coefficient_bytes q N (key_of 1) ++ (produced_pairs P m x ++ joined repeats (λ i. digests i))) (octets_encode N _)
      (octets_append (coefficient_bytes q N (key_of 1)) (produced_pairs P m x ++ joined repeats (λ i. digests i)) (octets_encode N _)
      (octets_append (produced_pairs P m x) (joined repeats (λ i. digests i)) octets_pairs
      (octets_joined repeats (λ i. digests i) (λ i h. octets_digests (first_message (setting q N k []) x.secrets (drawn_at P m x i)) (octets_sha3 _) (octets_sha3 _) (octets_sha3 _)))))

  -- ---- shares and claims

  abbrev share_of : (side j : ℕ) → Poly
  share_of side j = share q N p (half_s P m x side) (u_at N x.ballots j) (lent_mask (mask_at P m x side j))

  pub length_produced_shares : (side : ℕ) → length (produced_shares P m x side) ≡ 8 * N * m
  unfolding produced_shares
  length_produced_shares side = length_joined (8 * N) (λ j. coefficient_bytes q N (share_of side j)) m (λ j l. length_encode N _)

  pub share_written : (side j : ℕ) → j < m
      → part (produced_shares P m x side) (8 * N * j) (8 * N) ≡ encode N (modulo q (share q N p (half_s P m x side) (u_at N x.ballots j) (lent_mask (mask_at P m x side j))))
  unfolding produced_shares
  share_written side j h = joined_at (8 * N) (λ i. coefficient_bytes q N (share_of side i)) m (λ i l. length_encode N _) j h

  abbrev vote : ℕ → Bytes
  vote j = list N (decrypted q N p (secret_s P m x) (u_at N x.ballots j) (v_at N x.ballots j))

  pub length_produced_claims : length (produced_claims P m x) ≡ N * m
  unfolding produced_claims
  length_produced_claims = length_joined N (λ j. vote j) m (λ j l. length_list N _)

  pub claim_written : (j : ℕ) → j < m → claim_at N (produced_claims P m x) j ≡ list N (decrypted q N p (secret_s P m x) (u_at N x.ballots j) (v_at N x.ballots j))
  unfolding produced_claims
  claim_written j h = joined_at N (λ i. vote i) m (λ i l. length_list N _) j h

  -- ---- read as polynomials

  module _ (positive : 0 < q) (fits : q ≤ 2 ^ 64) where
    pub key_alike : (side : ℕ) → side < 2 → Alike q N (key_at N (produced_head P m x) side) (key q N p a (half_s P m x side) (half_e P m x side))
    key_alike side h = slot_alike q N positive fits (produced_head P m x) (8 * N * side) (key_of side) (key_written side h)

    pub share_alike : (side j : ℕ) → j < m
        → Alike q N (share_at N (produced_shares P m x side) j) (share q N p (half_s P m x side) (u_at N x.ballots j) (lent_mask (mask_at P m x side j)))
    share_alike side j h = slot_alike q N positive fits (produced_shares P m x side) (8 * N * j) (share_of side j) (share_written side j h)

  -- ---- what the lengths of the material are for

  module _ (sized : MaterialSized P m x) where
    hides_s_sized : (side : ℕ) → side < 2 → length (hides_s P m x side) ≡ 3 * N
    hides_s_sized side h = length_part x.secrets (2 * N + 3 * N * side) (3 * N) (let e = sized.secrets in omega (arith, stretch (3 * N) side 2 h))

    hides_e_sized : (side : ℕ) → side < 2 → length (hides_e P m x side) ≡ 3 * N
    hides_e_sized side h = length_part x.secrets (8 * N + 3 * N * side) (3 * N) (let e = sized.secrets in omega (arith, stretch (3 * N) side 2 h))

    -- s_i, e_i, the three r of s_i, and those of e_i
    pub opening_written : (side : ℕ) → side < 2
        → (part (produced_opening P m x side) 0 (8 * N) ≡ encode N (modulo q (half_s P m x side))) × (part (produced_opening P m x side) (8 * N) (8 * N) ≡ encode N (modulo q (half_e P m x side)))
        × (part (produced_opening P m x side) (16 * N) (3 * N) ≡ hides_s P m x side) × (part (produced_opening P m x side) (19 * N) (3 * N) ≡ hides_e P m x side)
    unfolding produced_opening
    opening_written side h =
        four_read (8 * N) (8 * N) (3 * N) (3 * N) (16 * N) (19 * N) (omega arith) (omega arith) (coefficient_bytes q N (half_s P m x side)) (coefficient_bytes q N (half_e P m x side)) (hides_s P m x side) (hides_e P m x side)
        (length_encode N _) (length_encode N _) (hides_s_sized side h) (hides_e_sized side h)

    pub length_produced_opening : (side : ℕ) → side < 2 → length (produced_opening P m x side) ≡ 22 * N
    unfolding produced_opening
    length_produced_opening side h = simp (length-append, length_encode) (omega (arith, hides_s_sized side h, hides_e_sized side h))

    pub permutation_sized : (i : ℕ) → i < repeats → length (permutation_at P m x i) ≡ 168 * N
    permutation_sized i h = length_part x.permutations (168 * N * i) (168 * N) (let e = sized.permutations in omega (arith, stretch (168 * N) i repeats h))

    pub vector_sized : (i : ℕ) → i < repeats → length (part x.vectors (336 * N * i) (336 * N)) ≡ 336 * N
    vector_sized i h = length_part x.vectors (336 * N * i) (336 * N) (let e = sized.vectors in omega (arith, stretch (336 * N) i repeats h))

    pub salts_sized : (i : ℕ) → i < repeats → length (part x.salts (96 * i) 96) ≡ 96
    salts_sized i h = length_part x.salts (96 * i) 96 (let e = sized.salts in omega (arith, stretch 96 i repeats h))

    -- the answers to any challenges, end to end
    module _ (challenges : Bytes) (size : length challenges ≡ repeats) where
      abbrev answer : ℕ → Bytes
      answer i = honest_answer q N x.secrets (drawn_at P m x i) (get_or challenges i 0)

      answer_sized : (i : ℕ) → i < repeats → length (answer i) ≡ answer_length N (get_or challenges i 0)
      answer_sized i h =
          length_honest_answer q N x.secrets (permutation_at P m x i) (part x.vectors (336 * N * i) (336 * N)) (part x.salts (96 * i) 96)
          sized.secrets (permutation_sized i h) (vector_sized i h) (salts_sized i h) (get_or challenges i 0)

      pub length_produced_answers : length (produced_answers P m x challenges) ≡ answers_length N challenges
      unfolding produced_answers
      length_produced_answers =
          length_answers N challenges (λ i. answer i) repeats (omega arith) answer_sized ∙ ap (answers_length N) (take_all repeats challenges (omega arith))

      pub answer_written : (i : ℕ) → i < repeats
          → answer_at N challenges (produced_answers P m x challenges) i ≡ honest_answer q N x.secrets (drawn_at P m x i) (get_or challenges i 0)
      unfolding produced_answers
      answer_written = answers_at N challenges (λ i. answer i) repeats (omega arith) answer_sized

    module _ (positive : 0 < q) (fits : q ≤ 2 ^ 64) (side : ℕ) (h : side < 2) where
      pub opening_s : Alike q N (opening_of N (produced_opening P m x side)).s (half_s P m x side)
      opening_s = slot_alike q N positive fits (produced_opening P m x side) 0 (half_s P m x side) (opening_written side h).0

      pub opening_e : Alike q N (opening_of N (produced_opening P m x side)).e (half_e P m x side)
      opening_e = slot_alike q N positive fits (produced_opening P m x side) (8 * N) (half_e P m x side) (opening_written side h).1
