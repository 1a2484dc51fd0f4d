-- What is drawn for the repetitions: where it stands for repetition i, and that it is what the shortness argument asks for. Assumes nothing.
use mathlib.Core.Path.{◌≡◌, ap₂, subst, ◌∙◌}
use mathlib.Core.Bool.{true}
use mathlib.Core.List.{[]}
use Prim.Native.Nat.{ℕ, ◌+◌, ◌*◌, ◌≤◌, ◌<◌}
use native.Mathlib.Nat.{mul_assoc}
use native.Mathlib.Omega.{arith}
use lib.ListN.{length, take, drop}
use Rattle.codec.specs.Bytes.{Bytes, part, put}
use Rattle.codec.proofs.Laws.{length_part}
use Rattle.codec.specs.Lists.{all_below}
use Rattle.sha3.proofs.Squeezing.{length_sha3}
use Rattle.commitment.specs.Commitment.{Keys}
use Rattle.vector.specs.Vector.{vector}
use Rattle.stern.specs.Argument.{first_message}
use Rattle.stern.specs.Shortness.{setting, drawn_of, honest_digests}
use Rattle.stern.specs.Internal.{RepetitionMaterial}
use Rattle.round.specs.Layout.{joined, head_length}
use Rattle.round.proofs.Many.{stretch, length_joined}
use Rattle.round.proofs.Produced.{length_digests}
use Rattle.round.proofs.Written.{coefficients_vector, coefficients_part}
use Rattle.round.specs.Producer.{drawn_in}
use Rattle.round_head.specs.Internal.{Drawings}
use Rattle.round_head.proofs.Joining.{Filled, filled_first, filled_more}

-- ---- lent with lengths that are differences of places

module _ (q n : ℕ) (x r p s : Bytes) (r_at p_at s_at r_long p_long s_long : ℕ) (er : r_long ≡ 336 * n) (ep : p_long ≡ 168 * n) (es : s_long ≡ 96) where
  pub repetition_lent : RepetitionMaterial q n x (part r r_at (336 * n)) (part p p_at (168 * n)) (part s s_at 96)
      → RepetitionMaterial q n x (take r_long (drop r_at r)) (take p_long (drop p_at p)) (take s_long (drop s_at s))
  repetition_lent m = rw (er, ep, es) m

  pub drawn_lent : drawn_of (take p_long (drop p_at p)) (take r_long (drop r_at r)) (take s_long (drop s_at s)) ≡ drawn_of (part p p_at (168 * n)) (part r r_at (336 * n)) (part s s_at 96)
  drawn_lent = rw (er, ep, es)

-- ---- by repetition

module _ (n repeats i : ℕ) (h : i < repeats) where
  module _ (q : ℕ) (secrets vectors permutations salts : Bytes) (d : Drawings q n repeats secrets vectors permutations salts) where
    pub drawn_ends : (336 * n * i + 336 * n ≤ length vectors) × (168 * n * i + 168 * n ≤ length permutations) × (96 * i + 96 ≤ length salts)
    drawn_ends = (
      omega (arith, d.vectors_sized, stretch (336 * n) i repeats h),
      omega (arith, d.permutations_sized, stretch (168 * n) i repeats h),
      omega (arith, d.salts_sized),
    )

    vector_below : all_below q (vector (part vectors (336 * n * i) (336 * n))) ≡ true
    vector_below =
        let from : 336 * n * i ≡ 8 * (42 * n * i) = omega (arith, mul_assoc 336 n i, mul_assoc 42 n i) in
        let long : 336 * n ≡ 8 * (42 * n) = omega arith in
        ap₂ (λ (j l : ℕ). all_below q (vector (part vectors j l))) from long
        ∙ coefficients_vector (coefficients_part vectors (42 * n * i) (42 * n) d.below (omega (arith, d.vectors_sized, stretch (336 * n) i repeats h)))

    pub material : RepetitionMaterial q n secrets (part vectors (336 * n * i) (336 * n)) (part permutations (168 * n * i) (168 * n)) (part salts (96 * i) 96)
    material = record {
      size_x = d.secrets_sized;
      size_r = length_part vectors (336 * n * i) (336 * n) drawn_ends.0;
      size_p = length_part permutations (168 * n * i) (168 * n) drawn_ends.1;
      size_salts = length_part salts (96 * i) 96 drawn_ends.2;
      below = vector_below;
      permutes = d.permuting i h;
    }

-- ---- the digests, end to end

module _ (q n repeats : ℕ) (k : Keys) (secrets vectors permutations salts : Bytes) where
  abbrev pub digests_of : ℕ → Bytes
  digests_of i = honest_digests q n k secrets (drawn_in n vectors permutations salts i)

  digests_sized : (i : ℕ) → length (digests_of i) ≡ 96
  digests_sized i = length_digests (first_message (setting q n k []) secrets (drawn_in n vectors permutations salts i)) (length_sha3 _) (length_sha3 _) (length_sha3 _)

  pub length_digests_of : (i : ℕ) → length (joined i digests_of) ≡ 96 * i
  length_digests_of i = length_joined 96 digests_of i (λ j l. digests_sized j)

  -- what is written before repetition i
  pub record Digested (head₀ : Bytes) (i : ℕ) (head w : Bytes) : Type 0 where
    pub long : length w ≡ 1048576
    pub written : Filled digests_of head₀ (80 * n) i (80 * n + 96 * i) head

  module _ (head₀ : Bytes) where
    pub digested_first : (w : Bytes) → length w ≡ 1048576 → Digested head₀ 0 head₀ w
    digested_first w l = record {
      long = l;
      written = let none : 80 * n ≡ 80 * n + 96 * 0 = omega arith in subst (λ (k : ℕ). Filled digests_of head₀ (80 * n) 0 k head₀) none (filled_first digests_of head₀ (80 * n));
    }

    module _ (fits : length head₀ ≡ head_length n repeats) (i : ℕ) (head w : Bytes) (d : Digested head₀ i head w) (h : i < repeats) where
      pub digests_end : 80 * n + 96 * i + 96 ≤ length head
      digests_end = omega (arith, d.written.long)

      pub digested_more : (head' w' : Bytes) → length head' ≡ length head → length w' ≡ length w → head' ≡ put head (80 * n + 96 * i) (digests_of i) → Digested head₀ (i + 1) head' w'
      digested_more head' w' lh lw e = record {
        long = lw ∙ d.long;
        written =
            let to : 80 * n + 96 * i + 96 ≡ 80 * n + 96 * (i + 1) = omega arith in
            rw to at (filled_more digests_of head₀ (80 * n) i (80 * n + 96 * i) 96 head head' d.written (digests_sized i) (omega (arith, digests_end, d.written.long)) lh e);
      }
