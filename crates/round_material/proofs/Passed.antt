-- What the producer was lent where its tests are passed, as the functions that write a round ask for it. Assumes nothing.
use mathlib.Core.Path.{◌≡◌, sym, ap, ◌∙◌}
use mathlib.Core.Bool.{Bool, true}
use Prim.Native.Nat.{ℕ, ◌*◌, ◌^◌, ◌≤◌, ◌<◌}
use native.Mathlib.Omega.{arith}
use borrow.Author.Tests.{not-false}
use Rattle.codec.specs.Reply.{first, None, Taken}
use Rattle.codec.proofs.Laws.{both}
use Rattle.codec.proofs.Replies.{taken_exactly}
use Rattle.codec.specs.Lists.{list, all_below}
use Rattle.codec.proofs.Lists.{all_sound}
use Rattle.ring.specs.Poly.{Below}
use Rattle.ring.proofs.Ranges.{below_sound}
use Rattle.scratch.specs.Internal.{Polynomial}
use Rattle.scratch.proofs.Ranges.{ranged}
use Rattle.vector.specs.Vector.{vector}
use Rattle.vector.specs.Permutation.{entries, permutes}
use Rattle.vector.proofs.Counts.{permutes_complete}
use Rattle.round.specs.Layout.{u_at}
use Rattle.commitment.specs.Parameters.{Parameters}
use Rattle.round.specs.Producer.{Material, MaterialSized, permutation_in, material_ranged, producer_tests}
use Rattle.round.specs.Suitable.{Suitable}
use Rattle.round.proofs.Passed.{producer_exactly}
use Rattle.round_material.proofs.Sequence.{all_below_lem}

-- the material passed its tests
pub record Passed (P : Parameters) (m : ℕ) (x : Material) : Type 0 where
  pub secrets : all_below 3 x.secrets ≡ true
  pub s0 : Polynomial P.N P.q x.s0
  pub e0 : Polynomial P.N P.q x.e0
  pub vectors : all_below P.q (vector x.vectors) ≡ true
  pub ballots : (j : ℕ) → j < m → Below P.q (2 * P.N) (u_at P.N x.ballots j)
  pub permuting : (i : ℕ) → i < P.repeats → permutes (42 * P.N) (entries (permutation_in P.N x.permutations i)) ≡ true

module _ (P : Parameters) (m : ℕ) (x : Material) (asked : Bool) (taken : first (producer_tests P m x asked) ≡ Taken) where
  open P use {q, N, repeats}

  in_range : (asked ≡ true) × (material_ranged q N m x.secrets x.s0 x.e0 x.vectors x.ballots ≡ true)
  unfolding producer_tests
  in_range = both asked _ (not-false _ ((taken_exactly (producer_tests P m x asked)).0 taken).0)

  -- what the call was given beside the material is in range too, and no test refuses
  pub none_refused : (asked ≡ true) × None (producer_tests P m x true)
  none_refused = (in_range.0, (taken_exactly (producer_tests P m x true)).0 (ap (λ (t : Bool). first (producer_tests P m x t)) (sym in_range.0) ∙ taken))

  module _ (ring_low : 4 ≤ N) (ring_high : N ≤ 2048) (modulus_low : 3 ≤ q) (modulus_high : q < 2 ^ 56) where
    -- it matches b, and masks and noise are within their bounds
    pub fit : Suitable P m x
    fit = (producer_exactly P m x (omega arith) (omega arith)).0 none_refused.1

    pub passed : MaterialSized P m x → Passed P m x
    passed sized =
        let r = all_below_lem q N m x.secrets x.s0 x.e0 x.vectors x.ballots in_range.1 in
        let f = fit in
        record {
          secrets = r.0;
          s0 = ranged N q ring_low ring_high modulus_low modulus_high x.s0 sized.s0 r.1;
          e0 = ranged N q ring_low ring_high modulus_low modulus_high x.e0 sized.e0 r.2;
          vectors = r.3;
          ballots = λ j l. below_sound q (2 * N) (u_at N x.ballots j) (all_sound m (λ i. all_below q (list (2 * N) (u_at N x.ballots i))) r.4 j l);
          permuting = λ i l. permutes_complete (f.permuting i l);
        }
