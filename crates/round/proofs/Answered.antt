-- What the tests of an answer mean (9, 10, 11), in propositions: none of them holds exactly if the answer is `Answered`, for a challenge of 1, 2, 3. Assumes nothing.
use mathlib.Core.Path.{◌≡◌, refl}
use mathlib.Core.Logic.{◌↔◌}
use mathlib.Core.Bool.{false, not}
use Prim.Native.Nat.{ℕ, zero, suc, ◌*◌, ◌≤◌, ◌<◌}
use native.Mathlib.Omega.{arith}
use borrow.Author.Tests.{not-false}
use Rattle.codec.specs.Bytes.{Bytes}
use Rattle.codec.specs.Reply.{None}
use Rattle.ring.specs.Ternary.{count}
use Rattle.vector.specs.Permutation.{Permutes, entries, permutes, balanced}
use Rattle.vector.proofs.Balance.{Balanced, balanced_sound, balanced_complete}
use Rattle.vector.proofs.Counts.{permutes_sound, permutes_complete}
use Rattle.commitment.specs.Commitment.{Keys}
use Rattle.stern.specs.Argument.{Answer1, Answer2, Answer3}
use Rattle.stern.specs.Shortness.{answer1_of, answer2_of, answer3_of, tests1, tests2, tests3, answer_tests}
use Rattle.stern.proofs.Honest.{digests_match}
use Rattle.stern.proofs.Extraction.{digests_equal}
use Rattle.round.specs.Accepted.{Answered1, Answered2, Answered3, Answered}
use Rattle.round.proofs.Many.{for_challenges}

-- 14N of each of 0, 1, 2
each_counted : (N : ℕ) (w : Bytes) → Balanced (14 * N) w → (v : ℕ) → v < 3 → count v w ≡ 14 * N
each_counted N w b zero l = b.zeros
each_counted N w b (suc zero) l = b.ones
each_counted N w b (suc (suc zero)) l = b.minus
each_counted N w b (suc (suc (suc v))) l = absurd (omega arith)

module _ (q N : ℕ) (k : Keys) (c d : Bytes) (place : ℕ) where
  -- ---- one answer

  exactly1 : (a : Answer1) → None (tests1 q N k c d place a) ↔ Answered1 q N k c d a
  exactly1 a = (sound, complete)
    where
      sound : None (tests1 q N k c d place a) → Answered1 q N k c d a
      sound n =
          let b = balanced_sound (14 * N) a.w (not-false (balanced (14 * N) a.w) n.0) in
          let e = digests_equal _ _ _ _ n.1.0 in
          record { sized = omega (arith, b.size); balanced = each_counted N a.w b; digest2 = e.0; digest3 = e.1 }

      complete : Answered1 q N k c d a → None (tests1 q N k c d place a)
      complete h =
          let l = h.sized in
          let b : Balanced (14 * N) a.w = record { size = omega arith; minus = h.balanced 2 (omega arith); zeros = h.balanced 0 (omega arith); ones = h.balanced 1 (omega arith) } in
          (rw (balanced_complete b), (digests_match _ _ _ _ h.digest2 h.digest3, tt))

  permuted : (p : Bytes) → not (permutes (42 * N) (entries p)) ≡ false → Permutes (42 * N) (entries p)
  permuted p e = permutes_sound (42 * N) (entries p) (not-false (permutes (42 * N) (entries p)) e)

  exactly2 : (a : Answer2) → None (tests2 q N k c d place a) ↔ Answered2 q N k c d a
  exactly2 a = (
    λ n. let e = digests_equal _ _ _ _ n.1.0 in record { permutes = permuted a.p n.0; digest1 = e.0; digest3 = e.1 },
    λ h. (rw (permutes_complete h.permutes), (digests_match _ _ _ _ h.digest1 h.digest3, tt)),
  )

  exactly3 : (a : Answer3) → None (tests3 q N k c d place a) ↔ Answered3 q N k c d a
  exactly3 a = (
    λ n. let e = digests_equal _ _ _ _ n.1.0 in record { permutes = permuted a.p n.0; digest1 = e.0; digest2 = e.1 },
    λ h. (rw (permutes_complete h.permutes), (digests_match _ _ _ _ h.digest1 h.digest2, tt)),
  )

  -- ---- by the challenge

  module _ (answer : Bytes) where
    sound : (challenge : ℕ) → None (answer_tests q N k c d place challenge answer) → Answered q N k c d challenge answer
    sound challenge n = record {
      to1 = λ e. (exactly1 (answer1_of N answer)).0 (rw e at n);
      to2 = λ e. (exactly2 (answer2_of N answer)).0 (rw e at n);
      to3 = λ e. (exactly3 (answer3_of N answer)).0 (rw e at n);
    }

    complete : (challenge : ℕ) → 1 ≤ challenge → challenge ≤ 3 → Answered q N k c d challenge answer → None (answer_tests q N k c d place challenge answer)
    complete =
        for_challenges (λ challenge. Answered q N k c d challenge answer → None (answer_tests q N k c d place challenge answer)) (λ r. (exactly1 (answer1_of N answer)).1 (r.to1 refl))
        (λ r. (exactly2 (answer2_of N answer)).1 (r.to2 refl)) (λ r. (exactly3 (answer3_of N answer)).1 (r.to3 refl))

    pub answered_exactly : (challenge : ℕ) → 1 ≤ challenge → challenge ≤ 3 → None (answer_tests q N k c d place challenge answer) ↔ Answered q N k c d challenge answer
    answered_exactly challenge low high = (sound challenge, complete challenge low high)
