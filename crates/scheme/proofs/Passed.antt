-- What is known of the lent slices where a call is taken: that its tests were passed. Assumes nothing.
use mathlib.Core.Path.{◌≡◌, refl, sym}
use mathlib.Core.Bool.{true, ◌&&◌}
use mathlib.Core.List.{List, [], ◌∷◌}
use Prim.Native.Nat.{ℕ, ◌*◌, ◌^◌, ◌≤◌, ◌<◌}
use lib.ListN.{length}
use Rattle.codec.specs.Bytes.{Bytes}
use Rattle.codec.specs.Reply.{first, Taken}
use Rattle.codec.proofs.Laws.{both}
use Rattle.codec.specs.Lists.{list, all_below}
use Rattle.ring.specs.Slots.{poly}
use Rattle.sheet_numbers.specs.Internal.{Usable}
use Rattle.sheet_numbers.specs.declared.Numbers.{Numbers}
use Rattle.scratch.specs.Call.{bytes_below, coefficients_below}
use Rattle.scratch.specs.Internal.{Polynomial}
use Rattle.scratch.proofs.Order.{length_at, passed}
use Rattle.scratch.proofs.Ranges.{ranged}
use Rattle.scheme.specs.Calls.{share_tests, reconstruct_tests, commitment_tests}

-- no test is left
pub done : Taken ≡ first []
unfolding first
done = refl

module _ (n q : ℕ) (low : 4 ≤ n) (high : n ≤ 2048) (some : 3 ≤ q) (few : q < 2 ^ 56) where
  -- two polynomials in range
  two_ranged : (x y : Bytes) → length x ≡ 8 * n → length y ≡ 8 * n → coefficients_below q n (x ∷ y ∷ []) ≡ true → Polynomial n q x × Polynomial n q y
  two_ranged x y lx ly e =
      let h = both (all_below q (list n (poly x))) (coefficients_below q n (y ∷ [])) e in
      (ranged n q low high some few x lx h.0, ranged n q low high some few y ly (both (all_below q (list n (poly y))) true h.1).0)

-- for the numbers of a sheet that is taken
module _ (k : Numbers) (u : Usable k) where
  abbrev n : ℕ
  n = k.ring

  abbrev q : ℕ
  q = k.modulus

  pub both_ranged : (x y : Bytes) → length x ≡ 8 * n → length y ≡ 8 * n → coefficients_below q n (x ∷ y ∷ []) ≡ true → Polynomial n q x × Polynomial n q y
  both_ranged = two_ranged n q u.in_range.ring_low u.in_range.ring_high u.in_range.modulus_low u.in_range.modulus_high

  one_ranged : (x : Bytes) → length x ≡ 8 * n → all_below q (list n (poly x)) ≡ true → Polynomial n q x
  one_ranged = ranged n q u.in_range.ring_low u.in_range.ring_high u.in_range.modulus_low u.in_range.modulus_high

  pub share_passed : (x v m d w : Bytes) → Taken ≡ first (share_tests k x v m d w)
      → (Polynomial n q x × Polynomial n q v) × (length m ≡ 8 * n) × (length w ≡ 1048576) × (length d ≡ 8 * n)
  share_passed x v m d w i =
      let xs : List ℕ = length x ∷ length v ∷ length m ∷ length d ∷ length w ∷ [] in
      let ys : List ℕ = 8 * n ∷ 8 * n ∷ 8 * n ∷ 8 * n ∷ 1048576 ∷ [] in
      let h = passed xs ys (coefficients_below q n (x ∷ v ∷ [])) _ (sym i) in
      let l = h.0 in
      (both_ranged x v (length_at xs ys 0 l) (length_at xs ys 1 l) h.1, length_at xs ys 2 l, length_at xs ys 4 l, length_at xs ys 3 l)

  pub reconstruct_passed : (v t0 t1 d w : Bytes) → Taken ≡ first (reconstruct_tests k v t0 t1 d w)
      → Polynomial n q v × (Polynomial n q t0 × Polynomial n q t1) × (length d ≡ n) × (length w ≡ 1048576)
  reconstruct_passed v t0 t1 d w i =
      let xs : List ℕ = length v ∷ length t0 ∷ length t1 ∷ length d ∷ length w ∷ [] in
      let ys : List ℕ = 8 * n ∷ 8 * n ∷ 8 * n ∷ n ∷ 1048576 ∷ [] in
      let h = passed xs ys (coefficients_below q n (v ∷ t0 ∷ t1 ∷ [])) [] (sym i) in
      let l = h.0 in
      let r = both (all_below q (list n (poly v))) (coefficients_below q n (t0 ∷ t1 ∷ [])) h.1 in
      (one_ranged v (length_at xs ys 0 l) r.0, both_ranged t0 t1 (length_at xs ys 1 l) (length_at xs ys 2 l) r.1, length_at xs ys 3 l, length_at xs ys 4 l)

  pub commitment_passed : (m r d w : Bytes) → Taken ≡ first (commitment_tests k m r d w) → Polynomial n q m × (length r ≡ 3 * n) × (length d ≡ 16 * n) × (length w ≡ 1048576)
  commitment_passed m r d w i =
      let xs : List ℕ = length m ∷ length r ∷ length d ∷ length w ∷ [] in
      let ys : List ℕ = 8 * n ∷ 3 * n ∷ 16 * n ∷ 1048576 ∷ [] in
      let h = passed xs ys (bytes_below 3 (r ∷ []) && coefficients_below q n (m ∷ [])) [] (sym i) in
      let l = h.0 in
      let m' = (both (all_below q (list n (poly m))) true (both (bytes_below 3 (r ∷ [])) (coefficients_below q n (m ∷ [])) h.1).1).0 in
      (one_ranged m (length_at xs ys 0 l) m', length_at xs ys 1 l, length_at xs ys 2 l, length_at xs ys 3 l)
