-- What is known of the lent slices where a call is taken: that its tests were passed. Assumes nothing.
use mathlib.Core.Path.{◌≡◌, sym}
use mathlib.Core.Bool.{◌&&◌}
use mathlib.Core.List.{List, [], ◌∷◌}
use Prim.Native.Nat.{ℕ, ◌*◌}
use lib.ListN.{length}
use Rattle.codec.specs.Bytes.{Bytes}
use Rattle.codec.specs.Reply.{first, Taken}
use Rattle.codec.proofs.Laws.{both}
use Rattle.sheet_numbers.specs.Internal.{Usable}
use Rattle.sheet_numbers.specs.declared.Numbers.{Numbers}
use Rattle.scratch.specs.Call.{bytes_below, coefficients_below}
use Rattle.scratch.specs.Internal.{Polynomial}
use Rattle.scratch.proofs.Order.{length_at, passed}
use Rattle.scheme.specs.Calls.{keygen_tests, split_tests}
use Rattle.scheme.proofs.Passed.{both_ranged}

pub keygen_passed : (k : Numbers) (s e b w : Bytes) → Taken ≡ first (keygen_tests k s e b w)
    → (length w ≡ 1048576) × (length s ≡ k.ring) × (length e ≡ k.ring) × (length b ≡ 8 * k.ring)
keygen_passed k s e b w i =
    let xs : List ℕ = length s ∷ length e ∷ length b ∷ length w ∷ [] in
    let ys : List ℕ = k.ring ∷ k.ring ∷ 8 * k.ring ∷ 1048576 ∷ [] in
    let l = (passed xs ys (bytes_below 3 (s ∷ e ∷ [])) [] (sym i)).0 in
    (length_at xs ys 3 l, length_at xs ys 0 l, length_at xs ys 1 l, length_at xs ys 2 l)

pub split_passed : (k : Numbers) → Usable k → (s e s0 e0 d w : Bytes) → Taken ≡ first (split_tests k s e s0 e0 d w)
    → (Polynomial k.ring k.modulus s0 × Polynomial k.ring k.modulus e0) × (length s ≡ k.ring) × (length e ≡ k.ring) × (length d ≡ 32 * k.ring) × (length w ≡ 1048576)
split_passed k u s e s0 e0 d w i =
    let xs : List ℕ = length s ∷ length e ∷ length s0 ∷ length e0 ∷ length d ∷ length w ∷ [] in
    let ys : List ℕ = k.ring ∷ k.ring ∷ 8 * k.ring ∷ 8 * k.ring ∷ 32 * k.ring ∷ 1048576 ∷ [] in
    let below = coefficients_below k.modulus k.ring (s0 ∷ e0 ∷ []) in
    let h = passed xs ys (bytes_below 3 (s ∷ e ∷ []) && below) [] (sym i) in
    let l = h.0 in
    let r = both_ranged k u s0 e0 (length_at xs ys 2 l) (length_at xs ys 3 l) (both (bytes_below 3 (s ∷ e ∷ [])) below h.1).1 in
    (r, length_at xs ys 0 l, length_at xs ys 1 l, length_at xs ys 4 l, length_at xs ys 5 l)
