-- The noise of a ballot goes by what its coefficients are modulo q. Assumes nothing.
use mathlib.Core.Path.{◌≡◌, ap, ◌∙◌}
use Prim.Native.Nat.{ℕ, suc, ◌%◌, ◌^◌, ◌<◌}
use native.Mathlib.Nat.{mod-mod}
use lib.IntN.{nat_abs}
use Rattle.codec.specs.Bytes.{Bytes}
use Rattle.codec.specs.Lists.{all_below}
use Rattle.codec.proofs.Lists.{list_cong}
use Rattle.ring.specs.Poly.{Poly, Alike}
use Rattle.ring.specs.Slots.{poly}
use Rattle.scratch.specs.Internal.{InSlot}
use Rattle.scratch.proofs.Slots.{stands_poly}
use Rattle.bgv.specs.Scheme.{centred, within}
use Rattle.round.proofs.ExtractionSizes.{same_centre}

pub within_centred : (q n K : ℕ) {f g : Poly} → Alike q n f g → within K n (centred q f) ≡ within K n (centred q g)
unfolding within
within_centred q n K e = ap (all_below (suc K)) (list_cong n (λ k l. ap nat_abs (same_centre (e.at k l))))

-- what stands at the head of scratch
pub stands_like : (q n : ℕ) (f : Poly) (w w' : Bytes) → 0 < q → q < 2 ^ 56 → InSlot q n f w w' → Alike q n (poly w') f
stands_like q n f w w' h b s = record { at = λ k l. record { is = ap (λ (x : ℕ). x % q) (stands_poly q n f w w' s h b k l) ∙ mod-mod (f k) q } }
