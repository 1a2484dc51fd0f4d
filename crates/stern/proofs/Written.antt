-- A vector in bytes that passed its range test. Assumes nothing.
use mathlib.Core.Path.{◌≡◌}
use mathlib.Core.Bool.{true}
use Prim.Native.Nat.{ℕ, ◌/◌}
use lib.ListN.{length}
use Rattle.codec.specs.Bytes.{Bytes}
use Rattle.codec.specs.Lists.{all_below}
use Rattle.ring.specs.Poly.{Below}
use Rattle.ring.specs.Slots.{poly}
use Rattle.ring.proofs.Ranges.{below_sound}
use Rattle.vector.specs.Vector.{vector}

-- as the products ask it
pub vector_below : (q : ℕ) (x : Bytes) → all_below q (vector x) ≡ true → Below q (length x / 8) (poly x)
unfolding vector
vector_below q x e = below_sound q (length x / 8) (poly x) e
