-- `opened_reply` meets its contract. Assumes nothing.
use mathlib.Core.Path.{◌≡◌, refl, ap}
use mathlib.Core.Bool.{cond}
use Prim.Native.Nat.{ℕ, ◌*◌, ◌^◌, ◌≤◌, ◌<◌}
use native.Mathlib.Omega.{arith}
use borrow.Author.Tests.{lt-ltb, le-ltb}
use lib.Dec.{ltb}
use Rattle.round_tests.proofs.opened.opened_reply.Goals as goal

-- a place that fits the value of a reply, and one that does not
fits : (place told : ℕ) → told ≡ place → told < 2 ^ 56 → 256 * told ≡ cond (ltb place (2 ^ 56)) (256 * place) 0
fits place told e h = rw (lt-ltb place (2 ^ 56) (omega (arith, h, e))) (ap (λ (x : ℕ). 256 * x) e)

beyond : (place told : ℕ) → told ≡ place → 2 ^ 56 ≤ told → 0 ≡ cond (ltb place (2 ^ 56)) (256 * place) 0
beyond place told e h = rw (le-ltb place (2 ^ 56) (omega (arith, h, e))) refl

pub returns-then-place-lt72057594037927936 : goal.returns-then-place-lt72057594037927936
returns-then-place-lt72057594037927936 c = fits _ c.opened_place-place.result c.opened_place-place.ensures (omega arith)

pub returns-else-place-lt72057594037927936 : goal.returns-else-place-lt72057594037927936
returns-else-place-lt72057594037927936 c = beyond _ c.opened_place-place.result c.opened_place-place.ensures (omega arith)
