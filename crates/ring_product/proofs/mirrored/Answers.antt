-- `mirrored` meets its contract. Assumes nothing.
use mathlib.Core.Path.{◌≡◌, sym, ap, ◌∙◌}
use Prim.Native.Nat.{ℕ, ◌+◌, ◌-◌, ◌*◌, ◌%◌, ◌<◌}
use native.Mathlib.Nat.{mod-eq_of_lt}
use native.Mathlib.Omega.{arith}
use Rattle.codec.specs.Bytes.{number, part}
use Rattle.ring.proofs.Coefficients.{turn_low, turn_high}
use Rattle.ring.specs.Slots.{poly}
use Rattle.ring_product.proofs.mirrored.Goals as goal

pub negate-requires : goal.negate-requires
unfolding poly
negate-requires c =
    let a = c.args in
    let l : c.read64-else-j-n.result < a.q = rw c.read64-else-j-n.ensures (c.requires.3.at (2 * a.n - 1 - a.j) (omega arith)) in
    (l, omega arith)

pub returns-then-j-n : goal.returns-then-j-n
unfolding poly
returns-then-j-n c =
    let a = c.args in
    let l : a.n - 1 - a.j < a.n = omega arith in
    c.read64.ensures ∙ sym (mod-eq_of_lt (c.requires.3.at (a.n - 1 - a.j) l))
    ∙ ap (λ (x : ℕ). x % a.q) (sym (turn_low a.q a.n (poly a.a.now) (a.n - 1) a.j (omega arith)))

pub returns-else-j-n : goal.returns-else-j-n
unfolding poly
returns-else-j-n c =
    let a = c.args in
    let e : 2 * a.n - 1 - a.j ≡ a.n + (a.n - 1) - a.j = omega arith in
    c.negate.ensures ∙ ap (λ (x : ℕ). (a.q - 1) * x % a.q) (c.read64-else-j-n.ensures ∙ ap (λ (k : ℕ). number (part a.a.now (8 * k) 8)) e)
    ∙ ap (λ (x : ℕ). x % a.q) (sym (turn_high a.q a.n (poly a.a.now) (a.n - 1) a.j (omega arith)))
