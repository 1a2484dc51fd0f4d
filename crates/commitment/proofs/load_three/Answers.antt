-- `load_three` meets its contract. Assumes nothing.
use mathlib.Core.Path.{◌≡◌, ap, ◌∙◌}
use Prim.Native.Nat.{ℕ, ◌-◌, ◌*◌}
use native.Mathlib.Omega.{arith}
use lib.ListN.{take, drop}
use Rattle.codec.specs.Bytes.{Bytes, part, put}
use Rattle.ring.specs.Slots.{encode}
use Rattle.ring.specs.Ternary.{ternary}
use Rattle.commitment.specs.Internal.{with_three}
use Rattle.commitment.proofs.Loading.{loaded_part}
use Rattle.commitment.proofs.load_three.Goals as goal

pub returns : goal.returns
unfolding with_three
returns c =
    let a = c.args in
    let p = c.requires in
    let r = a.r.now in
    let x : a.n - 0 ≡ a.n = omega arith in
    let y : 2 * a.n - a.n ≡ a.n = omega arith in
    let z : 3 * a.n - 2 * a.n ≡ a.n = omega arith in
    let l = p.2 in
    let e1 = loaded_part a.q a.n r (take (a.n - 0) r) a.work.now _ 0 0 (omega arith) (ap (λ (m : ℕ). take m r) x) c.load_ternary.ensures in
    let e2 = loaded_part a.q a.n r (take (2 * a.n - a.n) (drop a.n r)) _ _ a.n 16384 (omega arith) (ap (λ (m : ℕ). take m (drop a.n r)) y) c.load_ternary-2.ensures in
    let e3 = loaded_part a.q a.n r (take (3 * a.n - 2 * a.n) (drop (2 * a.n) r)) _ _ (2 * a.n) 32768 (omega arith) (ap (λ (m : ℕ). take m (drop (2 * a.n) r)) z) c.load_ternary-3.ensures in
    e3 ∙ ap (λ (w : Bytes). put w 32768 (encode a.n (ternary a.q (part r (2 * a.n) a.n)))) (e2 ∙ ap (λ (w : Bytes). put w 16384 (encode a.n (ternary a.q (part r a.n a.n)))) e1)
