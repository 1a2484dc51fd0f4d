-- `products` meets its contract. Assumes nothing.
use mathlib.Core.Path.{◌≡◌, ap, ap₂, ◌∙◌}
use Prim.Native.Nat.{ℕ, ◌+◌, ◌-◌, ◌*◌, ◌%◌, ◌^◌, ◌≤◌}
use native.Mathlib.Omega.{arith}
use Rattle.ring.proofs.Bridge.{slot_later}
use Rattle.ring.proofs.Filling.{filling_none, filling_more, filling_stored, read_later}
use Rattle.ring.proofs.Sums.{sum_cong}
use Rattle.ring.specs.Poly.{modulo, Below}
use Rattle.ring.specs.Slots.{slot}
use Rattle.ring_product.proofs.products.Goals.{In-loop-k}
use Rattle.ring_product.proofs.products.Goals as goal

-- what stands in the room is what stood there at entry
row : (c : In-loop-k) (m i : ℕ) → slot c.loop-k.work (c.args.room + 8 * m) i ≡ slot c.args.work.now c.args.room (m + i)
unfolding slot
row c m i =
    let a = c.args in
    let l = c.loop-k in
    read_later a.work.now a.at _ l.k l.work l.invariant.is (omega arith) (a.room + 8 * m) i (omega arith) ∙ slot_later a.work.now a.room m i

pub dot-v-requires : goal.dot-v-requires
dot-v-requires c =
    let a = c.args in
    let p = c.requires in
    let run : (m : ℕ) → m ≤ 2 * a.n → Below (2 ^ 56) a.n (slot c.loop-k.work (a.room + 8 * m)) = λ m h. record {
      at = λ i l. rw (row (goal.at.dot-v-requires c).In-loop-k m i) (let b = p.5.at (m + i) (omega arith) in omega arith);
    } in
    record { q_nonzero = omega arith; below = (run (2 * a.n) (omega arith), run (a.n - 1 - c.loop-k.k) (omega arith)) }

pub loop-k-preserved : goal.loop-k-preserved
unfolding modulo
loop-k-preserved c =
    let a = c.args in
    let l = c.loop-k in
    filling_more l.invariant (omega arith) (omega arith) (c.dot-v.ensures ∙ ap (λ (x : ℕ). x % a.q) (sum_cong a.n (λ i h. ap₂ ◌*◌ (row (goal.at.loop-k-preserved c).In-loop-k (2 * a.n) i) (row (goal.at.loop-k-preserved c).In-loop-k (a.n - 1 - l.k) i)))) c.write64.auto.d c.write64.ensures

pub loop-k-init : goal.loop-k-init
loop-k-init c = filling_none

pub returns : goal.returns
returns c = filling_stored _ _ c.loop-k.invariant (omega arith)
