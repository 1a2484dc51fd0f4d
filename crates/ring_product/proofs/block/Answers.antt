-- `block` meets its contract. Assumes nothing.
use mathlib.Core.Path.{◌≡◌, subst}
use Prim.Native.Nat.{ℕ, ◌+◌, ◌*◌, ◌/◌, ◌%◌}
use native.Mathlib.Omega.{arith}
use Rattle.modular.proofs.Digits.{digits_le}
use Rattle.ring_product.proofs.Columns.{columns_none, columns_room, columns_more}
use Rattle.ring_product.specs.Internal.{Columns}
use Rattle.ring.specs.Slots.{slot}
use Rattle.ring_product.proofs.block.Goals.{After-read64-v}
use Rattle.ring_product.proofs.block.Goals as goal

pub loop-j-init : goal.loop-j-init
loop-j-init c = columns_none _ _ 0 0 0 0

-- the columns with one more product of each kind
more : (c : After-read64-v) → let l = c.loop-j in let u = c.read64-u.result in let v = c.read64-v.result in
    Columns (slot c.args.w.now c.args.x) (slot c.args.w.now c.args.y) (l.j + 1)
    (l.lo + u % 268435456 * (v % 268435456))
    (l.mid + (u % 268435456 * (v / 268435456 % 268435456) + u / 268435456 % 268435456 * (v % 268435456)))
    (l.hi + u / 268435456 % 268435456 * (v / 268435456 % 268435456))
unfolding slot
more c =
    let p = c.requires.below in
    let l = c.loop-j in
    columns_more _ _ l.j _ _ _ l.invariant c.read64-u.result c.read64-v.result c.read64-u.ensures c.read64-v.ensures
    (rw c.read64-u.ensures (p.0.at l.j (omega arith)))
    (rw c.read64-v.ensures (p.1.at l.j (omega arith)))

pub loop-j-preserved : goal.loop-j-preserved
loop-j-preserved c = more (goal.at.loop-j-preserved c).After-read64-v

pub overflow_mul-lo : goal.overflow_mul-lo
overflow_mul-lo c = omega (arith, digits_le (c.read64-u.result % 268435456) (c.read64-v.result % 268435456) (omega arith) (omega arith))

pub overflow_add-lo : goal.overflow_add-lo
overflow_add-lo c = record { fits = (columns_room _ _ _ _ _ _ (more (goal.at.overflow_add-lo c).After-read64-v) (omega arith)).0 }

pub overflow_mul-mid : goal.overflow_mul-mid
overflow_mul-mid c = omega (arith, digits_le (c.read64-u.result % 268435456) (c.read64-v.result / 268435456 % 268435456) (omega arith) (omega arith))

pub overflow_mul-mid-in-loop-j : goal.overflow_mul-mid-in-loop-j
overflow_mul-mid-in-loop-j c = omega (arith, digits_le (c.read64-u.result / 268435456 % 268435456) (c.read64-v.result % 268435456) (omega arith) (omega arith))

pub overflow_add-mid : goal.overflow_add-mid
overflow_add-mid c = omega (arith, digits_le (c.read64-u.result % 268435456) (c.read64-v.result / 268435456 % 268435456) (omega arith) (omega arith), digits_le (c.read64-u.result / 268435456 % 268435456) (c.read64-v.result % 268435456) (omega arith) (omega arith))

pub overflow_add-mid-in-loop-j : goal.overflow_add-mid-in-loop-j
overflow_add-mid-in-loop-j c = record { fits = (columns_room _ _ _ _ _ _ (more (goal.at.overflow_add-mid-in-loop-j c).After-read64-v) (omega arith)).1 }

pub overflow_mul-hi : goal.overflow_mul-hi
overflow_mul-hi c = omega (arith, digits_le (c.read64-u.result / 268435456 % 268435456) (c.read64-v.result / 268435456 % 268435456) (omega arith) (omega arith))

pub overflow_add-hi : goal.overflow_add-hi
overflow_add-hi c = record { fits = (columns_room _ _ _ _ _ _ (more (goal.at.overflow_add-hi c).After-read64-v) (omega arith)).2 }

pub returns : goal.returns
returns c =
    let a = c.args in
    let l = c.loop-j in
    let e : l.j ≡ a.n = omega arith in
    subst (λ (j : ℕ). Columns (slot a.w.now a.x) (slot a.w.now a.y) j l.lo l.mid l.hi) e l.invariant
