-- `ring_transform::butterflies` meets its contract. Assumes nothing.
use mathlib.Core.Path.{◌≡◌, sym, ap, ap₂, ◌∙◌}
use Prim.Native.Nat.{ℕ, ◌+◌, ◌-◌, ◌*◌, ◌%◌, ◌<◌}
use native.Mathlib.Omega.{arith}
use Rattle.codec.specs.Bytes.{put, words}
use Rattle.montgomery.specs.Internal.{radix_inverse}
use Rattle.ring.specs.Slots.{slot}
use Rattle.ring_transform.proofs.Places.{vec_at}
use Rattle.ring_transform.proofs.Pairs.{halves_none, halves_more, halves_all, read_low, read_high, level_list}
use Rattle.ring_transform.proofs.butterflies.Goals.{After-read64-a, After-read64-b}
use Rattle.ring_transform.proofs.butterflies.Goals as goal

a-is : (c : After-read64-a) → let a = c.args in c.read64-a.result ≡ slot a.work.now a.at c.loop-j.j
a-is c = let p = c.requires in c.read64-a.ensures ∙ read_low c.loop-j.invariant p.2 (omega arith)

b-is : (c : After-read64-b) → let a = c.args in
    c.read64-b.result ≡ slot a.work.now a.at (a.m + c.loop-j.j)
b-is c = let p = c.requires in c.read64-b.ensures ∙ read_high c.loop-j.invariant p.2 (omega arith)

a-below : (c : After-read64-a) → c.read64-a.result < c.args.q
a-below c =
    let a = c.args in
    rw (a-is c) (vec_at a.work.now a.at c.requires.3 c.loop-j.j (omega arith))

b-below : (c : After-read64-b) → c.read64-b.result < c.args.q
b-below c =
    let a = c.args in
    rw (b-is c) (vec_at a.work.now a.at c.requires.3 (a.m + c.loop-j.j) (omega arith))

pub product-y-requires : goal.product-y-requires
product-y-requires c = let p = c.requires in (p.0, b-below (goal.at.product-y-requires c).After-read64-b, p.1)

pub corrected-u-requires : goal.corrected-u-requires
corrected-u-requires c = let p = c.requires in omega (arith, p.0.small, p.1, a-below (goal.at.corrected-u-requires c).After-read64-a, c.product-y.ensures.1)

pub overflow_add-a : goal.overflow_add-a
overflow_add-a c = let p = c.requires in omega (arith, p.0.small, a-below (goal.at.overflow_add-a c).After-read64-a, c.product-y.ensures.1)

pub overflow_add-a-in-loop-j : goal.overflow_add-a-in-loop-j
overflow_add-a-in-loop-j c = let p = c.requires in omega (arith, p.0.small, a-below (goal.at.overflow_add-a-in-loop-j c).After-read64-a, c.product-y.ensures.1)

pub corrected-v-requires : goal.corrected-v-requires
corrected-v-requires c = let p = c.requires in omega (arith, p.0.small, p.1, a-below (goal.at.corrected-v-requires c).After-read64-a, c.product-y.ensures.1)

pub loop-j-preserved : goal.loop-j-preserved
loop-j-preserved c =
    let a = c.args in
    let x = a-is (goal.at.loop-j-preserved c).After-read64-a in
    let y = c.product-y.ensures.0 ∙ ap (λ (b : ℕ). a.z * radix_inverse a.q * b % a.q) (b-is (goal.at.loop-j-preserved c).After-read64-b) in
    halves_more c.loop-j.invariant c.requires.2 (omega arith)
    (c.corrected-u.ensures.0 ∙ ap₂ (λ (m n : ℕ). (m + n) % a.q) x y) (c.corrected-v.ensures.0 ∙ ap₂ (λ (m n : ℕ). (m + (a.q - n)) % a.q) x y)
    c.write64.ensures c.write64-in-loop-j.ensures

pub returns : goal.returns
returns c =
    let a = c.args in
    halves_all c.loop-j.invariant c.requires.2 (omega arith) ∙ ap (λ x. put a.work.now a.at (words x)) (sym (level_list a.q (a.z * radix_inverse a.q) a.m a.work.now a.at))

pub loop-j-init : goal.loop-j-init
loop-j-init c = halves_none
