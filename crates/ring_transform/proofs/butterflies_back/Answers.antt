-- `ring_transform::butterflies_back` meets its contract. Assumes nothing.
use mathlib.Core.Path.{◌≡◌, sym, ap, ap₂, ◌∙◌}
use Prim.Native.Nat.{ℕ, ◌+◌, ◌-◌, ◌*◌, ◌%◌, ◌<◌}
use native.Mathlib.Omega.{arith}
use Rattle.codec.specs.Bytes.{put, words}
use Rattle.montgomery.specs.Internal.{radix_inverse}
use Rattle.ring.specs.Slots.{slot}
use Rattle.ring_transform.proofs.Places.{vec_at}
use Rattle.ring_transform.proofs.Pairs.{halves_none, halves_more, halves_all, read_low, read_high, united_list}
use Rattle.ring_transform.proofs.butterflies_back.Goals.{After-read64-u, After-read64-v}
use Rattle.ring_transform.proofs.butterflies_back.Goals as goal

u-is : (c : After-read64-u) → let a = c.args in c.read64-u.result ≡ slot a.work.now a.at c.loop-j.j
u-is c = let p = c.requires in c.read64-u.ensures ∙ read_low c.loop-j.invariant p.2 (omega arith)

v-is : (c : After-read64-v) → let a = c.args in
    c.read64-v.result ≡ slot a.work.now a.at (a.m + c.loop-j.j)
v-is c = let p = c.requires in c.read64-v.ensures ∙ read_high c.loop-j.invariant p.2 (omega arith)

u-below : (c : After-read64-u) → c.read64-u.result < c.args.q
u-below c =
    let a = c.args in
    rw (u-is c) (vec_at a.work.now a.at c.requires.3 c.loop-j.j (omega arith))

v_below : (c : After-read64-v) → c.read64-v.result < c.args.q
v_below c =
    let a = c.args in
    rw (v-is c) (vec_at a.work.now a.at c.requires.3 (a.m + c.loop-j.j) (omega arith))

pub overflow_add-u : goal.overflow_add-u
overflow_add-u c = let p = c.requires in omega (arith, p.0.small, u-below (goal.at.overflow_add-u c).After-read64-u, v_below (goal.at.overflow_add-u c).After-read64-v)

pub corrected-a-requires : goal.corrected-a-requires
corrected-a-requires c = let p = c.requires in omega (arith, p.0.small, p.1, u-below (goal.at.corrected-a-requires c).After-read64-u, v_below (goal.at.corrected-a-requires c).After-read64-v)

pub overflow_sub-q : goal.overflow_sub-q
overflow_sub-q c = omega (arith, u-below (goal.at.overflow_sub-q c).After-read64-u)

pub overflow_add-v : goal.overflow_add-v
overflow_add-v c = let p = c.requires in omega (arith, p.0.small, v_below (goal.at.overflow_add-v c).After-read64-v)

pub corrected-d-requires : goal.corrected-d-requires
corrected-d-requires c = let p = c.requires in omega (arith, p.0.small, p.1, u-below (goal.at.corrected-d-requires c).After-read64-u, v_below (goal.at.corrected-d-requires c).After-read64-v)

pub product-b-requires : goal.product-b-requires
product-b-requires c = let p = c.requires in (p.0, c.corrected-d.ensures.1, p.1)

pub loop-j-preserved : goal.loop-j-preserved
loop-j-preserved c =
    let a = c.args in
    let x = u-is (goal.at.loop-j-preserved c).After-read64-u in
    let y = v-is (goal.at.loop-j-preserved c).After-read64-v in
    let d = c.corrected-d.ensures.0 ∙ ap₂ (λ (m n : ℕ). (n + (a.q - m)) % a.q) x y in
    halves_more c.loop-j.invariant c.requires.2 (omega arith)
    (c.corrected-a.ensures.0 ∙ ap₂ (λ (m n : ℕ). (m + n) % a.q) x y) (c.product-b.ensures.0 ∙ ap (λ (n : ℕ). a.y * radix_inverse a.q * n % a.q) d)
    c.write64.ensures c.write64-in-loop-j.ensures

pub returns : goal.returns
returns c =
    let a = c.args in
    halves_all c.loop-j.invariant c.requires.2 (omega arith) ∙ ap (λ x. put a.work.now a.at (words x)) (sym (united_list a.q (a.y * radix_inverse a.q) a.m a.work.now a.at))

pub loop-j-init : goal.loop-j-init
loop-j-init c = halves_none
