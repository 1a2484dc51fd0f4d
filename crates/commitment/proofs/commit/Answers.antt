-- `commit` meets its contract. Assumes nothing.
use mathlib.Core.Logic.{inl, inr}
use Prim.Native.Nat.{◌<◌}
use native.Mathlib.Omega.{arith}
use borrow.Author.Rules.{rules}
use Rattle.codec.specs.Bytes.{Octets}
use Rattle.scratch.proofs.Slotted.{slotted_below, slotted_slots}
use Rattle.commitment.proofs.Steps.{product_asks, public1, public2, public3, slotted0, slotted1, slotted2, slotted3, slotted4, pair_stands}
use Rattle.commitment.proofs.commit.Goals as goal

pub copy_slot-requires : goal.copy_slot-requires
copy_slot-requires c =
    let a = c.args in
    let p = c.requires in
    let k = p.public_keys.0 in
    let h = k.one.ring_high in
    let f = k.one.modulus_high in
    let t = k.one.modulus_low in
    let z : 0 < a.q = omega arith in
    let o : Octets a.work.now = λ i l. search rules in
    slotted_slots a.q a.n h z f (slotted0 a.q a.n h z f a.k.now a.work.now k o p.public_keys.1 p.below) 4 2 (omega arith) (omega arith) (inl (omega arith))

pub add_product-requires : goal.add_product-requires
add_product-requires c =
    let a = c.args in
    let p = c.requires in
    let k = p.public_keys.0 in
    let h = k.one.ring_high in
    let f = k.one.modulus_high in
    let t = k.one.modulus_low in
    let z : 0 < a.q = omega arith in
    let o : Octets a.work.now = λ i l. search rules in
    product_asks a.q a.n h z f (slotted1 a.q a.n h z f a.k.now a.work.now k o p.public_keys.1 p.below c.copy_slot.new.work c.copy_slot.ensures) 3 4 (omega arith) (omega arith) (omega arith) (inr (omega arith)) _ (public3 a.q a.n h z f a.k.now a.work.now k o p.public_keys.1 p.below)

pub add_slot-requires : goal.add_slot-requires
add_slot-requires c =
    let a = c.args in
    let p = c.requires in
    let k = p.public_keys.0 in
    let h = k.one.ring_high in
    let f = k.one.modulus_high in
    let t = k.one.modulus_low in
    let z : 0 < a.q = omega arith in
    let o : Octets a.work.now = λ i l. search rules in
    let s = slotted2 a.q a.n h z f a.k.now a.work.now k o p.public_keys.1 p.below c.copy_slot.new.work c.copy_slot.ensures c.add_product.new.work c.add_product.ensures in
    (f, slotted_slots a.q a.n h z f s 3 1 (omega arith) (omega arith) (inl (omega arith)), slotted_below a.q a.n h z f s 3 (omega arith), slotted_below a.q a.n h z f s 1 (omega arith))

pub add_product-requires-2 : goal.add_product-requires-2
add_product-requires-2 c =
    let a = c.args in
    let p = c.requires in
    let k = p.public_keys.0 in
    let h = k.one.ring_high in
    let f = k.one.modulus_high in
    let t = k.one.modulus_low in
    let z : 0 < a.q = omega arith in
    let o : Octets a.work.now = λ i l. search rules in
    product_asks a.q a.n h z f (slotted3 a.q a.n h z f a.k.now a.work.now k o p.public_keys.1 p.below c.copy_slot.new.work c.copy_slot.ensures c.add_product.new.work c.add_product.ensures c.add_slot.new.work c.add_slot.ensures) 0 1 (omega arith) (omega arith) (omega arith) (inr (omega arith)) _ (public1 a.q a.n h z f a.k.now a.work.now k o p.public_keys.1 p.below)

pub add_product-requires-3 : goal.add_product-requires-3
add_product-requires-3 c =
    let a = c.args in
    let p = c.requires in
    let k = p.public_keys.0 in
    let h = k.one.ring_high in
    let f = k.one.modulus_high in
    let t = k.one.modulus_low in
    let z : 0 < a.q = omega arith in
    let o : Octets a.work.now = λ i l. search rules in
    product_asks a.q a.n h z f (slotted4 a.q a.n h z f a.k.now a.work.now k o p.public_keys.1 p.below c.copy_slot.new.work c.copy_slot.ensures c.add_product.new.work c.add_product.ensures c.add_slot.new.work c.add_slot.ensures c.add_product-2.new.work c.add_product-2.ensures) 0 2 (omega arith) (omega arith) (omega arith) (inr (omega arith)) _ (public2 a.q a.n h z f a.k.now a.work.now k o p.public_keys.1 p.below)

pub returns : goal.returns
returns c =
    let a = c.args in
    let p = c.requires in
    let k = p.public_keys.0 in
    let h = k.one.ring_high in
    let f = k.one.modulus_high in
    let t = k.one.modulus_low in
    let z : 0 < a.q = omega arith in
    let o : Octets a.work.now = λ i l. search rules in
    pair_stands a.q a.n h z f a.k.now a.work.now k o p.public_keys.1 p.below c.copy_slot.new.work c.copy_slot.ensures c.add_product.new.work c.add_product.ensures c.add_slot.new.work c.add_slot.ensures c.add_product-2.new.work c.add_product-2.ensures c.add_product-3.new.work c.add_product-3.ensures
