-- `bgv::noise` meets its contract. Assumes nothing.
use native.Mathlib.Omega.{arith}
use Rattle.ring.specs.Ternary.{ternary}
use Rattle.ring.proofs.Polynomials.{alike_refl, alike_minus, alike_mul}
use Rattle.scratch.proofs.Slots.{holds_alike, stands_alike, stands_after}
use Rattle.scratch.proofs.Loads.{head_asks, ternary_load, loaded_length, head_length_lem}
use Rattle.bgv.specs.Scheme.{noise_in}
use Rattle.bgv.proofs.noise.Goals as goal

pub less_product-requires : goal.less_product-requires
less_product-requires c =
    let a = c.args in
    let p = c.requires in
    let f = ternary a.q a.s.now in
    let w1 = c.load_ternary.new.work in
    let x = ternary_load a.q a.n p.0.ring_high p.0.modulus_low p.0.modulus_high a.work.now w1 0 p.2 (omega (arith, p.0.ring_high)) a.s.now p.3 c.load_ternary.ensures in
    (p.0, p.1, loaded_length a.q a.n p.0.ring_high p.0.modulus_low p.0.modulus_high f a.work.now w1 p.2 x, (head_asks a.q a.n p.0.ring_high p.0.modulus_low p.0.modulus_high f a.work.now w1 p.2 x).1)

pub returns : goal.returns
unfolding noise_in
returns c =
    let a = c.args in
    let p = c.requires in
    let f = ternary a.q a.s.now in
    let w1 = c.load_ternary.new.work in
    let x = ternary_load a.q a.n p.0.ring_high p.0.modulus_low p.0.modulus_high a.work.now w1 0 p.2 (omega (arith, p.0.ring_high)) a.s.now p.3 c.load_ternary.ensures in
    stands_alike (stands_after (head_length_lem a.q a.n p.0.ring_high p.0.modulus_low p.0.modulus_high f a.work.now w1 p.2 x) c.less_product.ensures) (alike_minus alike_refl (alike_mul (holds_alike x.holds) alike_refl))
