-- `bgv::mask_within` meets its contract. Assumes nothing.
use mathlib.Core.Path.{◌∙◌}
use native.Mathlib.Omega.{arith}
use Rattle.ring.specs.Slots.{poly}
use Rattle.ring.proofs.Polynomials.{alike_refl, alike_minus, alike_mul}
use Rattle.scratch.proofs.Slots.{holds_alike, stands_alike, stands_below}
use Rattle.scratch.proofs.Loads.{lent_load, loaded_length, head_asks, head_length_lem}
use Rattle.bgv.specs.Scheme.{recovered_mask}
use Rattle.bgv.proofs.Votes.{quotients_stand}
use Rattle.bgv.proofs.mask_within.Goals as goal

pub less_product-requires : goal.less_product-requires
less_product-requires c =
    let a = c.args in
    let p = c.requires in
    let f = poly a.half.now in
    let w1 = c.copy.new.d in
    let x = lent_load a.q a.n p.0.ring_high p.0.modulus_low p.0.modulus_high a.work.now w1 0 p.3 (omega (arith, p.0.ring_high)) a.half.now p.0.sized p.0.below c.copy.ensures in
    (p.1, p.2, loaded_length a.q a.n p.0.ring_high p.0.modulus_low p.0.modulus_high f a.work.now w1 p.3 x, (head_asks a.q a.n p.0.ring_high p.0.modulus_low p.0.modulus_high f a.work.now w1 p.3 x).1)

pub quotients_within-requires : goal.quotients_within-requires
quotients_within-requires c =
    let a = c.args in
    let p = c.requires in
    let w1 = c.copy.new.d in
    let x = lent_load a.q a.n p.0.ring_high p.0.modulus_low p.0.modulus_high a.work.now w1 0 p.3 (omega (arith, p.0.ring_high)) a.half.now p.0.sized p.0.below c.copy.ensures in
    let l = loaded_length a.q a.n p.0.ring_high p.0.modulus_low p.0.modulus_high (poly a.half.now) a.work.now w1 p.3 x in
    let e = c.less_product.ensures in
    (omega (arith, p.0.ring_high, l, e.sized), stands_below a.q a.n _ w1 _ e (omega (arith, p.0.modulus_low)) p.0.modulus_high, p.4, p.5, p.6, p.0.modulus_high)

pub returns : goal.returns
unfolding recovered_mask
returns c =
    let a = c.args in
    let p = c.requires in
    let f = poly a.half.now in
    let w1 = c.copy.new.d in
    let x = lent_load a.q a.n p.0.ring_high p.0.modulus_low p.0.modulus_high a.work.now w1 0 p.3 (omega (arith, p.0.ring_high)) a.half.now p.0.sized p.0.below c.copy.ensures in
    let l = head_length_lem a.q a.n p.0.ring_high p.0.modulus_low p.0.modulus_high f a.work.now w1 p.3 x in
    let e = stands_alike c.less_product.ensures (alike_minus alike_refl (alike_mul (holds_alike x.holds) alike_refl)) in
    (c.quotients_within.ensures ∙ quotients_stand a.q a.p a.n a.bound _ w1 _ (omega (arith, p.0.modulus_low)) p.0.modulus_high e, e.sized ∙ l)
