-- `product` meets its contract. Assumes nothing.
use mathlib.Core.Path.{refl}
use Prim.Native.Nat.{◌*◌}
use native.Mathlib.Omega.{arith}
use borrow.Author.Rules.{rules}
use Rattle.scratch.proofs.Order.{length_asked, stops, follows}
use Rattle.scratch.proofs.Zeroizing.{worked_refused}
use Rattle.scheme.proofs.Passed.{done}
use Rattle.scheme_products.proofs.Products.{factors, factor_length, factor_below, product_stands, product_written}
use Rattle.scheme_products.proofs.product.Goals as goal

pub returns-then-not-sized : goal.returns-then-not-sized
returns-then-not-sized c = worked_refused (stops 1 c.sized.ensures _ c.if-not-sized.true refl) refl

pub both_in_range-requires : goal.both_in_range-requires
both_in_range-requires c = (length_asked _ _ 0 c.sized.ensures c.if-not-sized.false, length_asked _ _ 1 c.sized.ensures c.if-not-sized.false)

pub returns-then-not-both_in_range : goal.returns-then-not-both_in_range
returns-then-not-both_in_range c = worked_refused (follows 1 c.sized.ensures _ c.if-not-sized.false (stops 5 c.both_in_range.ensures _ c.if-not-both_in_range.true refl)) refl

pub copy-requires : goal.copy-requires
copy-requires c =
    let a = c.args in
    let f = factors a.k c.requires a.x.now a.y.now a.product.now a.scratch.now c.sized.ensures c.if-not-sized.false c.both_in_range.ensures c.if-not-both_in_range.false in
    omega (arith, f.one.sized, f.one.ring_high, f.scratch)

pub plain-requires : goal.plain-requires
plain-requires c =
    let a = c.args in
    let f = factors a.k c.requires a.x.now a.y.now a.product.now a.scratch.now c.sized.ensures c.if-not-sized.false c.both_in_range.ensures c.if-not-both_in_range.false in
    let l = factor_length f.one a.scratch.now f.scratch c.copy.ensures in
    record { q_nonzero = (omega (arith, f.one.modulus_low), f.one.modulus_high, f.one.ring_high, omega arith, omega (arith, l, f.one.ring_high), omega (arith, f.one.sized, f.other.sized)); below = (factor_below f.one a.scratch.now f.scratch c.copy.ensures, let one = f.one.below in let other = f.other.below in search rules) }

pub hand_out-requires : goal.hand_out-requires
hand_out-requires c =
    let a = c.args in
    let f = factors a.k c.requires a.x.now a.y.now a.product.now a.scratch.now c.sized.ensures c.if-not-sized.false c.both_in_range.ensures c.if-not-both_in_range.false in
    let s = product_stands f.one a.scratch.now f.scratch c.copy.ensures _ (24 * a.k.ring) (omega arith) c.plain.ensures in
    (omega (arith, f.room), omega (arith, s.sized, f.scratch, f.one.ring_high))

pub returns : goal.returns
returns c =
    let a = c.args in
    let f = factors a.k c.requires a.x.now a.y.now a.product.now a.scratch.now c.sized.ensures c.if-not-sized.false c.both_in_range.ensures c.if-not-both_in_range.false in
    product_written a.k a.x.now a.y.now a.product.now a.scratch.now f (24 * a.k.ring) (omega arith) c.copy.ensures c.plain.ensures c.hand_out.ensures (follows 1 c.sized.ensures _ c.if-not-sized.false (follows 5 c.both_in_range.ensures _ c.if-not-both_in_range.false done))
