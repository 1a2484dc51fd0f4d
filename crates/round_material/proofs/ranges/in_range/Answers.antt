-- `ranges::in_range` meets its contract. Assumes nothing.
use Rattle.vector.specs.Vector.{vector}
use Rattle.scratch.proofs.Order.{fails, goes_on}
use Rattle.scratch.proofs.Ranges.{whole_range}
use Rattle.round_material.proofs.ranges.in_range.Goals as goal

pub returns-then-not-is_ternary : goal.returns-then-not-is_ternary
returns-then-not-is_ternary c = fails _ _ c.is_ternary.ensures c.if-not-is_ternary.true

pub returns-then-not-in_range : goal.returns-then-not-in_range
returns-then-not-in_range c =
    let a = c.args in
    let x = whole_range a.k.modulus a.k.ring a.lent.s0.now c.requires.2 c.in_range.ensures in
    goes_on _ _ c.is_ternary.ensures c.if-not-is_ternary.false (fails _ _ x c.if-not-in_range.true)

pub returns-then-not-in_range-2 : goal.returns-then-not-in_range-2
returns-then-not-in_range-2 c =
    let a = c.args in
    let x = whole_range a.k.modulus a.k.ring a.lent.s0.now c.requires.2 c.in_range.ensures in
    let y = whole_range a.k.modulus a.k.ring a.lent.e0.now c.requires.3 c.in_range-2.ensures in
    goes_on _ _ c.is_ternary.ensures c.if-not-is_ternary.false
    (goes_on _ _ x c.if-not-in_range.false (fails _ _ y c.if-not-in_range-2.true))

pub returns-then-not-in_range-3 : goal.returns-then-not-in_range-3
unfolding vector
returns-then-not-in_range-3 c =
    let a = c.args in
    let x = whole_range a.k.modulus a.k.ring a.lent.s0.now c.requires.2 c.in_range.ensures in
    let y = whole_range a.k.modulus a.k.ring a.lent.e0.now c.requires.3 c.in_range-2.ensures in
    goes_on _ _ c.is_ternary.ensures c.if-not-is_ternary.false
    (goes_on _ _ x c.if-not-in_range.false
    (goes_on _ _ y c.if-not-in_range-2.false (fails _ _ c.in_range-3.ensures c.if-not-in_range-3.true)))

pub returns : goal.returns
unfolding vector
returns c =
    let a = c.args in
    let x = whole_range a.k.modulus a.k.ring a.lent.s0.now c.requires.2 c.in_range.ensures in
    let y = whole_range a.k.modulus a.k.ring a.lent.e0.now c.requires.3 c.in_range-2.ensures in
    goes_on _ _ c.is_ternary.ensures c.if-not-is_ternary.false
    (goes_on _ _ x c.if-not-in_range.false
    (goes_on _ _ y c.if-not-in_range-2.false (goes_on _ _ c.in_range-3.ensures c.if-not-in_range-3.false c.ballots_in_range.ensures)))
