-- `equations::equation_pair` meets its contract. Assumes nothing.
use Prim.Native.Nat.{◌<◌}
use native.Mathlib.Omega.{arith}
use Rattle.commitment.specs.Commitment.{keys_of}
use Rattle.stern.proofs.Pairs.{row_below, second_length, second_below, pairs_less, when_less}
use Rattle.stern.proofs.equations.equation_pair.Goals as goal

pub subtract_two-requires : goal.subtract_two-requires
subtract_two-requires c =
    let a = c.args in
    let p = c.requires.public_keys in
    let r = c.requires.n_in_bounds c.if-less.true in
    let t = p.0.one.modulus_low in
    let h = p.0.one.ring_high in
    let z : 0 < a.q = omega arith in
    let l = c.sums.ensures.sized in
    (t, p.0.one.modulus_high, omega (arith, p.1), row_below a.q a.n h z p.0.one.modulus_high a.work.now _ a.c.now _ a.from p.1 c.sums.ensures, omega (arith, r.0), omega (arith, r.0), r.1)

pub subtract_two-requires-then-less : goal.subtract_two-requires-then-less
subtract_two-requires-then-less c =
    let a = c.args in
    let p = c.requires.public_keys in
    let r = c.requires.n_in_bounds c.if-less.true in
    let t = p.0.one.modulus_low in
    let h = p.0.one.ring_high in
    let z : 0 < a.q = omega arith in
    let l = second_length a.q a.n h z p.0.one.modulus_high a.work.now _ a.c.now _ a.from p.1 c.sums.ensures _ c.subtract_two.ensures in
    (t, p.0.one.modulus_high, omega (arith, l), second_below a.q a.n h z p.0.one.modulus_high a.work.now _ a.c.now _ a.from p.1 c.sums.ensures _ c.subtract_two.ensures, omega (arith, r.0), omega (arith, r.0), r.1)

-- the places of the pairs fit
pub returns-then-less : goal.returns-then-less
returns-then-less c =
    let a = c.args in
    let p = c.requires.public_keys in
    let t = p.0.one.modulus_low in
    let z : 0 < a.q = omega arith in
    let m = pairs_less a.q a.n p.0.one.ring_high z p.0.one.modulus_high a.work.now _ a.c.now _ a.from p.1 c.sums.ensures _ c.subtract_two.ensures _ c.subtract_two-then-less.ensures in
    when_less a.q a.n (keys_of a.n a.k.now) a.c.now a.less a.x.now a.first a.message a.from a.work.now _ c.if-less.true m
