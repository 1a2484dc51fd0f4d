-- `equations::subtract_two` meets its contract. Assumes nothing.
use Prim.Native.Nat.{◌<◌}
use native.Mathlib.Omega.{arith}
use Rattle.stern.specs.Internal.{words_at}
use Rattle.stern.proofs.Pairs.{lent, lent_length, lent_alike, lent_below, less_length, less_below, two_less}
use Rattle.stern.proofs.equations.subtract_two.Goals as goal

pub subtract-requires : goal.subtract-requires
subtract-requires c =
    let a = c.args in
    let p = c.requires in
    let l = lent_length a.q a.n a.c.now a.from p.4 p.6 in
    (p.1, p.2, omega (arith, l), p.3, lent_below a.q a.n a.c.now a.from p.4 p.6)

pub subtract-requires-2 : goal.subtract-requires-2
subtract-requires-2 c =
    let a = c.args in
    let p = c.requires in
    let s = p.0 in
    let z : 0 < a.q = omega arith in
    let x = a.c.now in
    let w1 = c.subtract.new.work in
    let ax = lent_alike a.q a.n x a.from p.4 p.6 in
    let ay = lent_alike a.q a.n x a.other p.5 p.6 in
    let ly = lent_length a.q a.n x a.other p.5 p.6 in
    let m = less_length a.q a.n z p.1 a.work.now w1 w1 (lent a.q a.n x a.from p.4 p.6) (lent a.q a.n x a.other p.5 p.6) a.at p.2 (words_at x a.from) (words_at x a.other) ax ay c.subtract.ensures in
    let b = less_below a.q a.n z p.1 a.work.now w1 w1 (lent a.q a.n x a.from p.4 p.6) (lent a.q a.n x a.other p.5 p.6) a.at p.2 (words_at x a.from) (words_at x a.other) ax ay c.subtract.ensures in
    (p.1, omega (arith, m, p.2), omega (arith, ly), b, lent_below a.q a.n x a.other p.5 p.6)

pub returns : goal.returns
returns c =
    let a = c.args in
    let p = c.requires in
    let s = p.0 in
    let z : 0 < a.q = omega arith in
    let x = a.c.now in
    let ax = lent_alike a.q a.n x a.from p.4 p.6 in
    let ay = lent_alike a.q a.n x a.other p.5 p.6 in
    two_less a.q a.n z p.1 a.work.now c.subtract.new.work _ (lent a.q a.n x a.from p.4 p.6) (lent a.q a.n x a.other p.5 p.6) a.at p.2 (words_at x a.from) (words_at x a.other) ax ay c.subtract.ensures c.subtract-2.ensures
