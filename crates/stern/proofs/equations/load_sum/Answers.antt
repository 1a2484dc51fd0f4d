-- `equations::load_sum` meets its contract. Assumes nothing.
use native.Mathlib.Omega.{arith}
use Rattle.stern.specs.Internal.{words_at}
use Rattle.stern.proofs.Pairs.{lent, lent_length, lent_alike, lent_below, sum_loaded, copied_reads, copied_length}
use Rattle.stern.proofs.equations.load_sum.Goals as goal

pub add-requires : goal.add-requires
add-requires c =
    let a = c.args in
    let p = c.requires in
    let x = a.x.now in
    let w1 = c.copy.new.d in
    let lx = lent_length a.q a.n x a.from p.3 p.5 in
    let bx = lent_below a.q a.n x a.from p.3 p.5 in
    let ax = lent_alike a.q a.n x a.from p.3 p.5 in
    let ly = lent_length a.q a.n x a.other p.4 p.5 in
    let by = lent_below a.q a.n x a.other p.4 p.5 in
    let ay = lent_alike a.q a.n x a.other p.4 p.5 in
    let r = copied_reads a.q a.n a.work.now w1 w1 (lent a.q a.n x a.from p.3 p.5) (lent a.q a.n x a.other p.4 p.5) a.at p.2 lx (words_at x a.from) (words_at x a.other) ax ay c.copy.ensures in
    let m = copied_length a.q a.n a.work.now w1 w1 (lent a.q a.n x a.from p.3 p.5) (lent a.q a.n x a.other p.4 p.5) a.at p.2 lx (words_at x a.from) (words_at x a.other) ax ay c.copy.ensures in
    (p.1, omega (arith, m, p.2), omega (arith, ly), record { at = λ k l. rw (r k l) (bx.at k l) }, by)

pub returns : goal.returns
returns c =
    let a = c.args in
    let p = c.requires in
    let x = a.x.now in
    let lx = lent_length a.q a.n x a.from p.3 p.5 in
    let ax = lent_alike a.q a.n x a.from p.3 p.5 in
    let ay = lent_alike a.q a.n x a.other p.4 p.5 in
    sum_loaded a.q a.n a.work.now c.copy.new.d _ (lent a.q a.n x a.from p.3 p.5) (lent a.q a.n x a.other p.4 p.5) a.at p.2 lx (words_at x a.from) (words_at x a.other) ax ay c.copy.ensures c.add.ensures
