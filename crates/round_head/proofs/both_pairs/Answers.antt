-- `round_head::both_pairs` meets its contract. Assumes nothing.
use mathlib.Core.Path.{◌∙◌}
use Prim.Native.Nat.{◌+◌, ◌-◌, ◌*◌}
use native.Mathlib.Omega.{arith}
use Rattle.commitment.specs.Commitment.{keys_of}
use Rattle.stern.proofs.Answered.{lent_length}
use Rattle.round_head.proofs.CommittedPairs.{halves_written, both_written}
use Rattle.round_head.proofs.both_pairs.Goals as goal

pub pair-requires : goal.pair-requires
pair-requires c =
    let a = c.args in
    let p = c.requires in
    (p.0, p.1, lent_length a.r.now 0 (3 * a.n - 0) (3 * a.n) (omega arith) (omega (arith, p.3)), p.4)

pub write_halves-requires : goal.write_halves-requires
write_halves-requires c =
    let p = c.requires in
    (p.1.ring_high, omega (arith, p.5), c.pair.ensures.sized ∙ p.4)

pub pair_difference-requires : goal.pair_difference-requires
pair_difference-requires c =
    let a = c.args in
    let p = c.requires in
    (p.0, p.1, p.2, lent_length a.r.now (3 * a.n) (6 * a.n - 3 * a.n) (3 * a.n) (omega arith) (omega (arith, p.3)), c.pair.ensures.sized ∙ p.4)

pub write_halves-requires-2 : goal.write_halves-requires-2
write_halves-requires-2 c =
    let p = c.requires in
    (p.1.ring_high, omega (arith, p.5, c.write_halves.auto.out), c.pair_difference.ensures.sized ∙ c.pair.ensures.sized ∙ p.4)

pub returns : goal.returns
returns c =
    let a = c.args in
    let p = c.requires in
    let l = c.pair.ensures in
    let o = c.pair_difference.ensures in
    let d1 = c.write_halves.new.out in
    let d2 = c.write_halves-2.new.out in
    (both_written a.q a.n (keys_of a.n a.k.now) a.out.now d1 d2 a.r.now a.x.now a.x0.now a.at (3 * a.n - 0) (6 * a.n - 3 * a.n) (omega arith) (omega arith) p.5 (halves_written a.at a.out.now d1 l c.write_halves.ensures) (halves_written (a.at + 16 * a.n) d1 d2 o c.write_halves-2.ensures), o.sized ∙ l.sized)
