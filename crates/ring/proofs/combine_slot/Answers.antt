-- `ring::combine_slot` meets its contract. Assumes nothing.
use Rattle.std.proofs.Common.{◌-◌, length, take, length-take, length-drop, arith}
use Rattle.ring.proofs.Parts.{slot_high, slot_low, poly_high, poly_low, sum_high, sum_low}
use Rattle.ring.specs.Internal.{sign}
use Rattle.ring.proofs.combine_slot.Goals as goal

pub combine_lent-requires : goal.combine_lent-requires
combine_lent-requires c =
    let a = c.args in
    let p = c.requires in
    rw (c.split_at_mut-low.ensures.front, c.split_at_mut-low.ensures.back) (
      omega arith,
      simp length-drop (omega (arith, p.1.one)),
      simp (length-take, length-drop) (omega (arith, p.1)),
      record { at = λ k l. rw (slot_high a.work.now a.at k) (p.2.at k l) },
      record { at = λ k l. rw (poly_low a.work.now a.from a.at (length (take a.at a.work.now) - a.from) k (omega (arith, p.1)) (simp length-take (omega (arith, p.1)))) (p.3.at k l) },
    )

pub combine_lent-requires-else-from-at : goal.combine_lent-requires-else-from-at
combine_lent-requires-else-from-at c =
    let a = c.args in
    let p = c.requires in
    rw (c.split_at_mut-low-else-from-at.ensures.front, c.split_at_mut-low-else-from-at.ensures.back) (
      omega arith,
      simp length-take (omega (arith, p.1)),
      simp length-drop (omega (arith, p.1)),
      record { at = λ k l. rw (slot_low a.work.now a.at a.from k (omega (arith, p.1))) (p.2.at k l) },
      record { at = λ k l. rw (poly_high a.work.now a.from k) (p.3.at k l) },
    )

pub returns-then-from-at : goal.returns-then-from-at
returns-then-from-at c =
    let a = c.args in
    let s = c.split_at_mut-low.ensures in
    rw (c.combine_lent.ensures, s.front, s.back) (sum_high a.work.now a.q a.n (sign a.q a.minus) a.at a.from _ (omega (arith, c.requires.1)) (simp length-take (omega (arith, c.requires.1))))

pub returns-else-from-at : goal.returns-else-from-at
returns-else-from-at c =
    let a = c.args in
    let s = c.split_at_mut-low-else-from-at.ensures in
    rw (c.combine_lent-else-from-at.ensures, s.front, s.back) (sum_low a.work.now a.q a.n (sign a.q a.minus) a.at a.from (omega (arith, c.requires.1)) (omega (arith, c.requires.1.other)))
