-- `collision` meets its contract. Assumes nothing.
use mathlib.Core.Path.{ap, ◌∙◌}
use Prim.Native.Nat.{◌*◌}
use native.Mathlib.Omega.{arith}
use Rattle.codec.specs.Bytes.{zeros}
use Rattle.codec.specs.Lists.{all_below}
use Rattle.codec.proofs.Laws.{both}
use Rattle.commitment.specs.Commitment.{keys_of}
use Rattle.vector.specs.Vector.{vector}
use Rattle.vector.specs.Permutation.{entries}
use Rattle.vector.proofs.Counts.{permutes_below}
use Rattle.stern.specs.Shortness.{setting, answer1_of, answer2_of, answer3_of}
use Rattle.round_collision.proofs.Agreement.{three_compared}
use Rattle.round_collision.proofs.collision.Goals as goal

pub second_agrees-two-requires : goal.second_agrees-two-requires
second_agrees-two-requires c =
    let a = c.args in
    let p = c.requires in
    let r = p.1 in
    (p.0.keys.one.ring_high, c.first_agrees-one.ensures.kept_work ∙ p.0.sized_work, r.sized1, r.sized3, permutes_below (42 * a.n) (entries (answer3_of a.n a.answer3.now).p) r.permutes3)

pub third_agrees-three-requires : goal.third_agrees-three-requires
third_agrees-three-requires c =
    let a = c.args in
    let p = c.requires in
    let g = p.0.keys.one in
    let r = p.1 in
    let some = g.modulus_low in record { n_bound = (g.ring_high, omega arith, g.modulus_high, r.sized1, r.sized2); answer1_value = ((both (all_below 3 (answer1_of a.n a.answer1.now).w) (all_below a.q (vector (answer1_of a.n a.answer1.now).t)) r.below1).1, r.below2, permutes_below (42 * a.n) (entries (answer2_of a.n a.answer2.now).p) r.permutes2) }

pub returns : goal.returns
returns c =
    let a = c.args in
    let n = a.n in
    let e = c.first_agrees-one.ensures in
    let f = c.second_agrees-two.ensures in
    record {
      found = c.lowest.ensures ∙ three_compared (setting a.q n (keys_of n a.k.now) a.c.now) (answer1_of n a.answer1.now) (answer2_of n a.answer2.now) (answer3_of n a.answer3.now) e.told f.told c.third_agrees-three.ensures;
      cleared_work = c.wipe.ensures ∙ ap zeros (f.kept_work ∙ e.kept_work);
      cleared_room = c.wipe-2.ensures ∙ ap zeros e.kept_room;
    }
