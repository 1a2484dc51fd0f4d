-- `stern_digests` meets its contract. Assumes nothing.
use mathlib.Core.Path.{refl, sym, ap, ◌∙◌}
use native.Mathlib.Omega.{arith}
use lib.ListN.{length, length-replicate}
use Rattle.codec.proofs.Laws.{put_whole}
use Rattle.codec.specs.Reply.{leaves}
use Rattle.commitment.specs.Commitment.{keys_of}
use Rattle.stern.specs.Shortness.{drawn_of, honest_digests}
use Rattle.test_stern.proofs.Passed.{digests_passed, digests_length}
use Rattle.test_stern.proofs.Order.{used_taken, answered}
use Rattle.test_stern.proofs.stern_digests.Goals as goal

pub write_digests-requires : goal.write_digests-requires
write_digests-requires c =
    let a = c.args in
    let t = c.in-Ok.ensures in
    let h = digests_passed a.n a.q a.x.now a.r.now a.p.now a.salts.now a.out.now a.scratch.now a.keys.now (sym t.replied) in
    (h.0, t.kept ∙ h.1.scratch, omega (arith, h.1.output), h.1.material)

pub returns-in-Ok : goal.returns-in-Ok
unfolding leaves
returns-in-Ok c =
    let a = c.args in
    let t = c.in-Ok.ensures in
    let h = digests_passed a.n a.q a.x.now a.r.now a.p.now a.salts.now a.out.now a.scratch.now a.keys.now (sym t.replied) in
    let k = keys_of a.n a.keys.now in
    let d = drawn_of a.p.now a.r.now a.salts.now in
    let w = c.write_digests.ensures in
    answered c.pack.ensures _ c.finish.ensures t.replied (w.0 ∙ put_whole a.out.now (honest_digests a.q a.n k a.x.now d) (digests_length a.q a.n k a.x.now d ∙ sym h.1.output))
    (used_taken _ _ _ (ap length w.1 ∙ length-replicate _ 0 ∙ t.kept) refl)

pub returns-in-Err : goal.returns-in-Err
unfolding leaves
returns-in-Err c = answered c.pack-in-Err.ensures _ c.finish-in-Err.ensures c.in-Err.ensures.replied refl c.in-Err.ensures.used
