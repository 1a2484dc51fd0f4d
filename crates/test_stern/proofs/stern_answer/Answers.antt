-- `stern_answer` meets its contract. Assumes nothing.
use mathlib.Core.Path.{refl, sym}
use Rattle.codec.specs.Reply.{leaves}
use Rattle.test_stern.proofs.Passed.{answer_passed}
use Rattle.test_stern.proofs.Order.{answered}
use Rattle.test_stern.proofs.stern_answer.Goals as goal

pub write_answer-requires : goal.write_answer-requires
write_answer-requires c =
    let a = c.args in
    let h = answer_passed a.n a.q a.x.now a.r.now a.p.now a.salts.now a.out.now a.scratch.now a.challenge (sym c.in-Ok.ensures.replied) in
    (h.fits.ring_high, h.fits.modulus_low, h.fits.modulus_high, h.output, h.material)

pub returns-in-Ok : goal.returns-in-Ok
unfolding leaves
returns-in-Ok c = answered c.pack.ensures _ c.finish.ensures c.in-Ok.ensures.replied c.write_answer.ensures c.in-Ok.ensures.used

pub returns-in-Err : goal.returns-in-Err
unfolding leaves
returns-in-Err c = answered c.pack-in-Err.ensures _ c.finish-in-Err.ensures c.in-Err.ensures.replied refl c.in-Err.ensures.used
