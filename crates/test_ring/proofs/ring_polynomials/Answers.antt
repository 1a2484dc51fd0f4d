-- `test_ring::ring_polynomials` meets its contract. Assumes nothing.
use mathlib.Core.Path.{sym, ap, ◌∙◌}
use Rattle.codec.specs.Reply.{packed}
use Rattle.scratch.proofs.Zeroizing.{leaves_taken, leaves_refused}
use Rattle.test_ring.proofs.Outcome.{Fine, fine}
use Rattle.test_ring.specs.Calls.{polynomials_out}
use Rattle.test_ring.proofs.ring_polynomials.Goals as goal

pub compute-requires : goal.compute-requires
compute-requires c =
    let a = c.args in
    let f : Fine a.n a.q a.work.now a.a.now a.b.now = fine a.operation a.n a.q a.work.now a.a.now a.b.now (sym c.in-Ok.ensures) in
    record { n_bound = (f.size, f.positive, f.bound, f.work, f.left, f.right); below = (f.below_left, f.below_right) }

pub returns-in-Ok : goal.returns-in-Ok
unfolding polynomials_out
returns-in-Ok c = (ap packed c.in-Ok.ensures, c.compute.ensures ∙ leaves_taken _ _ (sym c.in-Ok.ensures))

pub returns-in-Err : goal.returns-in-Err
unfolding polynomials_out
returns-in-Err c = (c.pack.ensures ∙ ap packed c.in-Err.ensures, leaves_refused _ _ _ _ (sym c.in-Err.ensures))
