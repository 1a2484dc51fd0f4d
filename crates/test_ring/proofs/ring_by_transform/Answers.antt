-- `test_ring::ring_by_transform` meets its contract. Assumes nothing.
use mathlib.Core.Path.{sym, ap, ◌∙◌}
use native.Mathlib.Omega.{arith}
use Rattle.codec.specs.Reply.{packed}
use Rattle.scratch.proofs.Zeroizing.{leaves_taken, leaves_refused}
use Rattle.test_ring.proofs.Transforms.{shown, below_loaded, length_loaded, produced}
use Rattle.test_ring.specs.Calls.{transform_out}
use Rattle.test_ring.proofs.ring_by_transform.Goals as goal

pub copy-requires : goal.copy-requires
copy-requires c =
    let a = c.args in
    let f = shown a.n a.root a.q a.work.now a.a.now a.b.now (sym c.in-Ok.ensures) in
    omega (arith, f.work, f.left)

pub overflow_mul-n : goal.overflow_mul-n
overflow_mul-n c =
    let a = c.args in
    let f = shown a.n a.root a.q a.work.now a.a.now a.b.now (sym c.in-Ok.ensures) in
    omega (arith, f.suits.high)

pub multiply-requires : goal.multiply-requires
multiply-requires c =
    let a = c.args in
    let f = shown a.n a.root a.q a.work.now a.a.now a.b.now (sym c.in-Ok.ensures) in
    let w = c.copy.new.d in
    let l = length_loaded a.n a.q a.work.now w a.a.now a.b.now f.work f.left c.copy.ensures in
    record { transformable = (f.transformable, omega arith, omega arith, omega (arith, f.right)); below = (below_loaded a.n a.q a.work.now w a.a.now a.b.now f.work f.left c.copy.ensures f.below_left, f.below_right) }

pub returns-in-Ok : goal.returns-in-Ok
unfolding transform_out
returns-in-Ok c =
    let a = c.args in
    let f = shown a.n a.root a.q a.work.now a.a.now a.b.now (sym c.in-Ok.ensures) in (
      ap packed c.in-Ok.ensures,
      c.multiply.ensures ∙ produced a.n a.q a.work.now c.copy.new.d a.a.now a.b.now f.work f.left c.copy.ensures ∙ leaves_taken _ _ (sym c.in-Ok.ensures),
    )

pub returns-in-Err : goal.returns-in-Err
unfolding transform_out
returns-in-Err c = (c.pack.ensures ∙ ap packed c.in-Err.ensures, leaves_refused _ _ _ _ (sym c.in-Err.ensures))
