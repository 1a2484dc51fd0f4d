-- `test_ring::compute` meets its contract. Assumes nothing.
use mathlib.Core.Path.{◌≡◌, ap, ◌∙◌}
use Prim.Native.Nat.{◌*◌}
use native.Mathlib.Omega.{arith}
use borrow.Author.Tests.{ne_eqb}
use Rattle.codec.specs.Bytes.{Bytes, put, zeros}
use Rattle.ring.proofs.Polynomials.{alike_refl, alike_plus, alike_minus}
use Rattle.test_ring.proofs.Outcome.{alike_loaded, below_loaded, outcome, product_outcome}
use Rattle.test_ring.specs.Calls.{on_polynomials}
use Rattle.test_ring.proofs.compute.Goals.{After-copy}
use Rattle.test_ring.proofs.compute.Goals as goal

loaded-is : (c : After-copy) → c.copy.new.d ≡ put (zeros (32 * c.args.n)) 0 c.args.a.now
loaded-is c = c.copy.ensures ∙ ap (λ (d : Bytes). put d 0 c.args.a.now) (c.wipe.ensures ∙ ap zeros c.requires.n_bound.3)

pub add-requires : goal.add-requires
add-requires c =
    let a = c.args in
    let p = c.requires in
    (omega arith, omega arith, omega arith, below_loaded a.n a.q c.copy.new.d a.a.now (loaded-is (goal.at.add-requires c).After-copy) p.n_bound.4 p.below.0, p.below.1)

pub returns-in-0 : goal.returns-in-0
unfolding on_polynomials
returns-in-0 c =
    let a = c.args in
    let p = c.requires in
    rw c.in-0.is (c.add.ensures ∙ outcome a.n a.q c.copy.new.d a.a.now (loaded-is (goal.at.returns-in-0 c).After-copy) p.n_bound.4 _ _ (alike_plus (alike_loaded a.n a.q c.copy.new.d a.a.now (loaded-is (goal.at.returns-in-0 c).After-copy) p.n_bound.4) alike_refl))

pub subtract-requires : goal.subtract-requires
subtract-requires c =
    let a = c.args in
    let p = c.requires in
    (omega arith, omega arith, omega arith, below_loaded a.n a.q c.copy.new.d a.a.now (loaded-is (goal.at.subtract-requires c).After-copy) p.n_bound.4 p.below.0, p.below.1)

pub returns-in-1 : goal.returns-in-1
unfolding on_polynomials
returns-in-1 c =
    let a = c.args in
    let p = c.requires in
    rw c.in-1.is (c.subtract.ensures ∙ outcome a.n a.q c.copy.new.d a.a.now (loaded-is (goal.at.returns-in-1 c).After-copy) p.n_bound.4 _ _ (alike_minus (alike_loaded a.n a.q c.copy.new.d a.a.now (loaded-is (goal.at.returns-in-1 c).After-copy) p.n_bound.4) alike_refl))

pub multiply-requires : goal.multiply-requires
multiply-requires c =
    let a = c.args in
    let p = c.requires in
    record { q_nonzero = omega arith; below = (below_loaded a.n a.q c.copy.new.d a.a.now (loaded-is (goal.at.multiply-requires c).After-copy) p.n_bound.4 p.below.0, p.below.1) }

pub returns-in-2 : goal.returns-in-2
unfolding on_polynomials
returns-in-2 c =
    let a = c.args in
    let p = c.requires in
    rw c.in-2.is (c.multiply.ensures ∙ product_outcome a.n a.q c.copy.new.d a.a.now (loaded-is (goal.at.returns-in-2 c).After-copy) p.n_bound.4 a.b.now)

pub plain-requires : goal.plain-requires
plain-requires c =
    let a = c.args in
    let p = c.requires in
    record { q_nonzero = omega arith; below = (below_loaded a.n a.q c.copy.new.d a.a.now (loaded-is (goal.at.plain-requires c).After-copy) p.n_bound.4 p.below.0, p.below.1) }

pub returns-in_default : goal.returns-in_default
unfolding on_polynomials
returns-in_default c =
    let a = c.args in
    let p = c.requires in
    rw (ne_eqb a.operation 0 (omega arith), ne_eqb a.operation 1 (omega arith)) (c.plain.ensures ∙ product_outcome a.n a.q c.copy.new.d a.a.now (loaded-is (goal.at.returns-in_default c).After-copy) p.n_bound.4 a.b.now)
