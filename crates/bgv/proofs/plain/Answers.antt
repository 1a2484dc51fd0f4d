-- `bgv::plain` meets its contract. Assumes nothing.
use mathlib.Core.Path.{◌≡◌, ap, ◌∙◌}
use native.Mathlib.Omega.{arith}
use Rattle.modular.specs.Modulo.{centre, remainder}
use Rattle.modular.proofs.Centring.{remainder_lt}
use Rattle.ring.specs.Slots.{poly}
use Rattle.bgv.specs.Scheme.{plaintext}
use Rattle.bgv.proofs.Votes.{voted, voted_none, voted_more, voted_all}
use Rattle.bgv.proofs.plain.Goals as goal

pub residue-v-requires : goal.residue-v-requires
unfolding poly
residue-v-requires c =
    let p = c.requires in
    let i = c.loop-i.i in
    (omega (arith, c.read64-x.ensures, p.3.at i (omega arith)), p.6, omega arith)

pub overflow_cast-v : goal.overflow_cast-v
overflow_cast-v c =
    let a = c.args in
    let h = rw (← c.residue-v.ensures) at (remainder_lt a.p (centre a.q c.read64-x.result) (omega arith)) in
    omega arith

pub loop-i-preserved : goal.loop-i-preserved
unfolding plaintext poly
loop-i-preserved c =
    let a = c.args in
    let l = c.loop-i in
    voted_more a.vote.now (plaintext a.q a.p (poly a.work.now)) l.i l.vote _ _ l.invariant (omega arith) (c.residue-v.ensures ∙ ap (λ x. remainder a.p (centre a.q x)) c.read64-x.ensures) c.write8.ensures

pub returns : goal.returns
returns c =
    let a = c.args in
    let l = c.loop-i in
    let e : l.i ≡ a.n = omega arith in
    l.invariant ∙ ap (voted a.vote.now _) e ∙ voted_all a.vote.now _ a.n c.requires.1

pub loop-i-init : goal.loop-i-init
loop-i-init c = voted_none _ _
