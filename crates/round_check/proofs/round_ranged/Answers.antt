-- `round_ranged` meets its contract. Assumes nothing.
use mathlib.Core.Path.{refl}
use borrow.Author.Tests.{lt-ltb, le-ltb}
use lib.Dec.{ltb}
use Rattle.sheet_numbers.specs.Plain.{plain}
use Rattle.scratch.proofs.Order.{fails, goes_on}
use Rattle.round.specs.Round.{ranged, ballots_ranged, opening_ranged}
use Rattle.round_side.proofs.Ranged.{message_fails, message_passes}
use Rattle.round_check.proofs.round_ranged.Goals as goal

pub returns-then-side-ge2 : goal.returns-then-side-ge2
unfolding ranged
returns-then-side-ge2 c =
    λ polynomials. let a = c.args in
    fails (ltb a.side 2) _ refl (le-ltb a.side 2 c.if-side-ge2.true)

pub returns-then-not-answers_ranged : goal.returns-then-not-answers_ranged
unfolding ranged
returns-then-not-answers_ranged c =
    λ polynomials. let a = c.args in
    goes_on (ltb a.side 2) _ refl (lt-ltb a.side 2 c.if-side-ge2.false)
    (fails _ _ c.answers_ranged.ensures c.if-not-answers_ranged.true)

pub returns-then-not-message_ranged : goal.returns-then-not-message_ranged
unfolding ranged ballots_ranged
returns-then-not-message_ranged c =
    λ polynomials. let a = c.args in
    goes_on (ltb a.side 2) _ refl (lt-ltb a.side 2 c.if-side-ge2.false)
    (goes_on _ _ c.answers_ranged.ensures c.if-not-answers_ranged.false
    (message_fails a.k.modulus a.k.ring (plain a.k) a.count a.ballots.now a.claims.now a.head.now a.shares0.now a.shares1.now (opening_ranged a.k.modulus a.k.ring a.opening.now) c.message_ranged.ensures c.if-not-message_ranged.true))

pub returns : goal.returns
unfolding ranged ballots_ranged
returns c =
    λ polynomials. let a = c.args in
    goes_on (ltb a.side 2) _ refl (lt-ltb a.side 2 c.if-side-ge2.false)
    (goes_on _ _ c.answers_ranged.ensures c.if-not-answers_ranged.false
    (message_passes a.k.modulus a.k.ring (plain a.k) a.count a.ballots.now a.claims.now a.head.now a.shares0.now a.shares1.now (opening_ranged a.k.modulus a.k.ring a.opening.now) c.message_ranged.ensures c.if-not-message_ranged.false c.opening_ranged.ensures))
