-- `test_lent` meets its contract. Assumes nothing.
use Rattle.session_check.specs.Stored.{inputs_lent, inputs_sized, stored_tests}
use Rattle.session_check.proofs.Order.{refused_by_lem, passed_by, ballots_sized}
use Rattle.session_check.proofs.stored.test_lent.Goals as goal

pub returns-then-not-inputs_sized : goal.returns-then-not-inputs_sized
unfolding inputs_sized
returns-then-not-inputs_sized c = refused_by_lem 1 0 _ _ c.inputs_sized.ensures c.if-not-inputs_sized.true

pub test_stored-requires : goal.test_stored-requires
test_stored-requires c =
    let a = c.args in
    let p = c.requires in
    let t = c.inputs_sized in
    (p.0, p.1, ballots_sized a.held (inputs_lent a.lent a.scratch.now) t.ensures c.if-not-inputs_sized.false)

pub returns : goal.returns
unfolding inputs_sized stored_tests
returns c = passed_by 1 0 _ _ c.inputs_sized.ensures c.if-not-inputs_sized.false c.test_stored.ensures
