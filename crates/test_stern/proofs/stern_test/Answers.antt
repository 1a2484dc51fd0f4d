-- `stern_test` meets its contract. Assumes nothing.
use Rattle.test_stern.proofs.Order.{told}
use Rattle.test_stern.proofs.stern_test.Goals as goal

pub returns : goal.returns
returns c = told c.pack.ensures _ c.finish.ensures c.tested-reply.ensures
