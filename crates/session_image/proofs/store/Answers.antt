-- `store` meets its contract. Assumes nothing.
use borrow.Author.Rules.{rules}
use Rattle.session_image.specs.Internal.{Typed}
use Rattle.session_image.proofs.Law.{written}
use Rattle.session_image.proofs.store.Goals as goal

pub returns : goal.returns
returns c =
    let a = c.args in
    let t : Typed a.session = search rules in
    rw (c.store_rounds.ensures, c.store_batch.ensures, c.store_head.ensures) (written a.session t a.image.now c.requires)
