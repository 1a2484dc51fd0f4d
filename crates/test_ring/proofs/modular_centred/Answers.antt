-- `test_ring::modular_centred` meets its contract. Assumes nothing.
use mathlib.Core.Path.{◌∙◌}
use native.Mathlib.Omega.{arith}
use borrow.Author.Tests.{lt-leb}
use mir.Syntax.{w64}
use mir.ValLaws.{to_z-of_z}
use Rattle.codec.proofs.Replies.{order}
use Rattle.codec.specs.Reply.{first, leaves}
use Rattle.test_ring.proofs.modular_centred.Goals as goal

pub returns : goal.returns
unfolding first leaves
returns c =
    let a = c.args in
    rw (lt-leb 72057594037927936 a.q c.if-q-ge72057594037927936.false, lt-leb a.q a.x c.if-q-x.false) (to_z-of_z w64 c.centred.result (record { sfits = c.centred.type_inv }) ∙ c.centred.ensures)

pub returns-then-q-ge72057594037927936 : goal.returns-then-q-ge72057594037927936
unfolding first leaves
returns-then-q-ge72057594037927936 c = grind (arith, order, c.then-q-ge72057594037927936.either)
