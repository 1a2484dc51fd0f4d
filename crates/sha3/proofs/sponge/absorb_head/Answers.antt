-- `sponge::absorb_head` meets its contract. Assumes nothing.
use mathlib.Core.Path.{◌∙◌}
use native.Mathlib.Omega.{arith}
use Rattle.sha3.proofs.Absorbing.{absorb_none}
use Rattle.sha3.proofs.Inside.{ends_with}
use Rattle.sha3.proofs.sponge.absorb_head.Goals as goal

pub returns-then-at-eq0 : goal.returns-then-at-eq0
returns-then-at-eq0 c =
    let a = c.args in
    absorb_none a.m.now a.s a.at (omega arith)

pub returns : goal.returns
returns c =
    let a = c.args in
    c.absorb_blocks.ensures ∙ ends_with a.s a.at a.m.now _ (omega arith) (omega arith) c.block_of-block.ensures
