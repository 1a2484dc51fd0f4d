-- `sponge::absorb_inside` meets its contract. Assumes nothing.
use mathlib.Core.Path.{◌∙◌}
use native.Mathlib.Omega.{arith}
use Rattle.keccak.proofs.Shape.{words_shape}
use Rattle.sha3.proofs.Inside.{ends_before}
use Rattle.sha3.proofs.sponge.absorb_inside.Goals as goal

pub returns : goal.returns
returns c =
    c.xor_block.ensures
    ∙ ends_before c.args.s c.args.at c.args.m.now _ (words_shape c.args.s _ c.well_formed.0)
    (λ i h. omega (arith, c.type_inv.m i)) (omega arith) c.block_of-block.ensures
