-- `sponge::xor_block` meets its contract. Assumes nothing.
use mathlib.Core.Path.{◌∙◌, ap}
use mathlib.Core.List.{[]}
use native.Mathlib.Omega.{arith}
use lib.Bits.{bit_xor}
use lib.ListN.{get_or}
use Rattle.keccak.specs.Keccak.{lane}
use Rattle.keccak.proofs.Rows.{row5}
use Rattle.keccak.proofs.Shape.{five_of, words_shape}
use Rattle.sha3.specs.Internal.{absorb_row, xor_block}
use Rattle.sha3.proofs.Blocks.{past}
use Rattle.sha3.proofs.sponge.xor_block.Goals as goal

pub returns : goal.returns
unfolding xor_block absorb_row
returns c =
    let s = c.args.s in
    let p = c.args.p.now in
    let shape = words_shape s _ c.well_formed.0 in
    row5
    c.xor_row.ensures
    c.xor_row-2.ensures
    c.xor_row-3.ensures
    (row5
    (ap (bit_xor (lane s 0 3)) c.read64.ensures)
    (ap (bit_xor (lane s 1 3)) c.read64-2.ensures)
    (past p (lane s 2 3) 136 (omega arith))
    (past p (lane s 3 3) 144 (omega arith))
    (past p (lane s 4 3) 152 (omega arith)))
    (five_of 0 (get_or s 4 []) (shape.row 4 (omega arith))
    ∙ row5
    (past p (lane s 0 4) 160 (omega arith))
    (past p (lane s 1 4) 168 (omega arith))
    (past p (lane s 2 4) 176 (omega arith))
    (past p (lane s 3 4) 184 (omega arith))
    (past p (lane s 4 4) 192 (omega arith)))
