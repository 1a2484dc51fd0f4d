-- `sponge::xor_row` meets its contract. Assumes nothing.
use mathlib.Core.Path.{◌∙◌, ap, sym}
use Prim.Native.Nat.{ℕ}
use native.Mathlib.Nat.{add-zero}
use lib.Bits.{bit_xor}
use lib.ListN.{get_or}
use Rattle.codec.specs.Bytes.{number, part}
use Rattle.keccak.proofs.Rows.{row5}
use Rattle.sha3.specs.Internal.{absorb_row}
use Rattle.sha3.proofs.sponge.xor_row.Goals as goal

pub returns : goal.returns
unfolding absorb_row
returns c =
    let a = c.args in
    let r = a.r in
    row5
    (ap (bit_xor (get_or r 0 0)) (c.read64.ensures ∙ ap (λ (k : ℕ). number (part a.p.now k 8)) (sym (add-zero a.at))))
    (ap (bit_xor (get_or r 1 0)) c.read64-2.ensures)
    (ap (bit_xor (get_or r 2 0)) c.read64-3.ensures)
    (ap (bit_xor (get_or r 3 0)) c.read64-4.ensures)
    (ap (bit_xor (get_or r 4 0)) c.read64-5.ensures)
