-- `steps::theta_effect` meets its contract. Assumes nothing.
use mathlib.Core.Path.{◌∙◌, ap}
use lib.Bits.{bit_xor}
use lib.ListN.{get_or}
use Rattle.keccak.proofs.Rows.{row5}
use Rattle.keccak.specs.Steps.{effect}
use Rattle.keccak.proofs.steps.theta_effect.Goals as goal

pub returns : goal.returns
unfolding effect
returns c =
    let p = c.column_parities-c in
    let r = p.result in
    row5
    (λ i. bit_xor (get_or r 4 0) (c.rotate_left.ensures i))
    (λ i. bit_xor (get_or r 0 0) (c.rotate_left-2.ensures i))
    (λ i. bit_xor (get_or r 1 0) (c.rotate_left-3.ensures i))
    (λ i. bit_xor (get_or r 2 0) (c.rotate_left-4.ensures i))
    (λ i. bit_xor (get_or r 3 0) (c.rotate_left-5.ensures i))
    ∙ ap effect p.ensures
