-- `steps::rho_row` meets its contract. Assumes nothing.
use Rattle.keccak.proofs.Rows.{row5}
use Rattle.keccak.specs.Steps.{rho_row}
use Rattle.keccak.proofs.steps.rho_row.Goals as goal

pub returns : goal.returns
unfolding rho_row
returns c =
    row5 c.rotate_left.ensures c.rotate_left-2.ensures c.rotate_left-3.ensures c.rotate_left-4.ensures c.rotate_left-5.ensures
