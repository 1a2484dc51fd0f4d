-- `read_numbers` meets its contract. Assumes nothing.
use Rattle.session_image.specs.Image.{decode}
use Rattle.session_image.proofs.read_numbers.Goals as goal

pub returns : goal.returns
unfolding decode
returns c = rw (c.read64-5.ensures, c.read64-4.ensures, c.read64-3.ensures, c.read64-2.ensures, c.read64.ensures)
