-- `load` meets its contract. Assumes nothing.
use Rattle.session_image.specs.Image.{decode}
use Rattle.session_image.proofs.load.Goals as goal

pub returns : goal.returns
unfolding decode
returns c =
    rw (
      c.array-5.ensures,
      c.array-4.ensures,
      c.array-3.ensures,
      c.array-2.ensures,
      c.array.ensures,
      c.read_numbers.ensures,
      c.read64-4.ensures,
      c.read64-3.ensures,
      c.read64-2.ensures,
      c.read64.ensures,
    )
