-- `store_head` meets its contract. Assumes nothing.
use mathlib.Core.Path.{◌≡◌}
use lib.ListN.{length}
use native.Mathlib.Omega.{arith}
use borrow.Author.Rules.{rules}
use Rattle.session_image.specs.Image.{head_fields}
use Rattle.session_image.proofs.Law.{fits_head}
use Rattle.session_image.proofs.Pieces.{puts_all}
use Rattle.session_image.proofs.store_head.Goals as goal

pub returns : goal.returns
returns c =
    let a = c.args in
    let l : length a.session.sheet ≡ 32 = search rules in
    rw (c.copy.ensures, c.write64-5.ensures, c.write64-4.ensures, c.write64-3.ensures, c.write64-2.ensures, c.write64.ensures, c.write8.ensures)
    (puts_all head_fields a.session a.image.now 0 (fits_head a.session l) (omega arith))
