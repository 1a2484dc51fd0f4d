-- `store_batch` meets its contract. Assumes nothing.
use mathlib.Core.Path.{◌≡◌}
use lib.ListN.{length}
use native.Mathlib.Omega.{arith}
use borrow.Author.Rules.{rules}
use Rattle.session_image.specs.Image.{size, head_fields, batch_fields}
use Rattle.session_image.proofs.Law.{fits_batch}
use Rattle.session_image.proofs.Pieces.{puts_all}
use Rattle.session_image.proofs.store_batch.Goals as goal

pub returns : goal.returns
returns c =
    let a = c.args in
    let l : length a.session.closing ≡ 32 = search rules in
    let k : length a.session.claim ≡ 32 = search rules in
    rw (c.copy-2.ensures, c.copy.ensures, c.write64-2.ensures, c.write64.ensures)
    (puts_all batch_fields a.session a.image.now (size head_fields) (fits_batch a.session l k) (omega arith))
