-- `store_rounds` meets its contract. Assumes nothing.
use mathlib.Core.Path.{◌≡◌}
use lib.ListN.{length}
use native.Mathlib.Omega.{arith}
use Prim.Native.Nat.{◌+◌}
use borrow.Author.Rules.{rules}
use Rattle.session_image.specs.Image.{size, head_fields, batch_fields, round_fields}
use Rattle.session_image.proofs.Law.{fits_rounds}
use Rattle.session_image.proofs.Pieces.{puts_all}
use Rattle.session_image.proofs.store_rounds.Goals as goal

pub returns : goal.returns
returns c =
    let a = c.args in
    let l : length a.session.seed ≡ 32 = search rules in
    let k : length a.session.trail ≡ 4096 = search rules in
    rw (c.copy-2.ensures, c.write64-2.ensures, c.copy.ensures, c.write64.ensures)
    (puts_all round_fields a.session a.image.now (size head_fields + size batch_fields) (fits_rounds a.session l k) (omega arith))
