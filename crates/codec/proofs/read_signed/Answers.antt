-- `codec::read_signed` meets its contract. Assumes nothing.
use mathlib.Core.Path.{ap, ◌∙◌}
use native.Mathlib.Omega.{arith}
use lib.IntN.{ℤ}
use mir.Syntax.{w64}
use mir.Val.{to_z, of_z}
use Rattle.codec.specs.Bytes.{signed}
use Rattle.codec.proofs.TwosComplement.{signed_word, word_signed}
use Rattle.codec.proofs.read_signed.Goals as goal

pub returns : goal.returns
returns c =
    let v = c.read64.result in
    let e = c.cast_signed.ensures ∙ signed_word v (omega arith) in
    ap (λ (z : ℤ). to_z w64 (of_z w64 z)) e ∙ ap (to_z w64) (word_signed v (omega arith)) ∙ signed_word v (omega arith) ∙ ap signed c.read64.ensures
