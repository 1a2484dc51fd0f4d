-- `codec::write32` meets its contract. Assumes nothing.
use mathlib.Core.Path.{ap, ◌∙◌}
use native.Mathlib.Nat.{div-one}
use Rattle.codec.specs.Bytes.{bytes, put}
use Rattle.codec.proofs.Numbers.{to_bytes}
use Rattle.codec.proofs.write32.Goals as goal

pub returns : goal.returns
returns c =
    let a = c.args in
    c.copy.ensures ∙ ap (put a.d.now a.at) (c.to_le_bytes.ensures ∙ to_bytes 0 4 a.v ∙ ap (bytes 4) (div-one a.v))
