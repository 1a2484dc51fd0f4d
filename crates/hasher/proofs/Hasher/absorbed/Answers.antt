-- `Hasher::absorbed` meets its contract. Assumes nothing.
use mathlib.Core.Path.{◌∙◌, ap, ap₂}
use Prim.Native.Nat.{◌%◌}
use native.Mathlib.Omega.{arith}
use Rattle.keccak.specs.Keccak.{StateArray}
use Rattle.sha3.specs.Absorb.{absorb}
use Rattle.hasher.specs.Internal.{made, updated}
use Rattle.hasher.proofs.Hasher.absorbed.Goals as goal

pub returns : goal.returns
unfolding updated
returns c =
    let a = c.args in
    let h = a.self in
    let b = a.bytes.now in
    c.make.ensures
    ∙ ap₂ made (c.absorb-next.ensures ∙ ap (λ (s : StateArray). absorb s (h.place % 136) b) c.state.ensures)
    (omega (arith, c.advance.ensures))
