-- `Hasher::finish` meets its contract. Assumes nothing.
use mathlib.Core.Path.{◌∙◌, ap}
use Prim.Native.Nat.{◌%◌}
use Rattle.keccak.specs.Keccak.{StateArray}
use Rattle.sha3.specs.Absorb.{absorb}
use Rattle.sha3.specs.Sponge.{padding, squeeze}
use Rattle.hasher.specs.Internal.{finished}
use Rattle.hasher.proofs.Hasher.finish.Goals as goal

pub returns : goal.returns
unfolding finished
returns c =
    let at = c.args.self.place % 136 in
    c.finish.ensures ∙ ap (λ (s : StateArray). squeeze (absorb s at (padding at))) c.state.ensures
