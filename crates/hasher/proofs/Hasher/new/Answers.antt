-- `Hasher::new` meets its contract. Assumes nothing.
use mathlib.Core.Path.{◌∙◌, ap}
use Rattle.keccak.specs.Keccak.{StateArray}
use Rattle.sha3.specs.Absorb.{absorb}
use Rattle.hasher.specs.Internal.{made, holding}
use Rattle.hasher.proofs.Hasher.new.Goals as goal

pub returns : goal.returns
unfolding holding absorb
returns c = c.make.ensures ∙ ap (λ (s : StateArray). made s 0) c.start.ensures
