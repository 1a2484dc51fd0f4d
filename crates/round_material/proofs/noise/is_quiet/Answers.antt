-- `noise::is_quiet` meets its contract. Assumes nothing.
use mathlib.Core.Path.{◌∙◌}
use native.Mathlib.Omega.{arith}
use Rattle.scratch.proofs.Slots.{stands_below}
use Rattle.round_material.proofs.Quiet.{within_centred, stands_like}
use Rattle.round_material.proofs.noise.is_quiet.Goals as goal

pub head_within-requires : goal.head_within-requires
head_within-requires c =
    let a = c.args in
    let p = c.requires in
    let e = c.noise.ensures in
    (omega (arith, e.sized, p.2, p.0.ring_high), stands_below a.q a.n _ _ _ e (omega (arith, p.0.modulus_low)) p.0.modulus_high, p.0.modulus_high)

pub returns : goal.returns
returns c =
    let a = c.args in
    let p = c.requires in
    let e = c.noise.ensures in
    (c.head_within.ensures ∙ within_centred a.q a.n a.bound (stands_like a.q a.n _ _ _ (omega (arith, p.0.modulus_low)) p.0.modulus_high e), e.sized)
