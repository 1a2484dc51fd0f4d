-- `votes::is_claim` meets its contract. Assumes nothing.
use mathlib.Core.Path.{ap, ◌∙◌}
use Prim.Native.Nat.{◌<◌}
use native.Mathlib.Omega.{arith}
use Rattle.codec.specs.Bytes.{same}
use Rattle.sheet_numbers.specs.Plain.{plain}
use Rattle.scratch.proofs.Slots.{stands_below}
use Rattle.bgv.proofs.Votes.{plain_stands}
use Rattle.round_tests.proofs.votes.is_claim.Goals as goal

pub is_vote-requires : goal.is_vote-requires
is_vote-requires c =
    let k = c.args.k in
    let p = c.requires in
    let t = p.0.in_range.modulus_low in
    let h = p.0.in_range.ring_high in
    let z : 0 < k.modulus = omega arith in
    (p.0, omega (arith, c.rebuilt.ensures.sized, p.4), p.5, stands_below k.modulus k.ring _ _ _ c.rebuilt.ensures z p.0.in_range.modulus_high)

pub returns : goal.returns
returns c =
    let a = c.args in
    let p = c.requires in
    let t = p.0.in_range.modulus_low in
    let z : 0 < a.k.modulus = omega arith in
    (c.is_vote.ensures ∙ ap (same a.claim.now) (plain_stands a.k.modulus (plain a.k) a.k.ring _ _ _ z p.0.in_range.modulus_high c.rebuilt.ensures), c.rebuilt.ensures.sized)
