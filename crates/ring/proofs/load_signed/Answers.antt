-- `ring::load_signed` meets its contract. Assumes nothing.
use Rattle.std.proofs.Common.{◌∙◌, ap, arith, w64}
use mir.ValLaws.{to_z-of_z}
use Rattle.modular.specs.Modulo.{remainder}
use Rattle.ring.proofs.Filling.{filled_none, filled_more, filled_whole}
use Rattle.ring.specs.Slots.{poly}
use Rattle.ring.specs.Internal.{from_signed}
use Rattle.ring.proofs.load_signed.Goals as goal

pub loop-i-init : goal.loop-i-init
loop-i-init c = filled_none _ _ _

pub loop-i-preserved : goal.loop-i-preserved
unfolding from_signed poly
loop-i-preserved c =
    let r = c.read_signed-x in
    let is = c.reduce.ensures ∙ ap (remainder c.args.q) (to_z-of_z w64 r.result (record { sfits = r.type_inv }) ∙ r.ensures) in
    filled_more _ _ _ _ _ _ _ c.loop-i.invariant (omega arith) is c.write64.ensures

pub returns : goal.returns
returns c = filled_whole _ _ _ c.loop-i.invariant (omega arith)
