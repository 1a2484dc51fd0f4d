-- `round_shares::write_claim` meets its contract. Assumes nothing.
use mathlib.Core.Path.{◌≡◌, ap, ◌∙◌}
use Prim.Native.Nat.{◌+◌, ◌-◌, ◌<◌}
use native.Mathlib.Omega.{arith}
use lib.ListN.{length}
use Rattle.codec.specs.Bytes.{put}
use Rattle.codec.proofs.Laws.{put_between}
use Rattle.codec.specs.Lists.{list}
use Rattle.codec.proofs.Lists.{length_list}
use Rattle.ring.specs.Poly.{minus}
use Rattle.ring.specs.Slots.{poly, slot}
use Rattle.scratch.proofs.Slots.{stands_below}
use Rattle.bgv.specs.Scheme.{plaintext}
use Rattle.bgv.proofs.Votes.{plain_stands}
use Rattle.stern.proofs.Answered.{lent_length}
use Rattle.round_shares.proofs.ShareSteps.{add_lent_asks, opened_stands}
use Rattle.round_shares.proofs.write_claim.Goals as goal

pub add-requires : goal.add-requires
add-requires c =
    let a = c.args in
    let p = c.requires in
    let h = add_lent_asks a.q a.n p.0.ring_high p.0.modulus_low p.0.modulus_high a.work.now p.1 _ (poly a.v.now) c.scale_slot.new.work c.scale_slot.ensures in
    (p.0.modulus_high, omega (arith, h.0), omega (arith, p.0.sized), h.1, p.0.below)

pub plain-requires : goal.plain-requires
plain-requires c =
    let a = c.args in
    let p = c.requires in
    let some = p.0.modulus_low in
    let high = p.0.ring_high in
    let z : 0 < a.q = omega arith in
    let s = opened_stands a.q a.n p.0.ring_high p.0.modulus_low p.0.modulus_high a.work.now p.1 _ (poly a.v.now) c.scale_slot.new.work c.scale_slot.ensures c.add.new.work c.add.ensures in
    (omega (arith, s.sized, p.1), lent_length a.claims.now a.at (a.at + a.n - a.at) a.n (omega arith) p.3, z, stands_below a.q a.n _ _ _ s z p.0.modulus_high, p.4, omega (arith, p.5), p.0.modulus_high)

pub returns : goal.returns
returns c =
    let a = c.args in
    let p = c.requires in
    let some = p.0.modulus_low in
    let z : 0 < a.q = omega arith in
    let f = minus a.q (poly a.v.now) (slot a.work.now 0) in
    let s = opened_stands a.q a.n p.0.ring_high p.0.modulus_low p.0.modulus_high a.work.now p.1 (a.q - 1) (poly a.v.now) c.scale_slot.new.work c.scale_slot.ensures c.add.new.work c.add.ensures in
    let t = c.plain.new.vote in
    let e : t ≡ list a.n (plaintext a.q a.p f) = c.plain.ensures ∙ plain_stands a.q a.p a.n f a.work.now c.add.new.work z p.0.modulus_high s in
    (put_between a.claims.now t a.at (a.at + a.n) (omega arith) (ap length e ∙ length_list a.n (plaintext a.q a.p f) ∙ omega arith) ∙ ap (put a.claims.now a.at) e, s.sized)
