-- `round_shares::write_masked` meets its contract. Assumes nothing.
use mathlib.Core.Path.{sym, ap, ◌∙◌}
use Rattle.codec.specs.Bytes.{put}
use Rattle.round_shares.proofs.ShareSteps.{scale_asks, add_asks, masked_length, masked, masked_keeps}
use Rattle.round_shares.proofs.write_masked.Goals as goal

pub scale_slot-requires : goal.scale_slot-requires
scale_slot-requires c =
    let a = c.args in
    let p = c.requires in
    let h = scale_asks a.q a.n p.0 p.1 p.2 a.work.now p.4 a.p c.load_signed.new.work a.mask.now a.from p.5 p.6 c.load_signed.ensures in
    (p.8, p.2, h.0, h.1)

pub add_slot-requires : goal.add_slot-requires
add_slot-requires c =
    let a = c.args in
    let p = c.requires in
    let h = add_asks a.q a.n p.0 p.1 p.2 a.work.now p.4 a.p c.load_signed.new.work a.mask.now a.from p.5 p.6 c.load_signed.ensures c.scale_slot.new.work c.scale_slot.ensures in
    (p.2, h.0, h.1, h.2)

pub returns : goal.returns
returns c =
    let a = c.args in
    let p = c.requires in
    let w1 = c.load_signed.new.work in
    let w2 = c.scale_slot.new.work in
    let w3 = c.add_slot.new.work in
    let e1 = c.load_signed.ensures in
    let e2 = c.scale_slot.ensures in
    let e3 = c.add_slot.ensures in (
      c.write_out.ensures ∙ ap (put a.out.now a.at) (masked a.q a.n p.0 p.1 p.2 a.work.now p.4 a.p w1 a.mask.now a.from p.5 p.6 e1 w2 e2 w3 e3),
      masked_length a.q a.n p.0 p.1 p.2 a.work.now p.4 a.p w1 a.mask.now a.from p.5 p.6 e1 w2 e2 w3 e3 ∙ sym p.4,
      masked_keeps a.q a.n p.0 p.1 p.2 a.work.now p.4 a.p w1 a.mask.now a.from p.5 p.6 e1 w2 e2 w3 e3,
    )
