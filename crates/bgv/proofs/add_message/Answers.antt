-- `bgv::add_message` meets its contract. Assumes nothing.
use mathlib.Core.Path.{ap, ◌∙◌}
use Prim.Native.Nat.{ℕ}
use Rattle.codec.specs.Bytes.{put}
use Rattle.ring.specs.Slots.{encode}
use Rattle.scratch.specs.Call.{coefficients}
use Rattle.bgv.proofs.Steps.{message_asks, stands_message}
use Rattle.bgv.proofs.add_message.Goals as goal

pub add_slot-requires : goal.add_slot-requires
add_slot-requires c =
    let a = c.args in
    let p = c.requires in
    let w1 = c.load_bytes.new.work in
    let e1 = c.load_bytes.ensures ∙ ap (λ (k : ℕ). put a.work.now 16384 (encode k (coefficients a.m.now))) p.4 in
    let h = message_asks a.q a.n p.0 p.1 p.2 a.work.now w1 a.m.now p.3 p.5 p.6 e1 in
    (p.2, h.0, h.1, h.2)

pub returns : goal.returns
returns c =
    let a = c.args in
    let p = c.requires in
    let w1 = c.load_bytes.new.work in
    let e1 = c.load_bytes.ensures ∙ ap (λ (k : ℕ). put a.work.now 16384 (encode k (coefficients a.m.now))) p.4 in
    stands_message a.q a.n p.0 p.1 p.2 a.work.now w1 a.m.now p.3 p.5 p.6 e1 c.add_slot.new.work c.add_slot.ensures
