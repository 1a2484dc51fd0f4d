-- `round_shares::write_shares` meets its contract. Assumes nothing.
use mathlib.Core.Path.{sym, ap, ◌∙◌}
use mathlib.Core.Logic.{inl}
use borrow.Author.Rules.{rules}
use native.Mathlib.Omega.{arith}
use Rattle.codec.specs.Bytes.{put}
use Rattle.ring.proofs.Bridge.{encode_alike}
use Rattle.ring.proofs.Polynomials.{alike_refl, alike_plus}
use Rattle.round_shares.proofs.ShareSteps.{kept_alike, kept_below, kept_head, subtract_asks, difference_length, difference_below, difference_alike, difference_keeps}
use Rattle.round_shares.proofs.write_shares.Goals as goal

pub copy_slot-requires : goal.copy_slot-requires
copy_slot-requires c = let p = c.requires in record { one = omega (arith, p.0, p.5); other = omega (arith, p.0, p.5); apart = inl (omega (arith, p.0)) }

pub subtract_slot-requires : goal.subtract_slot-requires
subtract_slot-requires c =
    let a = c.args in
    let p = c.requires in
    let h = subtract_asks a.q a.n p.0 p.1 p.2 a.work.now p.5 _ c.copy_slot.new.work c.copy_slot.ensures (search rules) p.7 in
    (p.2, h.0, h.1, h.2)

pub write_masked-requires : goal.write_masked-requires
write_masked-requires c =
    let a = c.args in
    let p = c.requires in
    let w1 = c.copy_slot.new.work in
    let w2 = c.subtract_slot.new.work in
    let e1 = c.copy_slot.ensures in
    let e2 = c.subtract_slot.ensures in (
      p.0,
      p.1,
      p.2,
      p.4,
      difference_length a.q a.n p.0 p.1 p.2 a.work.now p.5 _ w1 e1 (search rules) p.7 w2 e2,
      omega (arith, p.0),
      difference_below a.q a.n p.0 p.1 p.2 a.work.now p.5 _ w1 e1 (search rules) p.7 w2 e2,
      p.9,
      p.10,
    )

pub write_masked-requires-2 : goal.write_masked-requires-2
write_masked-requires-2 c =
    let a = c.args in
    let p = c.requires in
    let w1 = c.copy_slot.new.work in
    let w2 = c.subtract_slot.new.work in
    let m = c.write_masked in
    let e1 = c.copy_slot.ensures in
    let e2 = c.subtract_slot.ensures in
    let l = difference_length a.q a.n p.0 p.1 p.2 a.work.now p.5 _ w1 e1 (search rules) p.7 w2 e2 in
    let k = difference_keeps a.q a.n p.0 p.1 p.2 a.work.now p.5 _ w1 e1 (search rules) p.7 w2 e2 in (
      p.0,
      p.1,
      p.2,
      p.3,
      m.ensures.1 ∙ l,
      omega (arith, p.0),
      kept_below a.n a.work.now m.new.work 32768 16384 (m.ensures.2 ∙ k) (omega (arith, p.0)) p.7,
      p.8,
      p.10,
    )

pub returns : goal.returns
returns c =
    let a = c.args in
    let p = c.requires in
    let w = a.work.now in
    let w1 = c.copy_slot.new.work in
    let w2 = c.subtract_slot.new.work in
    let m = c.write_masked in
    let o = c.write_masked-2 in
    let e1 = c.copy_slot.ensures in
    let e2 = c.subtract_slot.ensures in
    let l = difference_length a.q a.n p.0 p.1 p.2 w p.5 0 w1 e1 p.6 p.7 w2 e2 in
    let k = difference_keeps a.q a.n p.0 p.1 p.2 w p.5 0 w1 e1 p.6 p.7 w2 e2 in
    let kept = m.ensures.2 ∙ k in (
      o.ensures.0 ∙ ap (put a.shares0.now a.at) (encode_alike (alike_plus (kept_alike a.n w m.new.work 32768 16384 kept (omega (arith, p.0))) alike_refl)),
      m.ensures.0 ∙ ap (put a.shares1.now a.at) (encode_alike (alike_plus (difference_alike a.q a.n p.0 p.1 p.2 w p.5 0 w1 e1 p.6 p.7 w2 e2) alike_refl)),
      o.ensures.1 ∙ m.ensures.1 ∙ l ∙ sym p.5,
      o.ensures.2 ∙ kept_head w m.new.work 32768 16384 (omega arith) kept,
    )
