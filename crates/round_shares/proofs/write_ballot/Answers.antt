-- `round_shares::write_ballot` meets its contract. Assumes nothing.
use mathlib.Core.Path.{ap, ◌∙◌}
use Prim.Native.Nat.{ℕ, ◌*◌, ◌<◌}
use native.Mathlib.Omega.{arith}
use Rattle.codec.specs.Bytes.{put}
use Rattle.codec.specs.Lists.{list}
use Rattle.ring.specs.Poly.{mul}
use Rattle.ring.specs.Slots.{coefficient_bytes, poly}
use Rattle.ring.specs.Ternary.{ternary}
use Rattle.scratch.proofs.Slotted.{encoded_below, encoded_alike}
use Rattle.bgv.specs.Scheme.{decrypted, other, lent_mask, share}
use Rattle.round_shares.proofs.ShareAlgebra.{lent_share, other_share, claim_plain}
use Rattle.round_shares.proofs.ShareSteps.{kept_head}
use Rattle.round_shares.proofs.write_ballot.Goals as goal

pub products-requires : goal.products-requires
products-requires c = let p = c.requires in (p.1, p.2, p.4, p.7.scratch)

pub write_shares-requires : goal.write_shares-requires
write_shares-requires c =
    let a = c.args in
    let p = c.requires in
    let q = a.k.modulus in
    let n = a.k.ring in
    let some = p.0.in_range.modulus_low in
    let z : 0 < q = omega arith in
    let m = c.products in
    let s = mul q n (ternary q a.s.now) (poly a.u.now) in
    let t = mul q n (poly a.s0.now) (poly a.u.now) in (
      p.0.in_range.ring_high,
      some,
      p.0.in_range.modulus_high,
      p.5,
      p.6,
      m.ensures.sized ∙ p.7.scratch,
      encoded_below q n p.0.in_range.ring_high z p.0.in_range.modulus_high m.new.work 0 s m.ensures.one,
      encoded_below q n p.0.in_range.ring_high z p.0.in_range.modulus_high m.new.work 16384 t m.ensures.two,
      p.7.shares0,
      p.7.shares1,
      omega (arith, c.plain-p.ensures, p.0.plain_below),
    )

pub write_claim-requires : goal.write_claim-requires
write_claim-requires c =
    let a = c.args in
    let p = c.requires in
    let q = a.k.modulus in
    let n = a.k.ring in
    let some = p.0.in_range.modulus_low in
    let high = p.0.in_range.ring_high in
    let z : 0 < q = omega arith in
    let m = c.products in
    let w = c.write_shares in
    let s = mul q n (ternary q a.s.now) (poly a.u.now) in
    let k = kept_head m.new.work w.new.work 16384 (8 * n) (omega arith) w.ensures.3 in (
      p.3,
      w.ensures.2 ∙ m.ensures.sized ∙ p.7.scratch,
      encoded_below q n high z p.0.in_range.modulus_high w.new.work 0 s (k ∙ m.ensures.one),
      p.7.claims,
      omega (arith, c.plain-p.ensures, p.0.in_range.plain_low),
      omega (arith, c.plain-p.ensures, p.0.in_range.plain_high),
    )

pub returns : goal.returns
returns c =
    let a = c.args in
    let p = c.requires in
    let q = a.k.modulus in
    let n = a.k.ring in
    let some = p.0.in_range.modulus_low in
    let high = p.0.in_range.ring_high in
    let z : 0 < q = omega arith in
    let i = c.plain-p.result in
    let is = c.plain-p.ensures in
    let m = c.products in
    let w = c.write_shares in
    let v = c.write_claim in
    let s = ternary q a.s.now in
    let s0 = poly a.s0.now in
    let u = poly a.u.now in
    let k = kept_head m.new.work w.new.work 16384 (8 * n) (omega arith) w.ensures.3 in
    let one = encoded_alike q n high z p.0.in_range.modulus_high m.new.work 0 (mul q n s u) m.ensures.one in
    let two = encoded_alike q n high z p.0.in_range.modulus_high m.new.work 16384 (mul q n s0 u) m.ensures.two in
    let last = encoded_alike q n high z p.0.in_range.modulus_high w.new.work 0 (mul q n s u) (k ∙ m.ensures.one) in
    record {
      shares0 =
          w.ensures.0 ∙ ap (put a.shares0.now a.at) (lent_share q n i s s0 u (lent_mask a.mask0.now) two
          ∙ ap (λ (j : ℕ). coefficient_bytes q n (share q n j s0 u (lent_mask a.mask0.now))) is);
      shares1 =
          w.ensures.1 ∙ ap (put a.shares1.now a.at) (other_share q n i s s0 u one (lent_mask a.mask1.now) two
          ∙ ap (λ (j : ℕ). coefficient_bytes q n (share q n j (other q s s0) u (lent_mask a.mask1.now))) is);
      claims =
          v.ensures.0 ∙ ap (put a.claims.now a.claim) (claim_plain q n i s s0 u last (poly a.v.now) ∙ ap (λ (j : ℕ). list n (decrypted q n j s u (poly a.v.now))) is);
      kept = v.ensures.1 ∙ w.ensures.2 ∙ m.ensures.sized;
    }
