-- `round_write::write_opening` meets its contract. Assumes nothing.
use mathlib.Core.Path.{◌≡◌, refl, ◌∙◌}
use Prim.Native.Nat.{◌*◌}
use native.Mathlib.Omega.{arith}
use Rattle.codec.specs.Bytes.{part}
use Rattle.ring.specs.Slots.{poly}
use Rattle.ring.specs.Ternary.{ternary}
use Rattle.bgv.specs.Scheme.{other}
use Rattle.round_write.proofs.OpeningParts.{opening_whole, opening_lent, opening_other}
use Rattle.round_write.proofs.write_opening.Goals as goal

pub returns-then-side-eq0 : goal.returns-then-side-eq0
returns-then-side-eq0 c =
    let a = c.args in
    let p = c.requires in
    let n = a.k.ring in
    let h = c.hiding in
    let l = c.lent_halves in (
      opening_whole a.k.modulus n (poly a.s0.now) (poly a.e0.now) a.secrets.now a.opening.now l.new.opening h.new.opening (2 * n) (8 * n) 0 p.5 p.2 (omega arith) (omega arith) (omega arith) l.ensures h.ensures
          ∙ opening_lent a.k.modulus n a.secrets.now a.s0.now a.e0.now a.side c.if-side-eq0.true,
      refl,
    )

pub returns-else-side-eq0 : goal.returns-else-side-eq0
returns-else-side-eq0 c =
    let a = c.args in
    let p = c.requires in
    let q = a.k.modulus in
    let n = a.k.ring in
    let s = a.secrets.now in
    let h = c.hiding-else-side-eq0 in
    let o = c.other_halves in
    let one : a.side ≡ 1 = omega (arith, c.if-side-eq0.false, p.4) in (
      opening_whole q n (other q (ternary q (part s 0 n)) (poly a.s0.now)) (other q (ternary q (part s n n)) (poly a.e0.now)) s a.opening.now o.new.opening h.new.opening (5 * n) (11 * n) 1 p.5 p.2 (omega arith) (omega arith) (omega arith) o.ensures.0 h.ensures
          ∙ opening_other q n s a.s0.now a.e0.now a.side one,
      o.ensures.1,
    )
