-- `round_search::write_excess` meets its contract. Assumes nothing.
use mathlib.Core.Path.{◌≡◌, refl, sym, ap, ◌∙◌}
use Prim.Native.Nat.{ℕ, ◌*◌}
use native.Mathlib.Nat.{zero-add}
use native.Mathlib.Omega.{arith}
use Rattle.codec.specs.Bytes.{bytes, put}
use Rattle.codec.proofs.Laws.{put_whole}
use Rattle.ring.specs.Poly.{modulo}
use Rattle.ring.specs.Slots.{encode}
use Rattle.ring.proofs.Bridge.{length_encode}
use Rattle.ring.proofs.Filling.{filled, filled_none, filled_more, filled_all}
use Rattle.round_search.specs.Internal.{unknowns_of, excess}
use Rattle.round_search.proofs.write_excess.Goals as goal

pub loop-i-init : goal.loop-i-init
loop-i-init c = (refl, filled_none _ _ _)

pub loop-i-preserved : goal.loop-i-preserved
unfolding modulo
loop-i-preserved c =
    let a = c.args in
    let l = c.loop-i in (
      c.write64.auto.d ∙ l.invariant.0,
      filled_more a.out.now 0 _ l.i l.out _ _ l.invariant.1 (omega arith) c.excess-v.ensures (c.write64.ensures ∙ ap (λ (k : ℕ). put l.out k (bytes 8 c.excess-v.result)) (sym (zero-add (8 * l.i)))),
    )

pub shape_of-out : goal.shape_of-out
shape_of-out c = c.loop-i.invariant.0

pub returns : goal.returns
returns c =
    let a = c.args in
    let l = c.loop-i in
    let f = modulo a.q (excess a.q a.n a.r0.now a.r1.now (unknowns_of a.q a.n a.u.now a.r.now) a.first) in
    let e : l.i ≡ 3 * a.n = omega arith in
    l.invariant.1 ∙ ap (filled a.out.now 0 f) e ∙ filled_all a.out.now 0 f (3 * a.n) ∙ put_whole a.out.now (encode (3 * a.n) f) (length_encode (3 * a.n) f ∙ omega arith)
