-- `scheme::share` meets its contract. Assumes nothing.
use mathlib.Core.Path.{◌≡◌, refl, ap, ◌∙◌}
use Prim.Native.Nat.{ℕ}
use native.Mathlib.Omega.{arith}
use Rattle.codec.specs.Bytes.{same}
use Rattle.codec.specs.Reply.{first, Taken}
use Rattle.ring.specs.Slots.{coefficient_bytes, poly}
use Rattle.scratch.proofs.Order.{length_asked, stops, follows}
use Rattle.scratch.proofs.Zeroizing.{worked_taken, worked_refused}
use Rattle.bgv.specs.Scheme as scheme
use Rattle.bgv.specs.Scheme.{lent_mask, within}
use Rattle.scheme.specs.Calls.{share_tests, share_writes}
use Rattle.scheme.proofs.Places.{handed, one_written}
use Rattle.scheme.proofs.Passed.{done, share_passed}
use Rattle.scheme.proofs.share.Goals as goal

pub returns-then-not-sized : goal.returns-then-not-sized
unfolding same
returns-then-not-sized c = worked_refused (stops 1 c.sized.ensures _ c.if-not-sized.true refl) refl

pub both_in_range-requires : goal.both_in_range-requires
both_in_range-requires c = (length_asked _ _ 0 c.sized.ensures c.if-not-sized.false, length_asked _ _ 1 c.sized.ensures c.if-not-sized.false)

pub returns-then-not-both_in_range : goal.returns-then-not-both_in_range
unfolding same
returns-then-not-both_in_range c = worked_refused (follows 1 c.sized.ensures _ c.if-not-sized.false (stops 5 c.both_in_range.ensures _ c.if-not-both_in_range.true refl)) refl

pub bounded-requires : goal.bounded-requires
bounded-requires c = omega (arith, length_asked _ _ 2 c.sized.ensures c.if-not-sized.false)

pub returns-then-not-bounded : goal.returns-then-not-bounded
unfolding same
returns-then-not-bounded c =
    let a = c.args in
    let bounded = c.bounded.ensures ∙ ap (λ (B : ℕ). within B a.k.ring (lent_mask a.mask.now)) c.mask_bound-bound.ensures in
    worked_refused (follows 1 c.sized.ensures _ c.if-not-sized.false (follows 5 c.both_in_range.ensures _ c.if-not-both_in_range.false (stops 12 bounded _ c.if-not-bounded.true refl))) refl

pub share-requires : goal.share-requires
unfolding same
share-requires c =
    let a = c.args in
    let u = c.requires in
    let bounded = c.bounded.ensures ∙ ap (λ (B : ℕ). within B a.k.ring (lent_mask a.mask.now)) c.mask_bound-bound.ensures in
    let went : Taken ≡ first (share_tests a.k a.half.now a.u.now a.mask.now a.t.now a.scratch.now) = follows 1 c.sized.ensures _ c.if-not-sized.false (follows 5 c.both_in_range.ensures _ c.if-not-both_in_range.false (follows 12 bounded _ c.if-not-bounded.false done)) in
    let h = share_passed a.k u a.half.now a.u.now a.mask.now a.t.now a.scratch.now went in
    (h.0.0, h.0.1, h.1, h.2, omega (arith, c.plain-p.ensures, u.plain_below))

pub hand_out-requires : goal.hand_out-requires
hand_out-requires c =
    let u = c.requires in
    (omega (arith, length_asked _ _ 3 c.sized.ensures c.if-not-sized.false), omega (arith, c.share.ensures.sized, u.in_range.ring_high, length_asked _ _ 4 c.sized.ensures c.if-not-sized.false))

pub returns : goal.returns
unfolding same share_writes
returns c =
    let a = c.args in
    let bounded = c.bounded.ensures ∙ ap (λ (B : ℕ). within B a.k.ring (lent_mask a.mask.now)) c.mask_bound-bound.ensures in
    let went : Taken ≡ first (share_tests a.k a.half.now a.u.now a.mask.now a.t.now a.scratch.now) = follows 1 c.sized.ensures _ c.if-not-sized.false (follows 5 c.both_in_range.ensures _ c.if-not-both_in_range.false (follows 12 bounded _ c.if-not-bounded.false done)) in
    let h = share_passed a.k c.requires a.half.now a.u.now a.mask.now a.t.now a.scratch.now went in
    let w = handed c.share.ensures c.hand_out.ensures in
    let plain = ap (λ (p : ℕ). coefficient_bytes a.k.modulus a.k.ring (scheme.share a.k.modulus a.k.ring p (poly a.half.now) (poly a.u.now) (lent_mask a.mask.now))) c.plain-p.ensures in
    worked_taken went refl (one_written a.k.modulus a.k.ring _ a.t.now _ h.3 w.written ∙ plain) w.cleared
