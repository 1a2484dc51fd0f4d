-- `scheme::reconstruct` meets its contract. Assumes nothing.
use mathlib.Core.Path.{◌≡◌, refl, ap, ◌∙◌}
use Prim.Native.Nat.{ℕ}
use native.Mathlib.Omega.{arith}
use Rattle.codec.specs.Bytes.{same, zeros}
use Rattle.codec.specs.Reply.{first, Taken}
use Rattle.codec.specs.Lists.{list}
use Rattle.ring.specs.Slots.{poly}
use Rattle.scratch.proofs.Order.{length_asked, stops, follows}
use Rattle.scratch.proofs.Slots.{stands_below}
use Rattle.scratch.proofs.Zeroizing.{worked_taken, worked_refused}
use Rattle.bgv.specs.Scheme.{rebuilt, plaintext}
use Rattle.bgv.proofs.Votes.{plain_stands}
use Rattle.scheme.specs.Calls.{reconstruct_tests, reconstruct_writes}
use Rattle.scheme.proofs.Passed.{done, reconstruct_passed}
use Rattle.scheme.proofs.reconstruct.Goals as goal

pub returns-then-not-sized : goal.returns-then-not-sized
unfolding same
returns-then-not-sized c = worked_refused (stops 1 c.sized.ensures _ c.if-not-sized.true refl) refl

pub reconstruct_ranged-requires : goal.reconstruct_ranged-requires
reconstruct_ranged-requires c = (length_asked _ _ 0 c.sized.ensures c.if-not-sized.false, length_asked _ _ 1 c.sized.ensures c.if-not-sized.false, length_asked _ _ 2 c.sized.ensures c.if-not-sized.false)

pub returns-then-not-reconstruct_ranged : goal.returns-then-not-reconstruct_ranged
unfolding same
returns-then-not-reconstruct_ranged c = worked_refused (follows 1 c.sized.ensures _ c.if-not-sized.false (stops 5 c.reconstruct_ranged.ensures _ c.if-not-reconstruct_ranged.true refl)) refl

pub rebuilt-requires : goal.rebuilt-requires
unfolding same
rebuilt-requires c =
    let a = c.args in
    let went : Taken ≡ first (reconstruct_tests a.k a.v.now a.t0.now a.t1.now a.vote.now a.scratch.now) = follows 1 c.sized.ensures _ c.if-not-sized.false (follows 5 c.reconstruct_ranged.ensures _ c.if-not-reconstruct_ranged.false done) in
    let h = reconstruct_passed a.k c.requires a.v.now a.t0.now a.t1.now a.vote.now a.scratch.now went in
    (h.0, h.1.0, h.1.1, h.3)

pub plain-requires : goal.plain-requires
plain-requires c =
    let a = c.args in
    let u = c.requires in
    let o = c.rebuilt.ensures in
    let e = c.plain-p.ensures in
    (omega (arith, o.sized, u.in_range.ring_high, length_asked _ _ 4 c.sized.ensures c.if-not-sized.false), length_asked _ _ 3 c.sized.ensures c.if-not-sized.false, omega (arith, u.in_range.modulus_low), stands_below a.k.modulus a.k.ring _ _ _ o (omega (arith, u.in_range.modulus_low)) u.in_range.modulus_high, omega (arith, e, u.in_range.plain_low), omega (arith, e, u.in_range.plain_high), u.in_range.modulus_high)

pub returns : goal.returns
unfolding same reconstruct_writes
returns c =
    let a = c.args in
    let u = c.requires in
    let o = c.rebuilt.ensures in
    let went : Taken ≡ first (reconstruct_tests a.k a.v.now a.t0.now a.t1.now a.vote.now a.scratch.now) = follows 1 c.sized.ensures _ c.if-not-sized.false (follows 5 c.reconstruct_ranged.ensures _ c.if-not-reconstruct_ranged.false done) in
    let voted = ap (λ (i : ℕ). list a.k.ring (plaintext a.k.modulus i (rebuilt a.k.modulus (poly a.v.now) (poly a.t0.now) (poly a.t1.now)))) c.plain-p.ensures in
    worked_taken went refl (c.plain.ensures ∙ plain_stands a.k.modulus _ a.k.ring _ _ _ (omega (arith, u.in_range.modulus_low)) u.in_range.modulus_high o ∙ voted) (c.wipe.ensures ∙ ap zeros o.sized)
