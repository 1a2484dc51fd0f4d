-- `keygen` meets its contract. Assumes nothing.
use mathlib.Core.Path.{◌≡◌, refl, sym, subst, ◌∙◌}
use Prim.Native.Nat.{ℕ}
use native.Mathlib.Omega.{arith}
use borrow.Author.Rules.{rules}
use Rattle.codec.specs.Bytes.{Bytes, same}
use Rattle.codec.specs.Reply.{first, Taken}
use Rattle.ring.specs.Slots.{coefficient_bytes, poly}
use Rattle.ring.specs.Ternary.{ternary}
use Rattle.scratch.specs.Internal.{Polynomial}
use Rattle.scratch.proofs.Order.{length_asked, stops, follows}
use Rattle.scratch.proofs.Zeroizing.{worked_taken, worked_refused}
use Rattle.bgv.specs.Scheme.{key}
use Rattle.commitment.proofs.Cut.{a_cut, with_a}
use Rattle.scheme.specs.Calls.{keygen_tests, keygen_writes}
use Rattle.scheme.proofs.Passed.{done}
use Rattle.scheme.proofs.Places.{handed, one_written}
use Rattle.scheme_keys.proofs.Passed.{keygen_passed}
use Rattle.scheme_keys.proofs.keygen.Goals as goal

pub overflow_mul-n : goal.overflow_mul-n
overflow_mul-n c = let h = c.requires.a.ring_high in search rules

pub returns-then-not-sized : goal.returns-then-not-sized
unfolding same
returns-then-not-sized c = worked_refused (stops 1 c.sized.ensures _ c.if-not-sized.true refl) refl

pub returns-then-not-both_ternary : goal.returns-then-not-both_ternary
unfolding same
returns-then-not-both_ternary c = worked_refused (follows 1 c.sized.ensures _ c.if-not-sized.false (stops 5 c.both_ternary.ensures _ c.if-not-both_ternary.true refl)) refl

pub slice_bounds-noisy-end : goal.slice_bounds-noisy-end
slice_bounds-noisy-end c = let h = c.requires.sized in search rules

pub noisy-requires : goal.noisy-requires
noisy-requires c =
    let a = c.args in
    let p = c.requires in
    (subst (Polynomial a.k.ring a.k.modulus) (sym (a_cut a.k a.public.now)) p.a, length_asked _ _ 3 c.sized.ensures c.if-not-sized.false, length_asked _ _ 0 c.sized.ensures c.if-not-sized.false, length_asked _ _ 1 c.sized.ensures c.if-not-sized.false, omega (arith, c.plain-p.ensures, p.numbers.plain_below))

pub hand_out-requires : goal.hand_out-requires
hand_out-requires c =
    let p = c.requires in
    (omega (arith, length_asked _ _ 2 c.sized.ensures c.if-not-sized.false), omega (arith, c.noisy.ensures.sized, p.a.ring_high, length_asked _ _ 3 c.sized.ensures c.if-not-sized.false))

pub returns : goal.returns
unfolding same keygen_writes
returns c =
    let a = c.args in
    let k = a.k in
    let went : Taken ≡ first (keygen_tests a.k a.s.now a.e.now a.b.now a.scratch.now) = follows 1 c.sized.ensures _ c.if-not-sized.false (follows 5 c.both_ternary.ensures _ c.if-not-both_ternary.false done) in
    let h = keygen_passed k a.s.now a.e.now a.b.now a.scratch.now went in
    let w = handed c.noisy.ensures c.hand_out.ensures in
    let made = with_a k a.public.now (λ (p : ℕ) (x : Bytes). coefficient_bytes k.modulus k.ring (key k.modulus k.ring p (poly x) (ternary k.modulus a.s.now) (ternary k.modulus a.e.now))) c.plain-p.ensures in
    worked_taken went refl (one_written k.modulus k.ring _ a.b.now _ h.3 w.written ∙ made) w.cleared
