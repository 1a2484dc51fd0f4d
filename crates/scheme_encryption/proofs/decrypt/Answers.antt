-- `decrypt` meets its contract. Assumes nothing.
use mathlib.Core.Path.{◌≡◌, refl, ap, ◌∙◌}
use Prim.Native.Nat.{ℕ, ◌-◌, ◌*◌}
use native.Mathlib.Omega.{arith}
use borrow.Author.Rules.{rules}
use Rattle.codec.specs.Bytes.{same, zeros}
use Rattle.codec.specs.Reply.{first, Taken}
use Rattle.codec.specs.Lists.{list}
use Rattle.ring.specs.Slots.{slot}
use Rattle.ring.specs.Ternary.{ternary}
use Rattle.scratch.proofs.Order.{length_asked, stops, follows}
use Rattle.scratch.proofs.Slots.{stands_below, stands_alike}
use Rattle.scratch.proofs.Ranges.{half_alike, half_public}
use Rattle.scratch.proofs.Zeroizing.{worked_taken, worked_refused}
use Rattle.bgv.specs.Scheme.{noise_in, plaintext}
use Rattle.bgv.proofs.Votes.{plain_stands}
use Rattle.bgv.proofs.Form.{noise_alike}
use Rattle.scheme.specs.Calls.{decrypt_tests, decrypt_writes}
use Rattle.scheme.proofs.Passed.{done}
use Rattle.scheme_encryption.proofs.Passed.{decrypt_passed}
use Rattle.scheme_encryption.proofs.decrypt.Goals as goal

pub returns-then-not-sized : goal.returns-then-not-sized
unfolding same
returns-then-not-sized c = worked_refused (stops 1 c.sized.ensures _ c.if-not-sized.true refl) refl

pub ternary_and_in_range-requires : goal.ternary_and_in_range-requires
ternary_and_in_range-requires c = omega (arith, length_asked _ _ 1 c.sized.ensures c.if-not-sized.false)

pub returns-then-not-ternary_and_in_range : goal.returns-then-not-ternary_and_in_range
unfolding same
returns-then-not-ternary_and_in_range c = worked_refused (follows 1 c.sized.ensures _ c.if-not-sized.false (stops 5 c.ternary_and_in_range.ensures _ c.if-not-ternary_and_in_range.true refl)) refl

pub slice_bounds-noise-end : goal.slice_bounds-noise-end
slice_bounds-noise-end c = let h = length_asked _ _ 1 c.sized.ensures c.if-not-sized.false in search rules

pub slice_bounds-noise-end-2 : goal.slice_bounds-noise-end-2
slice_bounds-noise-end-2 c = let h = length_asked _ _ 1 c.sized.ensures c.if-not-sized.false in search rules

pub noise-requires : goal.noise-requires
unfolding same
noise-requires c =
    let a = c.args in
    let n = a.k.ring in
    let u = c.requires in
    let went : Taken ≡ first (decrypt_tests a.k a.s.now a.ciphertext.now a.vote.now a.scratch.now) = follows 1 c.sized.ensures _ c.if-not-sized.false (follows 5 c.ternary_and_in_range.ensures _ c.if-not-ternary_and_in_range.false done) in
    let p = decrypt_passed a.k a.s.now a.ciphertext.now a.vote.now a.scratch.now went in (
      half_public n a.k.modulus u.in_range.ring_low u.in_range.ring_high u.in_range.modulus_low u.in_range.modulus_high a.ciphertext.now p.1 p.2 0 0 (8 * n - 0) (omega arith) (omega arith) (omega arith),
      half_public n a.k.modulus u.in_range.ring_low u.in_range.ring_high u.in_range.modulus_low u.in_range.modulus_high a.ciphertext.now p.1 p.2 n (8 * n) (16 * n - 8 * n) (omega arith) (omega arith) (omega arith),
      p.4,
      p.0,
    )

pub plain-requires : goal.plain-requires
plain-requires c =
    let a = c.args in
    let u = c.requires in
    let o = c.noise.ensures in
    let e = c.plain-p.ensures in
    (omega (arith, o.sized, length_asked _ _ 3 c.sized.ensures c.if-not-sized.false, u.in_range.ring_high), length_asked _ _ 2 c.sized.ensures c.if-not-sized.false, omega (arith, u.in_range.modulus_low), stands_below a.k.modulus a.k.ring _ _ _ o (omega (arith, u.in_range.modulus_low)) u.in_range.modulus_high, omega (arith, e, u.in_range.plain_low), omega (arith, e, u.in_range.plain_high), u.in_range.modulus_high)

pub returns : goal.returns
unfolding same decrypt_writes
returns c =
    let a = c.args in
    let q = a.k.modulus in
    let n = a.k.ring in
    let l = c.requires in
    let went : Taken ≡ first (decrypt_tests a.k a.s.now a.ciphertext.now a.vote.now a.scratch.now) = follows 1 c.sized.ensures _ c.if-not-sized.false (follows 5 c.ternary_and_in_range.ensures _ c.if-not-ternary_and_in_range.false done) in
    let p = decrypt_passed a.k a.s.now a.ciphertext.now a.vote.now a.scratch.now went in
    let u = half_alike n q l.in_range.ring_low l.in_range.ring_high l.in_range.modulus_low l.in_range.modulus_high a.ciphertext.now p.1 p.2 0 0 (8 * n - 0) (omega arith) (omega arith) (omega arith) in
    let v = half_alike n q l.in_range.ring_low l.in_range.ring_high l.in_range.modulus_low l.in_range.modulus_high a.ciphertext.now p.1 p.2 n (8 * n) (16 * n - 8 * n) (omega arith) (omega arith) (omega arith) in
    let o = stands_alike c.noise.ensures (noise_alike q n (ternary q a.s.now) u v) in
    let voted = ap (λ (i : ℕ). list n (plaintext q i (noise_in q n (ternary q a.s.now) (slot a.ciphertext.now 0) (slot a.ciphertext.now (8 * n))))) c.plain-p.ensures in
    worked_taken went refl (c.plain.ensures ∙ plain_stands q _ n _ _ _ (omega (arith, l.in_range.modulus_low)) l.in_range.modulus_high o ∙ voted) (c.wipe.ensures ∙ ap zeros o.sized)
