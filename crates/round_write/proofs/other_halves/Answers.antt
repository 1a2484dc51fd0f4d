-- `round_write::other_halves` meets its contract. Assumes nothing.
use mathlib.Core.Path.{◌≡◌, ap, ◌∙◌}
use Prim.Native.Nat.{◌-◌, ◌*◌}
use native.Mathlib.Omega.{arith}
use borrow.Author.Rules.{rules}
use lib.ListN.{length}
use Rattle.codec.specs.Bytes.{Bytes, part, put}
use Rattle.ring.specs.Poly.{Poly}
use Rattle.ring.specs.Slots.{coefficient_bytes, poly}
use Rattle.ring.specs.Ternary.{ternary}
use Rattle.bgv.specs.Scheme.{other}
use Rattle.scratch.specs.Internal.{InSlot}
use Rattle.scratch.proofs.Loads.{stands_put}
use Rattle.scratch.proofs.Zeroizing.{length_zeros}
use Rattle.scheme.proofs.Places.{handed}
use Rattle.stern.proofs.Answered.{lent_length}
use Rattle.round_head.proofs.Joining.{cut}
use Rattle.round_head.proofs.HeadParts.{two_behind}
use Rattle.round_write.proofs.other_halves.Goals.{Start}
use Rattle.round_write.proofs.other_halves.Goals as goal

-- the other half of s or of e, where it is put at the head of scratch
stands : (s : Start) (f : Poly) (w w1 : Bytes) → length w ≡ 1048576 → w1 ≡ put w 0 (coefficient_bytes s.args.q s.args.n f) → InSlot s.args.q s.args.n f w w1
stands s f w w1 l e = let x = s.requires.0 in stands_put s.args.q s.args.n x.ring_high x.modulus_low x.modulus_high f w w1 l e

pub hand_out-requires : goal.hand_out-requires
hand_out-requires c =
    let p = c.requires in
    (omega (arith, p.4), omega (arith, p.3, p.0.ring_high, c.difference.auto.work))

pub difference-requires-2 : goal.difference-requires-2
difference-requires-2 c =
    let a = c.args in
    let p = c.requires in
    let n = a.n in
    (p.1, omega (arith, p.3, c.difference.auto.work, c.hand_out.auto.scratch), lent_length a.secrets.now n (2 * n - n) n (omega arith) (omega (arith, p.2)), omega arith)

pub overflow_mul-n-2 : goal.overflow_mul-n-2
overflow_mul-n-2 c = let h = c.requires.0.ring_high in search rules

pub hand_out-requires-2 : goal.hand_out-requires-2
hand_out-requires-2 c =
    let p = c.requires in
    (omega (arith, p.4, c.hand_out.auto.out), omega (arith, p.3, p.0.ring_high, c.difference.auto.work, c.hand_out.auto.scratch, c.difference-2.auto.work))

pub returns : goal.returns
returns c =
    let a = c.args in
    let p = c.requires in
    let q = a.q in
    let n = a.n in
    let s = a.secrets.now in
    let d = handed (stands (goal.at.returns c).Start _ _ _ p.3 c.difference.ensures) c.hand_out.ensures in
    let e = handed (stands (goal.at.returns c).Start _ _ _ (length_zeros d.cleared ∙ p.3) c.difference-2.ensures) c.hand_out-2.ensures in
    let d1 = c.hand_out.new.out in (
      two_behind q n (other q (ternary q (part s 0 n)) (poly a.s0.now)) (other q (ternary q (part s n n)) (poly a.e0.now)) a.opening.now d1 _ p.4
          (d.written ∙ ap (λ (x : Bytes). put a.opening.now 0 (coefficient_bytes q n (other q (ternary q x) (poly a.s0.now)))) (cut s 0 (n - 0) n (omega arith)))
          (e.written ∙ ap (λ (x : Bytes). put d1 (8 * n) (coefficient_bytes q n (other q (ternary q x) (poly a.e0.now)))) (cut s n (2 * n - n) n (omega arith))),
      length_zeros e.cleared ∙ length_zeros d.cleared,
    )
