-- `split` meets its contract. Assumes nothing.
use mathlib.Core.Path.{◌≡◌, refl, sym, ap, subst, ◌∙◌}
use Prim.Native.Nat.{ℕ}
use native.Mathlib.Omega.{arith}
use borrow.Author.Rules.{rules}
use lib.ListN.{length}
use Rattle.codec.specs.Bytes.{Bytes, put, same}
use Rattle.ring.specs.Slots.{coefficient_bytes, poly}
use Rattle.ring.specs.Ternary.{ternary}
use Rattle.ring.specs.Poly.{Poly}
use Rattle.sheet_numbers.specs.Plain.{plain}
use Rattle.sheet_numbers.specs.Internal.{Usable}
use Rattle.sheet_numbers.specs.declared.Numbers.{Numbers}
use Rattle.scratch.specs.Internal.{Polynomial, InSlot}
use Rattle.scratch.proofs.Order.{length_asked, stops, follows}
use Rattle.scratch.proofs.Loads.{stands_put}
use Rattle.scratch.proofs.Zeroizing.{length_zeros, worked_taken, worked_refused}
use Rattle.bgv.specs.Scheme.{key, other}
use Rattle.commitment.specs.Loaded.{a_of}
use Rattle.commitment.proofs.Cut.{a_cut, with_a}
use Rattle.scheme.specs.Calls.{split_writes}
use Rattle.scheme.proofs.Passed.{done}
use Rattle.scheme.proofs.Places.{handed, four_written, zeros_again}
use Rattle.scheme_keys.proofs.Passed.{split_passed}
use Rattle.scheme_keys.proofs.split.Goals as goal

-- the other half of s or of e, where it is put at the head of scratch
stands : (k : Numbers) → Usable k → (f : Poly) (w w1 : Bytes) → length w ≡ 1048576 → w1 ≡ put w 0 (coefficient_bytes k.modulus k.ring f) → InSlot k.modulus k.ring f w w1
stands k u f w w1 l e = stands_put k.modulus k.ring u.in_range.ring_high u.in_range.modulus_low u.in_range.modulus_high f w w1 l e

pub overflow_mul-n : goal.overflow_mul-n
overflow_mul-n c = let h = c.requires.a.ring_high in search rules

pub overflow_mul-n-2 : goal.overflow_mul-n-2
overflow_mul-n-2 c = let h = c.requires.a.ring_high in search rules

pub overflow_mul-n-3 : goal.overflow_mul-n-3
overflow_mul-n-3 c = let h = c.requires.a.ring_high in search rules

pub returns-then-not-sized : goal.returns-then-not-sized
unfolding same
returns-then-not-sized c = worked_refused (stops 1 c.sized.ensures _ c.if-not-sized.true refl) refl

pub split_ranged-requires : goal.split_ranged-requires
split_ranged-requires c = (length_asked _ _ 2 c.sized.ensures c.if-not-sized.false, length_asked _ _ 3 c.sized.ensures c.if-not-sized.false)

pub returns-then-not-split_ranged : goal.returns-then-not-split_ranged
unfolding same
returns-then-not-split_ranged c = worked_refused (follows 1 c.sized.ensures _ c.if-not-sized.false (stops 5 c.split_ranged.ensures _ c.if-not-split_ranged.true refl)) refl

pub difference-requires : goal.difference-requires
difference-requires c =
    let h = (split_passed c.args.k c.requires.numbers c.args.s.now c.args.e.now c.args.s0.now c.args.e0.now c.args.out.now c.args.scratch.now (follows 1 c.sized.ensures _ c.if-not-sized.false (follows 5 c.split_ranged.ensures _ c.if-not-split_ranged.false done))).0 in
    (h.0, length_asked _ _ 5 c.sized.ensures c.if-not-sized.false, length_asked _ _ 0 c.sized.ensures c.if-not-sized.false, omega arith)

pub hand_out-requires : goal.hand_out-requires
hand_out-requires c =
    let l = length_asked _ _ 5 c.sized.ensures c.if-not-sized.false in
    (omega (arith, length_asked _ _ 4 c.sized.ensures c.if-not-sized.false), omega (arith, l, c.requires.a.ring_high, c.difference.auto.work))

pub difference-requires-2 : goal.difference-requires-2
difference-requires-2 c =
    let h = (split_passed c.args.k c.requires.numbers c.args.s.now c.args.e.now c.args.s0.now c.args.e0.now c.args.out.now c.args.scratch.now (follows 1 c.sized.ensures _ c.if-not-sized.false (follows 5 c.split_ranged.ensures _ c.if-not-split_ranged.false done))).0 in
    (h.1, omega (arith, length_asked _ _ 5 c.sized.ensures c.if-not-sized.false, c.difference.auto.work, c.hand_out.auto.scratch), length_asked _ _ 1 c.sized.ensures c.if-not-sized.false, omega arith)

pub overflow_mul-n-4 : goal.overflow_mul-n-4
overflow_mul-n-4 c = let h = c.requires.a.ring_high in search rules

pub hand_out-requires-2 : goal.hand_out-requires-2
hand_out-requires-2 c =
    let l = length_asked _ _ 5 c.sized.ensures c.if-not-sized.false in
    (omega (arith, length_asked _ _ 4 c.sized.ensures c.if-not-sized.false, c.hand_out.auto.out), omega (arith, l, c.requires.a.ring_high, c.difference.auto.work, c.hand_out.auto.scratch, c.difference-2.auto.work))

pub overflow_mul-n-5 : goal.overflow_mul-n-5
overflow_mul-n-5 c = let h = c.requires.a.ring_high in search rules

pub slice_bounds-noisy_lent-end : goal.slice_bounds-noisy_lent-end
slice_bounds-noisy_lent-end c = let h = c.requires.sized in search rules

pub noisy_lent-requires : goal.noisy_lent-requires
noisy_lent-requires c =
    let a = c.args in
    let p = c.requires in
    let h = (split_passed c.args.k c.requires.numbers c.args.s.now c.args.e.now c.args.s0.now c.args.e0.now c.args.out.now c.args.scratch.now (follows 1 c.sized.ensures _ c.if-not-sized.false (follows 5 c.split_ranged.ensures _ c.if-not-split_ranged.false done))).0 in
    let l = length_asked _ _ 5 c.sized.ensures c.if-not-sized.false in
    (subst (Polynomial a.k.ring a.k.modulus) (sym (a_cut a.k a.public.now)) p.a, h.0, h.1, omega (arith, l, c.difference.auto.work, c.hand_out.auto.scratch, c.difference-2.auto.work, c.hand_out-2.auto.scratch), omega (arith, c.plain-p.ensures, p.numbers.plain_below))

pub overflow_mul-n-6 : goal.overflow_mul-n-6
overflow_mul-n-6 c = let h = c.requires.a.ring_high in search rules

pub hand_out-requires-3 : goal.hand_out-requires-3
hand_out-requires-3 c =
    let l = length_asked _ _ 5 c.sized.ensures c.if-not-sized.false in
    (omega (arith, length_asked _ _ 4 c.sized.ensures c.if-not-sized.false, c.hand_out.auto.out, c.hand_out-2.auto.out), omega (arith, l, c.requires.a.ring_high, c.difference.auto.work, c.hand_out.auto.scratch, c.difference-2.auto.work, c.hand_out-2.auto.scratch, c.noisy_lent.auto.work))

pub overflow_mul-n-7 : goal.overflow_mul-n-7
overflow_mul-n-7 c = let h = c.requires.a.ring_high in search rules

pub slice_bounds-noisy_difference-end : goal.slice_bounds-noisy_difference-end
slice_bounds-noisy_difference-end c = let h = c.requires.sized in search rules

pub noisy_difference-requires : goal.noisy_difference-requires
noisy_difference-requires c =
    let a = c.args in
    let p = c.requires in
    let h = (split_passed c.args.k c.requires.numbers c.args.s.now c.args.e.now c.args.s0.now c.args.e0.now c.args.out.now c.args.scratch.now (follows 1 c.sized.ensures _ c.if-not-sized.false (follows 5 c.split_ranged.ensures _ c.if-not-split_ranged.false done))).0 in
    let l = length_asked _ _ 5 c.sized.ensures c.if-not-sized.false in
    (subst (Polynomial a.k.ring a.k.modulus) (sym (a_cut a.k a.public.now)) p.a, h.0, h.1, omega (arith, l, c.difference.auto.work, c.hand_out.auto.scratch, c.difference-2.auto.work, c.hand_out-2.auto.scratch, c.noisy_lent.auto.work, c.hand_out-3.auto.scratch), length_asked _ _ 0 c.sized.ensures c.if-not-sized.false, length_asked _ _ 1 c.sized.ensures c.if-not-sized.false, omega (arith, c.plain-p.ensures, p.numbers.plain_below))

pub overflow_mul-n-8 : goal.overflow_mul-n-8
overflow_mul-n-8 c = let h = c.requires.a.ring_high in search rules

pub hand_out-requires-4 : goal.hand_out-requires-4
hand_out-requires-4 c =
    let l = length_asked _ _ 5 c.sized.ensures c.if-not-sized.false in
    (omega (arith, length_asked _ _ 4 c.sized.ensures c.if-not-sized.false, c.hand_out.auto.out, c.hand_out-2.auto.out, c.hand_out-3.auto.out), omega (arith, l, c.requires.a.ring_high, c.difference.auto.work, c.hand_out.auto.scratch, c.difference-2.auto.work, c.hand_out-2.auto.scratch, c.noisy_lent.auto.work, c.hand_out-3.auto.scratch, c.noisy_difference.auto.work))

pub shape_of-out : goal.shape_of-out
shape_of-out c =
    let h1 = c.hand_out.auto.out in
    let h2 = c.hand_out-2.auto.out in
    let h3 = c.hand_out-3.auto.out in
    let h4 = c.hand_out-4.auto.out in
    search rules

pub shape_of-scratch : goal.shape_of-scratch
shape_of-scratch c =
    let h1 = c.difference.auto.work in
    let h2 = c.hand_out.auto.scratch in
    let h3 = c.difference-2.auto.work in
    let h4 = c.hand_out-2.auto.scratch in
    let h5 = c.noisy_lent.auto.work in
    let h6 = c.hand_out-3.auto.scratch in
    let h7 = c.noisy_difference.auto.work in
    let h8 = c.hand_out-4.auto.scratch in
    search rules

pub returns : goal.returns
unfolding split_writes
returns c =
    let a = c.args in
    let k = a.k in
    let q = k.modulus in
    let n = k.ring in
    let l = length a.scratch.now in
    let m = length_asked _ _ 5 c.sized.ensures c.if-not-sized.false in
    let s1 = other q (ternary q a.s.now) (poly a.s0.now) in
    let e1 = other q (ternary q a.e.now) (poly a.e0.now) in
    let x = handed (stands k c.requires.numbers s1 _ _ m c.difference.ensures) c.hand_out.ensures in
    let y = handed (stands k c.requires.numbers e1 _ _ (length_zeros x.cleared ∙ m) c.difference-2.ensures) c.hand_out-2.ensures in
    let z = handed c.noisy_lent.ensures c.hand_out-3.ensures in
    let w = handed c.noisy_difference.ensures c.hand_out-4.ensures in
    let e = c.plain-p.ensures in
    let b0 = with_a k a.public.now (λ (i : ℕ) (f : Bytes). coefficient_bytes q n (key q n i (poly f) (poly a.s0.now) (poly a.e0.now))) e in
    let b1 = with_a k a.public.now (λ (i : ℕ) (f : Bytes). coefficient_bytes q n (key q n i (poly f) s1 e1)) e in
    worked_taken (follows 1 c.sized.ensures _ c.if-not-sized.false (follows 5 c.split_ranged.ensures _ c.if-not-split_ranged.false done)) refl
    (four_written q n s1 e1 (key q n (plain k) (poly (a_of k a.public.now)) (poly a.s0.now) (poly a.e0.now)) (key q n (plain k) (poly (a_of k a.public.now)) s1 e1) a.out.now _ _ _ _ (length_asked _ _ 4 c.sized.ensures c.if-not-sized.false) x.written y.written (z.written ∙ ap (put _ _) b0) (w.written ∙ ap (put _ _) b1))
    (zeros_again l (zeros_again l (zeros_again l x.cleared y.cleared) z.cleared) w.cleared)
