-- `encrypt` meets its contract. Assumes nothing.
use mathlib.Core.Path.{refl, sym, ap, subst, ◌∙◌}
use mathlib.Core.Bool.{◌&&◌}
use mathlib.Core.List.{[], ◌∷◌}
use Prim.Native.Nat.{ℕ}
use native.Mathlib.Omega.{arith}
use borrow.Author.Rules.{rules}
use lib.ListN.{length}
use Rattle.codec.specs.Bytes.{Bytes, put, same}
use Rattle.ring.specs.Slots.{coefficient_bytes, poly}
use Rattle.ring.specs.Ternary.{ternary}
use Rattle.sheet_numbers.specs.Plain.{plain}
use Rattle.scratch.specs.Call.{bytes_below, coefficients}
use Rattle.scratch.specs.Internal.{Polynomial}
use Rattle.scratch.proofs.Order.{length_asked, stops, follows}
use Rattle.scratch.proofs.Slots.{holds_below, stands_holds}
use Rattle.scratch.proofs.Zeroizing.{worked_taken, worked_refused}
use Rattle.bgv.specs.Scheme.{cipher_u, cipher_v}
use Rattle.commitment.specs.Loaded.{a_of, b_of}
use Rattle.commitment.proofs.Cut.{a_cut, b_cut, with_a, with_b}
use Rattle.scheme.specs.Calls.{encrypt_writes}
use Rattle.scheme.proofs.Passed.{done}
use Rattle.scheme.proofs.Places.{handed, two_written, zeros_again}
use Rattle.scheme_encryption.proofs.Passed.{added, encrypt_passed}
use Rattle.scheme_encryption.proofs.encrypt.Goals as goal

pub returns-then-not-sized : goal.returns-then-not-sized
unfolding same
returns-then-not-sized c = worked_refused (stops 1 c.sized.ensures _ c.if-not-sized.true refl) refl

pub returns-then-not-encrypt_ranged : goal.returns-then-not-encrypt_ranged
unfolding same
returns-then-not-encrypt_ranged c =
    let a = c.args in
    let ranged = c.encrypt_ranged.ensures ∙ ap (λ (p : ℕ). bytes_below 3 (a.r.now ∷ a.e1.now ∷ a.e2.now ∷ []) && bytes_below p (a.m.now ∷ [])) c.plain-p.ensures in
    worked_refused (follows 1 c.sized.ensures _ c.if-not-sized.false (stops 5 ranged _ c.if-not-encrypt_ranged.true refl)) refl

pub slice_bounds-noisy-end : goal.slice_bounds-noisy-end
slice_bounds-noisy-end c = let h = c.requires.sized in search rules

pub noisy-requires : goal.noisy-requires
noisy-requires c =
    let a = c.args in
    let p = c.requires in
    (subst (Polynomial a.k.ring a.k.modulus) (sym (a_cut a.k a.public.now)) p.a, length_asked _ _ 5 c.sized.ensures c.if-not-sized.false, length_asked _ _ 0 c.sized.ensures c.if-not-sized.false, length_asked _ _ 1 c.sized.ensures c.if-not-sized.false, omega (arith, c.plain-p.ensures, p.numbers.plain_below))

pub hand_out-requires : goal.hand_out-requires
hand_out-requires c =
    (omega (arith, length_asked _ _ 4 c.sized.ensures c.if-not-sized.false), omega (arith, length_asked _ _ 5 c.sized.ensures c.if-not-sized.false, c.requires.a.ring_high, c.noisy.auto.work))

pub overflow_mul-n-3 : goal.overflow_mul-n-3
overflow_mul-n-3 c = let h = c.requires.a.ring_high in search rules

pub slice_bounds-noisy-end-2 : goal.slice_bounds-noisy-end-2
slice_bounds-noisy-end-2 c = let h = c.requires.sized in search rules

pub noisy-requires-2 : goal.noisy-requires-2
noisy-requires-2 c =
    let a = c.args in
    let p = c.requires in
    (subst (Polynomial a.k.ring a.k.modulus) (sym (b_cut a.k a.public.now)) p.b, omega (arith, length_asked _ _ 5 c.sized.ensures c.if-not-sized.false, c.noisy.auto.work, c.hand_out.auto.scratch), length_asked _ _ 0 c.sized.ensures c.if-not-sized.false, length_asked _ _ 2 c.sized.ensures c.if-not-sized.false, omega (arith, c.plain-p.ensures, p.numbers.plain_below))

pub add_message-requires : goal.add_message-requires
add_message-requires c =
    let a = c.args in
    let u = c.requires.numbers in
    let ranged = c.encrypt_ranged.ensures ∙ ap (λ (p : ℕ). bytes_below 3 (a.r.now ∷ a.e1.now ∷ a.e2.now ∷ []) && bytes_below p (a.m.now ∷ [])) c.plain-p.ensures in
    let h = encrypt_passed a.k a.r.now a.e1.now a.e2.now a.m.now a.ciphertext.now a.scratch.now u.plain_below (follows 1 c.sized.ensures _ c.if-not-sized.false (follows 5 ranged _ c.if-not-encrypt_ranged.false done)) in
    let some = u.in_range.modulus_low in
    (u.in_range.ring_high, u.in_range.modulus_low, u.in_range.modulus_high, omega (arith, h.6, c.noisy.auto.work, c.hand_out.auto.scratch, c.noisy-2.auto.work), h.3, h.4, holds_below (omega arith) (stands_holds (omega arith) u.in_range.modulus_high c.noisy-2.ensures))

pub overflow_mul-n : goal.overflow_mul-n
overflow_mul-n c = let h = c.requires.a.ring_high in search rules

pub overflow_mul-n-5 : goal.overflow_mul-n-5
overflow_mul-n-5 c = let h = c.requires.a.ring_high in search rules

pub hand_out-requires-2 : goal.hand_out-requires-2
hand_out-requires-2 c =
    (omega (arith, length_asked _ _ 4 c.sized.ensures c.if-not-sized.false, c.hand_out.auto.out), omega (arith, length_asked _ _ 5 c.sized.ensures c.if-not-sized.false, c.requires.a.ring_high, c.noisy.auto.work, c.hand_out.auto.scratch, c.noisy-2.auto.work, c.add_message.auto.work))

pub returns : goal.returns
unfolding encrypt_writes cipher_v
returns c =
    let a = c.args in
    let k = a.k in
    let q = k.modulus in
    let n = k.ring in
    let few = c.requires.numbers.in_range.modulus_high in
    let some = c.requires.numbers.in_range.modulus_low in
    let l = length a.scratch.now in
    let ranged = c.encrypt_ranged.ensures ∙ ap (λ (p : ℕ). bytes_below 3 (a.r.now ∷ a.e1.now ∷ a.e2.now ∷ []) && bytes_below p (a.m.now ∷ [])) c.plain-p.ensures in
    let x = handed c.noisy.ensures c.hand_out.ensures in
    let y = handed (added (coefficients a.m.now) (omega arith) few c.noisy-2.ensures c.add_message.ensures) c.hand_out-2.ensures in
    let e = c.plain-p.ensures in
    let u = with_a k a.public.now (λ (i : ℕ) (f : Bytes). coefficient_bytes q n (cipher_u q n i (poly f) (ternary q a.r.now) (ternary q a.e1.now))) e in
    let v = with_b k a.public.now (λ (i : ℕ) (f : Bytes). coefficient_bytes q n (cipher_v q n i (poly f) (ternary q a.r.now) (ternary q a.e2.now) (coefficients a.m.now))) e in
    worked_taken (follows 1 c.sized.ensures _ c.if-not-sized.false (follows 5 ranged _ c.if-not-encrypt_ranged.false done)) refl
    (two_written q n (cipher_u q n (plain k) (poly (a_of k a.public.now)) (ternary q a.r.now) (ternary q a.e1.now)) (cipher_v q n (plain k) (poly (b_of k a.public.now)) (ternary q a.r.now) (ternary q a.e2.now) (coefficients a.m.now)) a.ciphertext.now _ _ (length_asked _ _ 4 c.sized.ensures c.if-not-sized.false) (x.written ∙ ap (put _ _) u) (y.written ∙ ap (put _ _) v))
    (zeros_again l x.cleared y.cleared)
