-- `commitment` meets its contract. Assumes nothing.
use mathlib.Core.Path.{◌≡◌, refl, sym, ap, subst, ◌∙◌}
use native.Mathlib.Omega.{arith}
use borrow.Author.Rules.{rules}
use Rattle.codec.specs.Bytes.{Bytes, same, zeros}
use Rattle.codec.specs.Reply.{first, Taken}
use Rattle.ring.specs.Slots.{poly}
use Rattle.scratch.proofs.Order.{length_asked, stops, follows}
use Rattle.scratch.proofs.Zeroizing.{worked_taken, worked_refused}
use Rattle.commitment.specs.Commitment.{keys_of, three_of, committed, pair_bytes}
use Rattle.commitment.specs.Internal.{PublicKeys}
use Rattle.commitment.proofs.Cut.{keys_cut}
use Rattle.scheme.specs.Calls.{commitment_tests, commitment_writes}
use Rattle.scheme.proofs.Places.{pair_written}
use Rattle.scheme.proofs.Passed.{done, commitment_passed}
use Rattle.scheme.proofs.commitment.Goals as goal

pub overflow_mul-n : goal.overflow_mul-n
overflow_mul-n c = let h = c.requires.a.ring_high in search rules

pub overflow_mul-n-2 : goal.overflow_mul-n-2
overflow_mul-n-2 c = let h = c.requires.a.ring_high in search rules

pub overflow_mul-n-3 : goal.overflow_mul-n-3
overflow_mul-n-3 c = let h = c.requires.a.ring_high in search rules

pub returns-then-not-sized : goal.returns-then-not-sized
unfolding same
returns-then-not-sized c = worked_refused (stops 1 c.sized.ensures _ c.if-not-sized.true refl) refl

pub ternary_and_in_range-requires : goal.ternary_and_in_range-requires
ternary_and_in_range-requires c = length_asked _ _ 0 c.sized.ensures c.if-not-sized.false

pub returns-then-not-ternary_and_in_range : goal.returns-then-not-ternary_and_in_range
unfolding same
returns-then-not-ternary_and_in_range c = worked_refused (follows 1 c.sized.ensures _ c.if-not-sized.false (stops 5 c.ternary_and_in_range.ensures _ c.if-not-ternary_and_in_range.true refl)) refl

pub slice_bounds-pair-start : goal.slice_bounds-pair-start
slice_bounds-pair-start c = let h = c.requires.a.ring_high in search rules

pub slice_bounds-pair-end : goal.slice_bounds-pair-end
slice_bounds-pair-end c = let h = c.requires.sized in search rules

pub pair-requires : goal.pair-requires
unfolding same
pair-requires c =
    let a = c.args in
    let p = c.requires in
    let went : Taken ≡ first (commitment_tests a.k a.m.now a.r.now a.pair.now a.scratch.now) = follows 1 c.sized.ensures _ c.if-not-sized.false (follows 5 c.ternary_and_in_range.ensures _ c.if-not-ternary_and_in_range.false done) in
    let h = commitment_passed a.k p.numbers a.m.now a.r.now a.pair.now a.scratch.now went in
    (subst (PublicKeys a.k.ring a.k.modulus) (sym (keys_cut a.k a.public.now)) p.keys, h.0, h.1, h.3)

pub write_out-requires : goal.write_out-requires
write_out-requires c =
    let p = c.requires in
    (omega (arith, length_asked _ _ 2 c.sized.ensures c.if-not-sized.false), omega (arith, length_asked _ _ 3 c.sized.ensures c.if-not-sized.false, p.a.ring_high, c.pair.ensures.sized))

pub overflow_mul-n-6 : goal.overflow_mul-n-6
overflow_mul-n-6 c = let h = c.requires.a.ring_high in search rules

pub write_out-requires-2 : goal.write_out-requires-2
write_out-requires-2 c =
    let p = c.requires in
    (omega (arith, length_asked _ _ 2 c.sized.ensures c.if-not-sized.false, c.write_out.auto.out), omega (arith, length_asked _ _ 3 c.sized.ensures c.if-not-sized.false, p.a.ring_high, c.pair.ensures.sized))

pub returns : goal.returns
unfolding same commitment_writes
returns c =
    let a = c.args in
    let q = a.k.modulus in
    let n = a.k.ring in
    let o = c.pair.ensures in
    let went : Taken ≡ first (commitment_tests a.k a.m.now a.r.now a.pair.now a.scratch.now) = follows 1 c.sized.ensures _ c.if-not-sized.false (follows 5 c.ternary_and_in_range.ensures _ c.if-not-ternary_and_in_range.false done) in
    let h = commitment_passed a.k c.requires.numbers a.m.now a.r.now a.pair.now a.scratch.now went in
    let keys = ap (λ (x : Bytes). pair_bytes q n (committed q n (keys_of n x) (three_of q n a.r.now) (poly a.m.now))) (keys_cut a.k a.public.now) in
    worked_taken went refl (pair_written q n _ _ _ a.pair.now _ _ o h.2 c.write_out.ensures c.write_out-2.ensures ∙ keys) (c.wipe.ensures ∙ ap zeros o.sized)
