-- `masks::test_masks` meets its contract. Assumes nothing.
use mathlib.Core.Path.{◌≡◌, sym, ap, ◌∙◌}
use Prim.Native.Nat.{ℕ, ◌+◌, ◌-◌, ◌*◌, ◌≤◌}
use native.Mathlib.Omega.{arith}
use Rattle.codec.specs.Reply.{first}
use Rattle.stern.proofs.Answered.{lent_length}
use Rattle.round.specs.Producer.{mask_tests}
use Rattle.round.proofs.Walk.{walked_ends, walked_refused, walked_taken}
use Rattle.round_material.proofs.Walking.{walked_none, walked_next}
use Rattle.round_material.proofs.masks.test_masks.Invariants.{bounded}
use Rattle.round_material.proofs.masks.test_masks.Goals as goal

pub loop-j-init : goal.loop-j-init
loop-j-init c = walked_none

pub overflow_mul-at : goal.overflow_mul-at
overflow_mul-at c = let h : 8 * c.args.k.ring * c.loop-j.j + 8 * c.args.k.ring ≤ 8 * c.args.k.ring * c.args.count = walked_ends c.loop-j.invariant (omega arith) in omega (arith, c.requires.2)

pub overflow_add-end : goal.overflow_add-end
overflow_add-end c = let h : 8 * c.args.k.ring * c.loop-j.j + 8 * c.args.k.ring ≤ 8 * c.args.k.ring * c.args.count = walked_ends c.loop-j.invariant (omega arith) in omega (arith, c.requires.2)

pub slice_bounds-both_bounded-end : goal.slice_bounds-both_bounded-end
slice_bounds-both_bounded-end c = let h : 8 * c.args.k.ring * c.loop-j.j + 8 * c.args.k.ring ≤ 8 * c.args.k.ring * c.args.count = walked_ends c.loop-j.invariant (omega arith) in omega (arith, c.requires.2)

pub slice_bounds-both_bounded-end-in-loop-j : goal.slice_bounds-both_bounded-end-in-loop-j
slice_bounds-both_bounded-end-in-loop-j c = let h : 8 * c.args.k.ring * c.loop-j.j + 8 * c.args.k.ring ≤ 8 * c.args.k.ring * c.args.count = walked_ends c.loop-j.invariant (omega arith) in omega (arith, c.requires.3)

pub both_bounded-requires : goal.both_bounded-requires
both_bounded-requires c =
    let a = c.args in
    let n = a.k.ring in
    let j = c.loop-j.j in
    let h : 8 * n * j + 8 * n ≤ 8 * n * a.count = walked_ends c.loop-j.invariant (omega arith) in (
      omega (arith, lent_length a.masks0.now (8 * n * j) (8 * n * j + 8 * n - 8 * n * j) (8 * n) (omega arith) (omega (arith, c.requires.2))),
      omega (arith, lent_length a.masks1.now (8 * n * j) (8 * n * j + 8 * n - 8 * n * j) (8 * n) (omega arith) (omega (arith, c.requires.3))),
    )

pub returns-then-not-both_bounded : goal.returns-then-not-both_bounded
returns-then-not-both_bounded c =
    let a = c.args in
    let n = a.k.ring in
    let j = c.loop-j.j in
    let m = c.mask_bound-bound in
    let e : 8 * n * j + 8 * n - 8 * n * j ≡ 8 * n = omega arith in
    walked_refused c.loop-j.invariant 12 (omega arith) (sym (c.both_bounded.ensures ∙ ap (bounded m.result n a.masks0.now a.masks1.now (8 * n * j)) e) ∙ c.if-not-both_bounded.true)
    ∙ ap (λ (B : ℕ). first (mask_tests n B a.count a.masks0.now a.masks1.now)) m.ensures

pub loop-j-preserved : goal.loop-j-preserved
loop-j-preserved c =
    let a = c.args in
    let n = a.k.ring in
    let j = c.loop-j.j in
    let e : 8 * n * j + 8 * n - 8 * n * j ≡ 8 * n = omega arith in
    walked_next c.loop-j.invariant (omega arith) (sym (c.both_bounded.ensures ∙ ap (bounded c.mask_bound-bound.result n a.masks0.now a.masks1.now (8 * n * j)) e) ∙ c.if-not-both_bounded.false)

pub returns : goal.returns
returns c =
    let a = c.args in
    walked_taken c.loop-j.invariant 12 (omega arith) ∙ ap (λ (B : ℕ). first (mask_tests a.k.ring B a.count a.masks0.now a.masks1.now)) c.mask_bound-bound.ensures
