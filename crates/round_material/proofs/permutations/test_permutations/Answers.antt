-- `permutations::test_permutations` meets its contract. Assumes nothing.
use mathlib.Core.Path.{◌≡◌, refl, sym, ap, ◌∙◌}
use Prim.Native.Nat.{ℕ, ◌+◌, ◌-◌, ◌*◌, ◌≤◌}
use native.Mathlib.Omega.{arith}
use lib.ListN.{length, length-replicate}
use Rattle.codec.specs.Bytes.{Bytes, part, put, zeros}
use Rattle.codec.proofs.Laws.{length_put}
use Rattle.vector.specs.Permutation.{entries, permutes}
use Rattle.stern.proofs.Answered.{lent_length}
use Rattle.round.proofs.Walk.{walked_ends, walked_refused, walked_taken}
use Rattle.round_material.proofs.Walking.{walked_none, walked_next}
use Rattle.round_material.proofs.permutations.test_permutations.Goals as goal

-- the marks are made in scratch, and its length is kept
kept : (n : ℕ) (w w' : Bytes) → 42 * n ≤ length w → w' ≡ put w 0 (zeros (42 * n)) → length w' ≡ length w
kept n w w' h e = ap length e ∙ length_put w 0 (zeros (42 * n)) (let l : length (zeros (42 * n)) ≡ 42 * n = length-replicate (42 * n) 0 in omega arith)

pub loop-i-init : goal.loop-i-init
loop-i-init c = (refl, walked_none)

pub overflow_mul-at : goal.overflow_mul-at
overflow_mul-at c = let n = c.args.k.ring in let h : 168 * n * c.loop-i.i + 168 * n ≤ 168 * n * c.args.k.repeats = walked_ends c.loop-i.invariant.1 (omega arith) in omega (arith, c.requires.2)

pub overflow_add-end : goal.overflow_add-end
overflow_add-end c = let n = c.args.k.ring in let h : 168 * n * c.loop-i.i + 168 * n ≤ 168 * n * c.args.k.repeats = walked_ends c.loop-i.invariant.1 (omega arith) in omega (arith, c.requires.2)

pub slice_bounds-is_permutation-end : goal.slice_bounds-is_permutation-end
slice_bounds-is_permutation-end c = let n = c.args.k.ring in let h : 168 * n * c.loop-i.i + 168 * n ≤ 168 * n * c.args.k.repeats = walked_ends c.loop-i.invariant.1 (omega arith) in omega (arith, c.requires.2)

pub is_permutation-requires : goal.is_permutation-requires
is_permutation-requires c =
    let a = c.args in
    let n = a.k.ring in
    let l = c.loop-i in
    let h : 168 * n * l.i + 168 * n ≤ 168 * n * a.k.repeats = walked_ends l.invariant.1 (omega arith) in (
      omega (arith, lent_length a.permutations.now (168 * n * l.i) (168 * n * l.i + 168 * n - 168 * n * l.i) (168 * n) (omega arith) (omega (arith, c.requires.2))),
      omega (arith, l.invariant.0, c.requires.1, c.requires.0.in_range.ring_high),
    )

pub returns-then-not-is_permutation : goal.returns-then-not-is_permutation
returns-then-not-is_permutation c =
    let n = c.args.k.ring in
    let l = c.loop-i in
    let b = c.is_permutation in
    let e : 168 * n * l.i + 168 * n - 168 * n * l.i ≡ 168 * n = omega arith in (
      walked_refused l.invariant.1 9 (omega arith) (sym (b.ensures.0 ∙ ap (λ (y : ℕ). permutes (42 * n) (entries (part c.args.permutations.now (168 * n * l.i) y))) e) ∙ c.if-not-is_permutation.true),
      kept n l.work _ (omega (arith, l.invariant.0, c.requires.1, c.requires.0.in_range.ring_high)) b.ensures.1 ∙ l.invariant.0,
    )

pub loop-i-preserved : goal.loop-i-preserved
loop-i-preserved c =
    let n = c.args.k.ring in
    let l = c.loop-i in
    let b = c.is_permutation in
    let e : 168 * n * l.i + 168 * n - 168 * n * l.i ≡ 168 * n = omega arith in (
      kept n l.work _ (omega (arith, l.invariant.0, c.requires.1, c.requires.0.in_range.ring_high)) b.ensures.1 ∙ l.invariant.0,
      walked_next l.invariant.1 (omega arith) (sym (b.ensures.0 ∙ ap (λ (y : ℕ). permutes (42 * n) (entries (part c.args.permutations.now (168 * n * l.i) y))) e) ∙ c.if-not-is_permutation.false),
    )

pub returns : goal.returns
returns c = (walked_taken c.loop-i.invariant.1 9 (omega arith), c.loop-i.invariant.0)
