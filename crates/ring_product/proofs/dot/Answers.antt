-- `dot` meets its contract. Assumes nothing.
use mathlib.Core.Path.{◌≡◌, ap, subst, ◌∙◌}
use Prim.Native.Nat.{ℕ, ◌+◌, ◌*◌, ◌/◌, ◌%◌, ◌^◌, ◌≤◌, ◌<◌}
use native.Mathlib.Omega.{arith}
use lib.ListN.{get_or}
use Rattle.ring.proofs.Bridge.{slot_later}
use Rattle.ring_product.proofs.Columns.{digits_none, digits_value, first_room_lem, second_room_lem, third_room, last_room, last_fits, carried}
use Rattle.ring.proofs.Polynomials.{ext}
use Rattle.codec.specs.Bytes.{Bytes}
use Rattle.ring_product.specs.Internal.{Columns, Digits}
use Rattle.ring.specs.Poly.{Poly, Below}
use Rattle.ring.specs.Slots.{slot}
use Rattle.ring_product.proofs.dot.Goals.{After-block-b, else-loop-done-test, then-loop-done-test+else-n-done-gt128}
use Rattle.ring_product.proofs.dot.Goals as goal

-- the columns of a block from d on, in terms of the whole runs
later : (w : Bytes) (x y d m lo mid hi : ℕ) → Columns (slot w (x + 8 * d)) (slot w (y + 8 * d)) m lo mid hi → Columns (λ i. slot w x (d + i)) (λ i. slot w y (d + i)) m lo mid hi
later w x y d m lo mid hi h =
    subst (λ (f : Poly). Columns f (λ i. slot w y (d + i)) m lo mid hi) (ext (slot_later w x d))
    (subst (λ (f : Poly). Columns (slot w (x + 8 * d)) f m lo mid hi) (ext (slot_later w y d)) h)

columns : (c : After-block-b)
    → Columns (λ i. slot c.args.w.now c.args.x (c.loop-done.done + i)) (λ i. slot c.args.w.now c.args.y (c.loop-done.done + i)) c.min-m.result c.block-b.result.lo c.block-b.result.mid c.block-b.result.hi
columns c = later _ _ _ _ _ _ _ _ c.block-b.ensures

-- the digits and their carries fit
record Fit (d0 d1 d2 d3 lo mid hi : ℕ) : Type 0 where
  one : d0 + lo < 2 ^ 64
  two : d1 + mid + (d0 + lo) / 268435456 < 2 ^ 64
  three : d2 + hi + (d1 + mid + (d0 + lo) / 268435456) / 268435456 < 2 ^ 64
  four : d3 + (d2 + hi + (d1 + mid + (d0 + lo) / 268435456) / 268435456) / 268435456 < 2 ^ 64

fit : (c : After-block-b)
    → let d = c.loop-done.d in Fit (get_or d 0 0) (get_or d 1 0) (get_or d 2 0) (get_or d 3 0) c.block-b.result.lo c.block-b.result.mid c.block-b.result.hi
fit c =
    let l = c.loop-done in
    let p : 0 < c.min-m.result = omega arith in
    let k : c.min-m.result ≤ 128 = omega arith in
    record {
      one = (first_room_lem _ _ _ _ _ _ _ _ _ _ _ l.invariant.1 (columns c) p k).0;
      two = (second_room_lem _ _ _ _ _ _ _ _ _ _ _ l.invariant.1 (columns c) p k).0;
      three = (third_room _ _ _ _ _ _ _ _ _ _ _ l.invariant.1 (columns c) p k).0;
      four = last_fits _ _ (last_room _ _ _ _ _ _ _ _ _ _ _ l.invariant.1 (columns c) p k) (omega arith);
    }

pub loop-done-init : goal.loop-done-init
loop-done-init c = (omega arith, digits_none _ _ 0 0 0 0 0)

pub block-b-requires : goal.block-b-requires
block-b-requires c =
    let a = c.args in
    let p = c.requires.below in
    let d = c.loop-done.done in
    let run : (z : ℕ) → Below (2 ^ 56) a.n (slot a.w.now z) → Below (2 ^ 56) c.min-m.result (slot a.w.now (z + 8 * d)) = λ z h. record { at = λ k l. rw (slot_later a.w.now z d k) (h.at (d + k) (omega arith)) } in
    record { n_bound = omega arith; below = (run a.x p.0, run a.y p.1) }

pub overflow_add-lo : goal.overflow_add-lo
overflow_add-lo c = record { fits = (fit (goal.at.overflow_add-lo c).After-block-b).one }

pub overflow_add-mid : goal.overflow_add-mid
overflow_add-mid c = let f = (fit (goal.at.overflow_add-mid c).After-block-b).two in omega arith

pub overflow_add-mid-in-loop-done : goal.overflow_add-mid-in-loop-done
overflow_add-mid-in-loop-done c = record { fits = (fit (goal.at.overflow_add-mid-in-loop-done c).After-block-b).two }

pub overflow_add-hi : goal.overflow_add-hi
overflow_add-hi c = let f = (fit (goal.at.overflow_add-hi c).After-block-b).three in omega arith

pub overflow_add-hi-in-loop-done : goal.overflow_add-hi-in-loop-done
overflow_add-hi-in-loop-done c = record { fits = (fit (goal.at.overflow_add-hi-in-loop-done c).After-block-b).three }

pub overflow_add-d : goal.overflow_add-d
overflow_add-d c = record { fits = (fit (goal.at.overflow_add-d c).After-block-b).four }

pub loop-done-preserved : goal.loop-done-preserved
loop-done-preserved c =
    let e : c.min-m.result ≡ 128 = omega arith in
    (omega arith, rw e at (carried _ _ _ _ _ _ _ _ _ _ _ c.loop-done.invariant.1 (columns (goal.at.loop-done-preserved c).After-block-b) (omega arith) (omega arith)))

pub returns : goal.returns
returns c =
    let a = c.args in
    let l = c.loop-done in
    let t = c.loop-done-test in
    let all : Digits (slot a.w.now a.x) (slot a.w.now a.y) a.n (get_or t.d 0 0) (get_or t.d 1 0) (get_or t.d 2 0) (get_or t.d 3 0) = elim t.branch [
      | else-loop-done-test w ↦ let e : a.n ≡ l.done = omega (arith, l.invariant.0) in rw (e, w.d-is) l.invariant.1
      | then-loop-done-test+else-n-done-gt128 w ↦
          let e : a.n ≡ l.done + w.min-m.result = omega (arith, l.invariant.0) in
          rw (e, w.d-is) (carried _ _ _ _ _ _ _ _ _ _ _ l.invariant.1 (later _ _ _ _ _ _ _ _ w.block-b.ensures) (omega arith) (omega arith))
    ] in
    c.from_digits.ensures ∙ ap (λ (x : ℕ). x % a.q) (digits_value _ _ a.n _ _ _ _ all)
