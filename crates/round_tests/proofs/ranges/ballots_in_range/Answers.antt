-- `ranges::ballots_in_range` meets its contract. Assumes nothing.
use mathlib.Core.Path.{◌≡◌, refl, sym, ap, ◌∙◌}
use mathlib.Core.Bool.{Bool}
use Prim.Native.Nat.{ℕ, ◌+◌, ◌-◌, ◌*◌, ◌/◌, ◌≤◌, ◌<◌}
use native.Mathlib.Nat.{mul-le-mul}
use native.Mathlib.Omega.{arith}
use borrow.Author.Count.{below_more}
use lib.ListN.{length, take, drop}
use Rattle.codec.specs.Bytes.{Bytes}
use Rattle.codec.specs.Lists.{list, all_below}
use Rattle.codec.proofs.Lists.{list_cong, all_complete}
use Rattle.ring.specs.Slots.{poly, slot}
use Rattle.ring.proofs.Bridge.{poly_part}
use Rattle.scratch.proofs.Ranges.{whole_range}
use Rattle.stern.proofs.Answered.{lent_length}
use Rattle.round.proofs.Many.{stretch}
use Rattle.round.proofs.Walk.{walked_fails}
use Rattle.round_tests.proofs.ranges.ballots_in_range.Goals as goal

-- u and v of a ballot, lent with a length that is a difference of places
ranged : (q n : ℕ) (ballots : Bytes) (at m : ℕ) {b : Bool} → m ≡ 16 * n → at + 16 * n ≤ length ballots
    → b ≡ all_below q (list (length (take m (drop at ballots)) / 8) (poly (take m (drop at ballots)))) → b ≡ all_below q (list (2 * n) (slot ballots at))
ranged q n ballots at m e h r =
    let f : m ≡ 8 * (2 * n) = omega arith in
    whole_range q (2 * n) (take m (drop at ballots)) (lent_length ballots at m (8 * (2 * n)) f (omega arith)) r
    ∙ ap (λ (k : ℕ). all_below q (list (2 * n) (poly (take k (drop at ballots))))) f ∙ ap (all_below q) (list_cong (2 * n) (λ k l. poly_part ballots at (2 * n) k l))

-- ballot j ends within all, far below 2^64
ends : (n count j : ℕ) → n ≤ 2048 → count ≤ 4096 → j < count → ((4 + 16 * n) * j + (4 + 16 * n) ≤ (4 + 16 * n) * count) × ((4 + 16 * n) * count ≤ 134234112)
ends n count j high few h = (stretch (4 + 16 * n) j count h, mul-le-mul {n₁ = 4 + 16 * n} {m₁ = count} {n₂ = 32772} {m₂ = 4096} (omega arith) few)

pub slice_bounds-in_range-end : goal.slice_bounds-in_range-end
slice_bounds-in_range-end c = let p = c.requires in let e = ends c.args.n c.args.count c.loop-j.j p.0 p.1 (omega arith) in omega arith

pub returns-then-not-in_range : goal.returns-then-not-in_range
returns-then-not-in_range c =
    let a = c.args in
    let p = c.requires in
    let j = c.loop-j.j in
    let at = (4 + 16 * a.n) * j in
    let e = ends a.n a.count j p.0 p.1 (omega arith) in
    let r = ranged a.q a.n a.ballots.now (at + 4) (at + (4 + 16 * a.n) - (at + 4)) (omega arith) (omega arith) c.in_range.ensures in
    walked_fails {step = 4 + 16 * a.n} (record { within = omega arith; place = refl; held = c.loop-j.invariant }) (omega arith) (sym r ∙ c.if-not-in_range.true)

pub loop-j-preserved : goal.loop-j-preserved
loop-j-preserved c =
    let a = c.args in
    let p = c.requires in
    let j = c.loop-j.j in
    let at = (4 + 16 * a.n) * j in
    let e = ends a.n a.count j p.0 p.1 (omega arith) in
    let r = ranged a.q a.n a.ballots.now (at + 4) (at + (4 + 16 * a.n) - (at + 4)) (omega arith) (omega arith) c.in_range.ensures in
    below_more _ _ c.loop-j.invariant (sym r ∙ c.if-not-in_range.false)

pub returns : goal.returns
returns c = sym (all_complete c.args.count _ (λ i l. c.loop-j.invariant i (omega arith)))
