-- `opened::opened_share` meets its contract. Assumes nothing.
use mathlib.Core.Path.{◌≡◌, sym, ap, ◌∙◌}
use Prim.Native.Nat.{ℕ, ◌+◌, ◌-◌, ◌*◌}
use native.Mathlib.Omega.{arith}
use lib.ListN.{length}
use Rattle.codec.specs.Bytes.{part}
use Rattle.round.specs.Round.{of_side}
use Rattle.round_tests.proofs.OpenedPlaces.{place_opened, share_empty, share_at_lem}
use Rattle.round_tests.proofs.opened.opened_share.Goals as goal

pub returns-then-place-eq0 : goal.returns-then-place-eq0
returns-then-place-eq0 c =
    let a = c.args in
    sym (share_empty a.side a.n a.shares0.now a.shares1.now a.j (sym c.opened_place-place.ensures ∙ c.if-place-eq0.true))

pub overflow_mul-end : goal.overflow_mul-end
overflow_mul-end c =
    let a = c.args in
    let o = place_opened a.side a.n (length a.shares0.now) (length a.shares1.now) a.j c.opened_place-place.result c.opened_place-place.ensures c.if-place-eq0.false in
    omega (arith, o.high)

pub overflow_add-end : goal.overflow_add-end
overflow_add-end c =
    let a = c.args in
    let o = place_opened a.side a.n (length a.shares0.now) (length a.shares1.now) a.j c.opened_place-place.result c.opened_place-place.ensures c.if-place-eq0.false in
    omega (arith, o.begins, o.ends)

pub slice_bounds-result-end-2 : goal.slice_bounds-result-end-2
slice_bounds-result-end-2 c =
    let a = c.args in
    let o = place_opened a.side a.n (length a.shares0.now) (length a.shares1.now) a.j c.opened_place-place.result c.opened_place-place.ensures c.if-place-eq0.false in
    omega (arith, o.begins, o.ends, o.equal)

pub returns : goal.returns
returns c =
    let a = c.args in
    let r = c.opened_place-place.result in
    let o = place_opened a.side a.n (length a.shares0.now) (length a.shares1.now) a.j r c.opened_place-place.ensures c.if-place-eq0.false in
    let e : r ≡ r - 1 + 1 = omega arith in
    let s : a.side ≡ 1 = omega (arith, o.one) in
    let l : r - 1 + 8 * a.n - (r - 1) ≡ 8 * a.n = omega arith in
    sym (share_at_lem a.side a.n a.shares0.now a.shares1.now a.j (r - 1) (r - 1 + 8 * a.n - (r - 1)) (sym c.opened_place-place.ensures ∙ e) l
    ∙ ap (λ (i : ℕ). part (of_side i a.shares0.now a.shares1.now) (r - 1) (r - 1 + 8 * a.n - (r - 1))) s)
