-- `orders::digests_tests` meets its contract. Assumes nothing.
use mathlib.Core.Path.{◌≡◌, refl, sym, ◌∙◌}
use mathlib.Core.Bool.{true}
use mathlib.Core.List.{List}
use Prim.Native.Nat.{ℕ, ◌*◌}
use borrow.Author.Rules.{rules}
use borrow.Author.Tests.{eq-eqb, ne_eqb}
use lib.ListN.{length}
use Rattle.codec.specs.Bytes.{same}
use Rattle.scratch.proofs.Order.{length_at}
use Rattle.vector.specs.Vector.{vector}
use Rattle.test_stern.specs.Calls.{lengths, wanted, digests_reply}
use Rattle.test_stern.proofs.Passed.{Ring, ring}
use Rattle.test_stern.proofs.Order.{stops, goes}
use Rattle.test_stern.proofs.orders.digests_tests.Goals as goal

pub returns-then-not-ring_fits : goal.returns-then-not-ring_fits
unfolding digests_reply
returns-then-not-ring_fits c = record { replied = stops 5 _ _ c.ring_fits.ensures refl c.if-not-ring_fits.true; used = refl; kept = refl }

pub overflow_mul-n : goal.overflow_mul-n
overflow_mul-n c =
    let a = c.args in
    let f : Ring a.n a.q = ring a.n a.q (sym c.ring_fits.ensures ∙ c.if-not-ring_fits.false) in
    search rules

pub returns-then-keys-n : goal.returns-then-keys-n
unfolding digests_reply
returns-then-keys-n c =
    let a = c.args in
    record { replied = goes 5 _ _ c.ring_fits.ensures c.if-not-ring_fits.false (stops 1 _ _ refl refl (ne_eqb (length a.keys.now) (24 * a.n) c.if-keys-n.true)); used = refl; kept = refl }

pub material_sized-requires : goal.material_sized-requires
material_sized-requires c =
    let a = c.args in
    (ring a.n a.q (sym c.ring_fits.ensures ∙ c.if-not-ring_fits.false)).ring_high

pub returns-then-not-material_sized : goal.returns-then-not-material_sized
unfolding digests_reply
returns-then-not-material_sized c =
    let a = c.args in
    record { replied = goes 5 _ _ c.ring_fits.ensures c.if-not-ring_fits.false (goes 1 _ _ refl (eq-eqb (length a.keys.now) (24 * a.n) c.if-keys-n.false) (stops 1 _ _ c.material_sized.ensures refl c.if-not-material_sized.true)); used = refl; kept = refl }

pub returns-then-not-in_range : goal.returns-then-not-in_range
unfolding digests_reply vector
returns-then-not-in_range c =
    let a = c.args in
    record { replied = goes 5 _ _ c.ring_fits.ensures c.if-not-ring_fits.false (goes 1 _ _ refl (eq-eqb (length a.keys.now) (24 * a.n) c.if-keys-n.false) (goes 1 _ _ c.material_sized.ensures c.if-not-material_sized.false (stops 5 _ _ c.in_range.ensures refl c.if-not-in_range.true))); used = refl; kept = refl }

pub material_ranged-requires : goal.material_ranged-requires
material_ranged-requires c =
    let a = c.args in
    let at : List ℕ = lengths a.x.now a.r.now a.p.now a.salts.now a.out.now a.scratch.now in
    let to : List ℕ = wanted a.n 96 in
    let l : same at to ≡ true = sym c.material_sized.ensures ∙ c.if-not-material_sized.false in
    ((ring a.n a.q (sym c.ring_fits.ensures ∙ c.if-not-ring_fits.false)).ring_high, length_at at to 2 l, length_at at to 5 l)

pub returns : goal.returns
unfolding digests_reply vector
returns c =
    let a = c.args in
    record { replied = goes 5 _ _ c.ring_fits.ensures c.if-not-ring_fits.false (goes 1 _ _ refl (eq-eqb (length a.keys.now) (24 * a.n) c.if-keys-n.false) (goes 1 _ _ c.material_sized.ensures c.if-not-material_sized.false (goes 5 _ _ c.in_range.ensures c.if-not-in_range.false c.material_ranged.ensures.replied))); used = c.material_ranged.ensures.used; kept = c.material_ranged.ensures.kept }
