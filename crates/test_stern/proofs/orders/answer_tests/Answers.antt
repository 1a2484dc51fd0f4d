-- `orders::answer_tests` meets its contract. Assumes nothing.
use mathlib.Core.Path.{◌≡◌, refl, sym, ap, ◌∙◌}
use mathlib.Core.Bool.{true}
use mathlib.Core.List.{List}
use Prim.Native.Nat.{ℕ}
use Rattle.codec.specs.Bytes.{same}
use Rattle.scratch.proofs.Order.{length_at}
use Rattle.test_stern.specs.Calls.{lengths, wanted, answer_reply}
use Rattle.test_stern.proofs.Passed.{ring}
use Rattle.test_stern.proofs.Order.{stops, goes}
use Rattle.test_stern.proofs.orders.answer_tests.Goals as goal

pub returns-then-not-ring_fits : goal.returns-then-not-ring_fits
unfolding answer_reply
returns-then-not-ring_fits c = record { replied = stops 5 _ _ c.ring_fits.ensures refl c.if-not-ring_fits.true; used = refl; kept = refl }

pub answer_length-room-requires : goal.answer_length-room-requires
answer_length-room-requires c =
    let a = c.args in
    (ring a.n a.q (sym c.ring_fits.ensures ∙ c.if-not-ring_fits.false)).ring_high

pub material_sized-requires : goal.material_sized-requires
material_sized-requires c =
    let a = c.args in
    (ring a.n a.q (sym c.ring_fits.ensures ∙ c.if-not-ring_fits.false)).ring_high

pub returns-then-not-material_sized : goal.returns-then-not-material_sized
unfolding answer_reply
returns-then-not-material_sized c =
    let a = c.args in
    let at : List ℕ = lengths a.x.now a.r.now a.p.now a.salts.now a.out.now a.scratch.now in
    record { replied = goes 5 _ _ c.ring_fits.ensures c.if-not-ring_fits.false (stops 1 _ _ (c.material_sized.ensures ∙ ap (λ (m : ℕ). same at (wanted a.n m)) c.answer_length-room.ensures) refl c.if-not-material_sized.true); used = refl; kept = refl }

pub material_ranged-requires : goal.material_ranged-requires
material_ranged-requires c =
    let a = c.args in
    let at : List ℕ = lengths a.x.now a.r.now a.p.now a.salts.now a.out.now a.scratch.now in
    let to : List ℕ = wanted a.n c.answer_length-room.result in
    let l : same at to ≡ true = sym c.material_sized.ensures ∙ c.if-not-material_sized.false in
    ((ring a.n a.q (sym c.ring_fits.ensures ∙ c.if-not-ring_fits.false)).ring_high, length_at at to 2 l, length_at at to 5 l)

pub returns : goal.returns
unfolding answer_reply
returns c =
    let a = c.args in
    let at : List ℕ = lengths a.x.now a.r.now a.p.now a.salts.now a.out.now a.scratch.now in
    record { replied = goes 5 _ _ c.ring_fits.ensures c.if-not-ring_fits.false (goes 1 _ _ (c.material_sized.ensures ∙ ap (λ (m : ℕ). same at (wanted a.n m)) c.answer_length-room.ensures) c.if-not-material_sized.false c.material_ranged.ensures.replied); used = c.material_ranged.ensures.used; kept = c.material_ranged.ensures.kept }
