-- `orders::tested` meets its contract. Assumes nothing.
use mathlib.Core.Path.{◌≡◌, refl, sym, ap, ◌∙◌}
use mathlib.Core.Bool.{true, ◌&&◌}
use mathlib.Core.List.{List, [], ◌∷◌}
use Prim.Native.Nat.{ℕ, ◌*◌}
use lib.ListN.{length, length-replicate}
use Rattle.codec.specs.Bytes.{same}
use Rattle.codec.proofs.Laws.{both}
use Rattle.codec.specs.Lists.{all_below}
use Rattle.scratch.proofs.Order.{length_at}
use Rattle.commitment.specs.Commitment.{keys_of}
use Rattle.vector.specs.Vector.{vector}
use Rattle.stern.specs.Shortness.{in_range}
use Rattle.test_stern.specs.Calls.{test_reply}
use Rattle.test_stern.proofs.Passed.{ring, public_keys}
use Rattle.test_stern.proofs.Order.{stops, goes, used_answer}
use Rattle.test_stern.proofs.orders.tested.Goals as goal

pub returns-then-not-ring_fits : goal.returns-then-not-ring_fits
unfolding test_reply
returns-then-not-ring_fits c = record { replied = stops 5 _ _ c.ring_fits.ensures refl c.if-not-ring_fits.true; used = refl; kept = refl }

pub answer_length-long-requires : goal.answer_length-long-requires
answer_length-long-requires c =
    let a = c.args in
    (ring a.n a.q (sym c.ring_fits.ensures ∙ c.if-not-ring_fits.false)).ring_high

pub test_sized-requires : goal.test_sized-requires
test_sized-requires c =
    let a = c.args in
    (ring a.n a.q (sym c.ring_fits.ensures ∙ c.if-not-ring_fits.false)).ring_high

pub returns-then-not-test_sized : goal.returns-then-not-test_sized
unfolding test_reply
returns-then-not-test_sized c =
    let a = c.args in
    let at : List ℕ = length a.keys.now ∷ length a.pairs.now ∷ length a.digests.now ∷ length a.answer.now ∷ length a.scratch.now ∷ [] in
    record { replied = goes 5 _ _ c.ring_fits.ensures c.if-not-ring_fits.false (stops 1 _ _ (c.test_sized.ensures ∙ ap (λ (m : ℕ). same at (24 * a.n ∷ 64 * a.n ∷ 96 ∷ m ∷ 1048576 ∷ [])) c.answer_length-long.ensures) refl c.if-not-test_sized.true); used = refl; kept = refl }

pub test_ranged-requires : goal.test_ranged-requires
test_ranged-requires c =
    let a = c.args in
    let at : List ℕ = length a.keys.now ∷ length a.pairs.now ∷ length a.digests.now ∷ length a.answer.now ∷ length a.scratch.now ∷ [] in
    let to : List ℕ = 24 * a.n ∷ 64 * a.n ∷ 96 ∷ c.answer_length-long.result ∷ 1048576 ∷ [] in
    let l : same at to ≡ true = sym c.test_sized.ensures ∙ c.if-not-test_sized.false in
    ((ring a.n a.q (sym c.ring_fits.ensures ∙ c.if-not-ring_fits.false)).ring_high, length_at at to 3 l ∙ c.answer_length-long.ensures)

pub returns-then-not-test_ranged : goal.returns-then-not-test_ranged
unfolding test_reply
returns-then-not-test_ranged c =
    let a = c.args in
    let at : List ℕ = length a.keys.now ∷ length a.pairs.now ∷ length a.digests.now ∷ length a.answer.now ∷ length a.scratch.now ∷ [] in
    record { replied = goes 5 _ _ c.ring_fits.ensures c.if-not-ring_fits.false (goes 1 _ _ (c.test_sized.ensures ∙ ap (λ (m : ℕ). same at (24 * a.n ∷ 64 * a.n ∷ 96 ∷ m ∷ 1048576 ∷ [])) c.answer_length-long.ensures) c.if-not-test_sized.false (stops 5 _ _ c.test_ranged.ensures refl c.if-not-test_ranged.true)); used = refl; kept = refl }

pub test_answer-requires : goal.test_answer-requires
test_answer-requires c =
    let a = c.args in
    let at : List ℕ = length a.keys.now ∷ length a.pairs.now ∷ length a.digests.now ∷ length a.answer.now ∷ length a.scratch.now ∷ [] in
    let to : List ℕ = 24 * a.n ∷ 64 * a.n ∷ 96 ∷ c.answer_length-long.result ∷ 1048576 ∷ [] in
    let l : same at to ≡ true = sym c.test_sized.ensures ∙ c.if-not-test_sized.false in
    let f = ring a.n a.q (sym c.ring_fits.ensures ∙ c.if-not-ring_fits.false) in
    let i = in_range a.q a.n a.challenge a.answer.now in
    let b = all_below a.q (vector a.pairs.now) in
    let g = both (all_below a.q (vector a.keys.now)) (b && i) (sym c.test_ranged.ensures ∙ c.if-not-test_ranged.false) in
    let h = both b i g.1 in
    (public_keys a.n a.q f a.keys.now (length_at at to 0 l) g.0, length_at at to 4 l, length_at at to 2 l, length_at at to 1 l, h.0, length_at at to 3 l ∙ c.answer_length-long.ensures, h.1)

pub returns : goal.returns
unfolding test_reply
returns c =
    let a = c.args in
    let at : List ℕ = length a.keys.now ∷ length a.pairs.now ∷ length a.digests.now ∷ length a.answer.now ∷ length a.scratch.now ∷ [] in
    let e = c.test_answer.ensures in
    let l = ap length e.cleared ∙ length-replicate {A = ℕ} (length a.scratch.now) 0 in
    record { replied = goes 5 _ _ c.ring_fits.ensures c.if-not-ring_fits.false (goes 1 _ _ (c.test_sized.ensures ∙ ap (λ (m : ℕ). same at (24 * a.n ∷ 64 * a.n ∷ 96 ∷ m ∷ 1048576 ∷ [])) c.answer_length-long.ensures) c.if-not-test_sized.false (goes 5 _ _ c.test_ranged.ensures c.if-not-test_ranged.false e.replied)); used = used_answer _ _ _ l a.q a.n (keys_of a.n a.keys.now) a.pairs.now a.digests.now a.place a.challenge a.answer.now e.replied; kept = l }
