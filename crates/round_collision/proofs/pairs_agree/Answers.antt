-- `pairs_agree` meets its contract. Assumes nothing.
use mathlib.Core.Path.{◌∙◌}
use mathlib.Core.Bool.{true, false}
use native.Mathlib.Omega.{arith}
use Rattle.commitment.specs.Commitment.{keys_of}
use Rattle.stern.specs.Internal.{equation_pair}
use Rattle.stern.proofs.Written.{vector_below}
use Rattle.round_collision.proofs.Agreement.{pairs_compared}
use Rattle.round_collision.proofs.pairs_agree.Goals as goal

pub equation_pair-requires : goal.equation_pair-requires
equation_pair-requires c =
    let a = c.args in
    let p = c.requires in
    let g = p.0 in
    let m = p.1 in
    record { public_keys = (g.keys, g.sized_work, omega (arith, m.sized_u, p.2), omega (arith, m.sized_u, p.3), vector_below a.q a.u.now m.below_u); n_in_bounds = λ t. (omega (arith, g.sized_pairs, p.4), vector_below a.q a.c.now g.below_pairs) }

pub equation_pair-requires-2 : goal.equation_pair-requires-2
equation_pair-requires-2 c =
    let a = c.args in
    let p = c.requires in
    let g = p.0 in
    let m = p.1 in
    record { public_keys = (g.keys, c.equation_pair.ensures.sized ∙ g.sized_work, omega (arith, m.sized_r, p.2), omega (arith, m.sized_r, p.3), vector_below a.q a.r.now m.below_r); n_in_bounds = λ t. (omega (arith, g.sized_pairs, p.4), vector_below a.q a.c.now g.below_pairs) }

pub keep_pair-requires : goal.keep_pair-requires
keep_pair-requires c =
    let p = c.requires.0 in
    let h = p.keys.one.ring_high in
    (p.sized_room, omega (arith, c.equation_pair.ensures.sized, p.sized_work))

pub is_kept-requires : goal.is_kept-requires
is_kept-requires c =
    let p = c.requires.0 in
    let h = p.keys.one.ring_high in
    (omega (arith, c.room-1.given, p.sized_room), omega (arith, c.equation_pair-2.ensures.sized, c.equation_pair.ensures.sized, p.sized_work))

pub returns : goal.returns
returns c =
    let a = c.args in
    let k = keys_of a.n a.k.now in
    let u = equation_pair a.q a.n k a.c.now true a.u.now a.first a.message a.from in
    let v = equation_pair a.q a.n k a.c.now false a.r.now a.first a.message a.from in
    let s = c.equation_pair.ensures in
    let t = c.equation_pair-2.ensures in
    pairs_compared a.q a.n a.room.now u c.requires.0.sized_room s c.keep_pair.ensures v t c.is_kept.ensures c.room-1.given

pub shape_of-work : goal.shape_of-work
shape_of-work c = c.work-2-1.given ∙ c.work-1.given

pub shape_of-room : goal.shape_of-room
shape_of-room c = c.room-1.given
