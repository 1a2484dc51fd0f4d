-- `round_side::opens_pairs` meets its contract. Assumes nothing.
use Prim.Native.Nat.{◌+◌, ◌-◌, ◌*◌}
use native.Mathlib.Omega.{arith}
use Rattle.stern.proofs.Answered.{lent_length}
use Rattle.round.proofs.Cut.{keys_lent}
use Rattle.round_side.proofs.Parts.{lent_on, both_lent}
use Rattle.round_side.proofs.opens_pairs.Goals as goal

pub opens_pairs-requires : goal.opens_pairs-requires
opens_pairs-requires c =
    let a = c.args in
    let p = c.requires in
    let n = a.k.ring in
    let o = a.opening.now in
    let l = p.1.sized in
    let at = a.at in (
      keys_lent a.k a.public.now p.0,
      lent_on o 0 (8 * n - 0) (omega arith) p.1.s,
      lent_on o (8 * n) (16 * n - 8 * n) (omega arith) p.1.e,
      lent_length o (16 * n) (19 * n - 16 * n) (3 * n) (omega arith) (omega arith),
      lent_length o (19 * n) (22 * n - 19 * n) (3 * n) (omega arith) (omega arith),
      p.2,
      lent_length a.head.now at (at + 16 * n - at) (16 * n) (omega arith) (omega (arith, p.3)),
      lent_length a.head.now (at + 32 * n) (at + 48 * n - (at + 32 * n)) (16 * n) (omega arith) (omega (arith, p.3)),
    )

pub returns : goal.returns
returns c = let a = c.args in (λ side. both_lent a.k a.public.now a.head.now side a.opening.now c.requires.1 c.opens_pairs.ensures.0, c.opens_pairs.ensures.1)
