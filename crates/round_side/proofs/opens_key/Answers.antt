-- `round_side::opens_key` meets its contract. Assumes nothing.
use Prim.Native.Nat.{◌-◌, ◌*◌}
use native.Mathlib.Omega.{arith}
use borrow.Author.Rules.{rules}
use Rattle.round.proofs.Cut.{a_lent, b_lent}
use Rattle.round_side.proofs.Parts.{lent_on, key_lent}
use Rattle.round_side.proofs.opens_key.Goals as goal

pub is_key-requires : goal.is_key-requires
is_key-requires c =
    let a = c.args in
    let p = c.requires in
    let n = a.k.ring in
    (p.0.numbers, search (rules, a_lent, b_lent), lent_on a.opening.now 0 (8 * n - 0) (omega arith) p.1.s, lent_on a.opening.now (8 * n) (16 * n - 8 * n) (omega arith) p.1.e, p.2)

pub returns : goal.returns
returns c = let a = c.args in (λ side. key_lent a.k a.public.now a.head.now side a.opening.now c.requires.1 c.is_key.ensures.0, c.is_key.ensures.1)
