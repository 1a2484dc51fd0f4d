-- `sponge::absorb` meets its contract. Assumes nothing.
use mathlib.Core.Path.{◌∙◌, ap}
use Prim.Native.Nat.{◌-◌, ◌%◌}
use lib.ListN.{length, take, drop}
use native.Mathlib.Omega.{arith}
use borrow.Author.Rules.{rules}
use Rattle.sha3.specs.Absorb.{absorb}
use Rattle.keccak.specs.Keccak.{StateArray}
use Rattle.sha3.proofs.Absorbing.{thirds}
use Rattle.sha3.proofs.sponge.absorb.Goals as goal

pub returns : goal.returns
returns c =
    let m = c.args.m.now in
    let at = c.args.at in
    let h = (136 - at) % 136 in
    let e = length m - (length m - h) % 136 in
    c.absorb_inside-2.ensures
    ∙ ap (λ (s : StateArray). absorb s 0 (take (length m - e) (drop e m)))
    (c.absorb_blocks-b.ensures
    ∙ ap (λ (s : StateArray). absorb s 0 (take (e - h) (drop h m))) c.absorb_head-a.ensures)
    ∙ thirds m c.args.s at h e (search rules) (omega arith) (omega arith) (omega arith) (omega arith)
