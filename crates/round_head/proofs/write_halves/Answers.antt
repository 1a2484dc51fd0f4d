-- `round_head::write_halves` meets its contract. Assumes nothing.
use Prim.Native.Nat.{◌+◌, ◌*◌}
use native.Mathlib.Omega.{arith}
use Rattle.codec.specs.Bytes.{part}
use Rattle.codec.proofs.Laws.{length_part, written_behind}
use Rattle.round_head.proofs.write_halves.Goals as goal

pub returns : goal.returns
returns c =
    let a = c.args in
    let p = c.requires in
    let w = a.work.now in
    let one = length_part w 0 (8 * a.n) (omega (arith, p.0, p.2)) in
    let two = length_part w 49152 (8 * a.n) (omega (arith, p.0, p.2)) in
    written_behind a.out.now _ _ (part w 0 (8 * a.n)) (part w 49152 (8 * a.n)) a.at (a.at + 8 * a.n) (omega (arith, one)) (omega (arith, two, p.1)) c.write_out.ensures c.write_out-2.ensures
