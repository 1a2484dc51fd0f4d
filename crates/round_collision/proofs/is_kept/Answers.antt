-- `is_kept` meets its contract. Assumes nothing.
use mathlib.Core.Path.{sym, ap, ◌∙◌}
use mathlib.Core.List.{◌++◌}
use Prim.Native.Nat.{◌+◌, ◌-◌, ◌*◌}
use native.Mathlib.Omega.{arith}
use Rattle.codec.specs.Bytes.{Bytes, part, same}
use Rattle.codec.proofs.Laws.{length_part}
use Rattle.round_collision.proofs.Agreement.{by_parts, lent_same, halved}
use Rattle.round_collision.proofs.is_kept.Goals as goal

pub returns : goal.returns
returns c =
    let a = c.args in
    let p = c.requires in
    let d = a.room.now in
    let w = a.work.now in
    let n = a.n in
    let k = part w 49152 (8 * n) in
    by_parts (part d 0 (8 * n)) (part w 0 (8 * n)) (part d (8 * n) (8 * n)) k c.equal-one.result c.equal-two.result
    (c.equal-one.ensures ∙ lent_same d w 0 0 (8 * n - 0) (8 * n - 0) (8 * n) (omega arith) (omega arith))
    (c.equal-two.ensures ∙ lent_same d w (8 * n) 49152 (16 * n - 8 * n) (49152 + 8 * n - 49152) (8 * n) (omega arith) (omega arith))
    (length_part d 0 (8 * n) (omega (arith, p.0)) ∙ sym (length_part w 0 (8 * n) (omega (arith, p.1))))
    ∙ ap (λ (s : Bytes). same s (part w 0 (8 * n) ++ k)) (sym (halved d n))
