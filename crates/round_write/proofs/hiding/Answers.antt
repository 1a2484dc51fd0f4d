-- `round_write::hiding` meets its contract. Assumes nothing.
use mathlib.Core.Path.{ap, ◌∙◌}
use Prim.Native.Nat.{◌+◌, ◌-◌, ◌*◌}
use native.Mathlib.Omega.{arith}
use Rattle.codec.specs.Bytes.{part, put}
use Rattle.codec.proofs.Laws.{length_part, written_behind}
use Rattle.round_head.proofs.Joining.{cut}
use Rattle.round_write.proofs.hiding.Goals as goal

pub returns : goal.returns
returns c =
    let a = c.args in
    let p = c.requires in
    let n = a.n in
    let x = a.secrets.now in
    let s = a.s in
    let e = a.e in
    let ls = length_part x s (3 * n) p.1 in
    let le = length_part x e (3 * n) p.2 in
    written_behind a.opening.now c.copy.new.d c.copy-2.new.d (part x s (3 * n)) (part x e (3 * n)) (16 * n) (19 * n) (omega (arith, ls)) (omega (arith, le, p.3))
    (c.copy.ensures ∙ ap (put a.opening.now (16 * n)) (cut x s (s + 3 * n - s) (3 * n) (omega arith)))
    (c.copy-2.ensures ∙ ap (put c.copy.new.d (19 * n)) (cut x e (e + 3 * n - e) (3 * n) (omega arith)))
