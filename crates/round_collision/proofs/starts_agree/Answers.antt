-- `starts_agree` meets its contract. Assumes nothing.
use mathlib.Core.Path.{sym, ◌∙◌}
use Prim.Native.Nat.{◌+◌, ◌-◌, ◌*◌}
use native.Mathlib.Omega.{arith}
use Rattle.codec.specs.Bytes.{part}
use Rattle.codec.proofs.Laws.{length_part}
use Rattle.round_collision.proofs.Agreement.{by_parts, lent_same}
use Rattle.round_collision.proofs.starts_agree.Goals as goal

pub returns : goal.returns
returns c =
    let a = c.args in
    let p = c.requires in
    let s = a.answer2.now in
    let t = a.answer3.now in
    let n = a.n in
    by_parts (part s (504 * n) 32) (part t (504 * n) 32) (part s 0 (168 * n)) (part t 0 (168 * n)) c.equal-salts.result c.equal-permutations.result
    (c.equal-salts.ensures ∙ lent_same s t (504 * n) (504 * n) (504 * n + 32 - 504 * n) (504 * n + 32 - 504 * n) 32 (omega arith) (omega arith))
    (c.equal-permutations.ensures ∙ lent_same s t 0 0 (168 * n - 0) (168 * n - 0) (168 * n) (omega arith) (omega arith))
    (length_part s (504 * n) 32 (omega (arith, p.1)) ∙ sym (length_part t (504 * n) 32 (omega (arith, p.2))))
