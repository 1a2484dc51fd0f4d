-- `write_answer3` meets its contract. Assumes nothing.
use mathlib.Core.Path.{ap, ◌∙◌}
use Prim.Native.Nat.{◌*◌}
use native.Mathlib.Omega.{arith}
use lib.ListN.{length-append}
use Rattle.codec.specs.Bytes.{part, put}
use Rattle.codec.proofs.Laws.{length_part, part_append}
use Rattle.stern_answers.proofs.WrittenParts.{three_parts}
use Rattle.stern_answers.proofs.writing.write_answer3.Goals as goal

pub returns : goal.returns
returns c =
    let a = c.args in
    let p = c.requires in
    let s = a.salts.now in
    let d2 = c.copy-2.new.d in
    let l1 = length_part s 0 32 (omega (arith, p.4)) in
    let l2 = length_part s 32 32 (omega (arith, p.4)) in
    three_parts a.out.now c.copy.new.d d2 _ a.p.now a.r.now (part s 0 32) (part s 32 32) (168 * a.n) (504 * a.n) (omega (arith, p.3)) (omega (arith, p.2, p.3)) c.copy.ensures c.copy-2.ensures
    (omega (arith, p.1, p.2, p.3, length-append (part s 0 32) (part s 32 32))) (c.copy-3.ensures ∙ ap (put d2 (504 * a.n)) (part_append s 0 32 32))
