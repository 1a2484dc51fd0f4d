-- `round_write::write_answers` meets its contract. Assumes nothing.
use native.Mathlib.Omega.{arith}
use Rattle.round_head.proofs.Joining.{filled_first}
use Rattle.round_head.proofs.Drawing.{drawn_ends, material}
use Rattle.round_write.proofs.Answering.{answer_of, answer_ends, answering_more, answering_all}
use Rattle.round_write.proofs.write_answers.Goals as goal

pub loop-i-init : goal.loop-i-init
loop-i-init c = let a = c.args in filled_first (answer_of a.k.modulus a.k.ring a.k.repeats a.lent.secrets.now a.lent.vectors.now a.lent.permutations.now a.lent.salts.now a.challenges.now) a.answers.now 0

pub answer_length-size-requires : goal.answer_length-size-requires
answer_length-size-requires c = c.requires.0.in_range.ring_high

pub answer_at-requires : goal.answer_at-requires
answer_at-requires c =
    let a = c.args in
    let p = c.requires in
    let l = c.loop-i in
    let s = c.answer_length-size.ensures in
    let e = drawn_ends a.k.ring a.k.repeats l.i (omega arith) a.k.modulus a.lent.secrets.now a.lent.vectors.now a.lent.permutations.now a.lent.salts.now p.1 in
    let y = answer_ends a.k.modulus a.k.ring a.k.repeats a.lent.secrets.now a.lent.vectors.now a.lent.permutations.now a.lent.salts.now a.challenges.now a.answers.now p.1 p.2 p.3 l.i l.at l.answers l.invariant (omega arith) in (
      p.0.in_range.ring_high,
      p.0.in_range.modulus_low,
      p.0.in_range.modulus_high,
      s,
      omega (arith, s, y),
      e.0,
      e.1,
      e.2,
      material a.k.ring a.k.repeats l.i (omega arith) a.k.modulus a.lent.secrets.now a.lent.vectors.now a.lent.permutations.now a.lent.salts.now p.1,
    )

pub overflow_add-at : goal.overflow_add-at
overflow_add-at c =
    let a = c.args in
    let p = c.requires in
    let l = c.loop-i in
    let y = answer_ends a.k.modulus a.k.ring a.k.repeats a.lent.secrets.now a.lent.vectors.now a.lent.permutations.now a.lent.salts.now a.challenges.now a.answers.now p.1 p.2 p.3 l.i l.at l.answers l.invariant (omega arith) in
    omega (arith, c.answer_length-size.ensures, c.answer_at.auto.answers)

pub loop-i-preserved : goal.loop-i-preserved
loop-i-preserved c =
    let a = c.args in
    let p = c.requires in
    let l = c.loop-i in
    let y = c.answer_at in
    answering_more a.k.modulus a.k.ring a.k.repeats a.lent.secrets.now a.lent.vectors.now a.lent.permutations.now a.lent.salts.now a.challenges.now a.answers.now p.1 p.2 p.3 l.i l.at l.answers l.invariant (omega arith)
    c.answer_length-size.result y.new.answers c.answer_length-size.ensures y.auto.answers y.ensures

pub shape_of-answers : goal.shape_of-answers
shape_of-answers c = c.loop-i.invariant.long

pub returns : goal.returns
returns c =
    let a = c.args in
    let p = c.requires in
    let l = c.loop-i in
    answering_all a.k.modulus a.k.ring a.k.repeats a.lent.secrets.now a.lent.vectors.now a.lent.permutations.now a.lent.salts.now a.challenges.now a.answers.now p.1 p.2 p.3 l.i l.at l.answers l.invariant (omega arith)
