-- `testing::test_answer` meets its contract. Assumes nothing.
use mathlib.Core.Path.{sym, ◌∙◌}
use mathlib.Core.Bool.{◌&&◌}
use Rattle.codec.proofs.Laws.{both}
use Rattle.codec.specs.Lists.{all_below}
use Rattle.commitment.specs.Commitment.{keys_of}
use Rattle.vector.specs.Vector.{vector}
use Rattle.stern.specs.Shortness.{answer1_of, answer2_of, answer3_of}
use Rattle.stern.proofs.Answered.{chosen1, chosen2, chosen3, answer_long, answer_longer}
use Rattle.stern_answers.proofs.LentParts.{judged1, judged2, judged3}
use Rattle.stern_answers.proofs.testing.test_answer.Goals as goal

pub test_first-requires : goal.test_first-requires
test_first-requires c =
    let a = c.args in
    let p = c.requires in
    let e = c.if-challenge-eq1.true in
    let s = a.answer.now in
    let w = all_below 3 (answer1_of a.n s).w in
    let t = all_below a.q (vector (answer1_of a.n s).t) in
    (p.0.one.ring_high, p.0.one.modulus_low, p.0.one.modulus_high, p.1, p.2, p.5 ∙ answer_long a.n a.challenge e, (both w t (sym (chosen1 a.challenge (w && t) _ _ e) ∙ p.6)).1)

pub returns-then-challenge-eq1 : goal.returns-then-challenge-eq1
returns-then-challenge-eq1 c =
    let a = c.args in
    let e = c.test_first.ensures in
    judged1 a.q a.n a.place a.challenge (keys_of a.n a.k.now) a.c.now a.d.now a.answer.now c.if-challenge-eq1.true e

pub test_bytes-requires : goal.test_bytes-requires
test_bytes-requires c =
    let a = c.args in
    let p = c.requires in
    (p.0, p.1, p.5 ∙ answer_longer a.n a.challenge c.if-challenge-eq1.false, p.3, p.4, sym (chosen2 a.challenge _ (all_below a.q (vector (answer2_of a.n a.answer.now).u)) _ c.if-challenge-eq2.true) ∙ p.6)

pub returns-then-challenge-eq2 : goal.returns-then-challenge-eq2
returns-then-challenge-eq2 c =
    let a = c.args in
    let e = c.test_bytes.ensures in
    judged2 a.q a.n a.place a.challenge (keys_of a.n a.k.now) a.c.now a.d.now a.answer.now c.if-challenge-eq2.true e

pub test_bytes-requires-2 : goal.test_bytes-requires-2
test_bytes-requires-2 c =
    let a = c.args in
    let p = c.requires in
    (p.0, p.1, p.5 ∙ answer_longer a.n a.challenge c.if-challenge-eq1.false, p.3, p.4, sym (chosen3 a.challenge _ _ (all_below a.q (vector (answer3_of a.n a.answer.now).r)) c.if-challenge-eq1.false c.if-challenge-eq2.false) ∙ p.6)

pub returns : goal.returns
returns c =
    let a = c.args in
    let e = c.test_bytes-2.ensures in
    judged3 a.q a.n a.place a.challenge (keys_of a.n a.k.now) a.c.now a.d.now a.answer.now c.if-challenge-eq1.false c.if-challenge-eq2.false e
