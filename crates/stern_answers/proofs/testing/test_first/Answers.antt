-- `testing::test_first` meets its contract. Assumes nothing.
use mathlib.Core.Path.{ap, ◌∙◌}
use mathlib.Core.List.{[]}
use Prim.Native.Nat.{◌+◌, ◌-◌, ◌*◌}
use native.Mathlib.Omega.{arith}
use Rattle.codec.specs.Bytes.{zeros}
use Rattle.commitment.specs.Commitment.{keys_of}
use Rattle.stern.proofs.Answered.{lent_range}
use Rattle.stern_answers.proofs.LentParts.{cut_lengths, lent1}
use Rattle.stern_answers.proofs.testing.test_first.Goals as goal

pub test_balanced-reply-requires : goal.test_balanced-reply-requires
test_balanced-reply-requires c =
    let a = c.args in
    let p = c.requires in
    let s = a.answer.now in
    let n = a.n in
    let l = cut_lengths s (42 * n) (336 * n) (378 * n) (omega arith) p.5 in
    (p.0, p.1, p.2, p.3, l.0, l.1, l.2, l.3, lent_range a.q s (42 * n) (378 * n - 42 * n) (336 * n) (omega arith) p.6)

pub returns : goal.returns
returns c =
    let a = c.args in
    let n = a.n in
    record {
      replied = lent1 a.q n a.place (keys_of n []) [] a.d.now a.answer.now (42 * n - 0) (378 * n - 42 * n) (378 * n + 32 - 378 * n) (378 * n + 64 - (378 * n + 32)) (omega arith) (omega arith) (omega arith) (omega arith) c.test_balanced-reply.ensures.replied;
      cleared = c.wipe.ensures ∙ ap zeros c.test_balanced-reply.ensures.kept;
    }
