-- `testing::test_bytes` meets its contract. Assumes nothing.
use mathlib.Core.Path.{ap, ◌∙◌}
use Prim.Native.Nat.{◌+◌, ◌-◌, ◌*◌}
use native.Mathlib.Omega.{arith}
use Rattle.codec.specs.Bytes.{zeros}
use Rattle.commitment.specs.Commitment.{keys_of}
use Rattle.stern.proofs.Answered.{lent_range}
use Rattle.stern_answers.specs.Internal.{permuted_tests}
use Rattle.stern_answers.proofs.LentParts.{cut_lengths, cut_alike}
use Rattle.stern_answers.proofs.testing.test_bytes.Goals as goal

pub test_permuted-reply-requires : goal.test_permuted-reply-requires
test_permuted-reply-requires c =
    let a = c.args in
    let p = c.requires in
    let s = a.answer.now in
    let n = a.n in
    let l = cut_lengths s (168 * n) (336 * n) (504 * n) (omega arith) p.2 in
    (p.0, p.1, l.0, l.1, l.2, l.3, lent_range a.q s (168 * n) (504 * n - 168 * n) (336 * n) (omega arith) p.5, p.3, p.4)

pub returns : goal.returns
returns c =
    let a = c.args in
    let n = a.n in
    record {
      replied = cut_alike n a.answer.now (λ p x s t. permuted_tests a.q n (keys_of n a.k.now) a.c.now a.less a.one.now a.lead a.other.now p x s t a.place) (168 * n - 0) (504 * n - 168 * n) (504 * n + 32 - 504 * n) (504 * n + 64 - (504 * n + 32)) (omega arith) (omega arith) (omega arith) (omega arith) c.test_permuted-reply.ensures.replied;
      cleared = c.wipe.ensures ∙ ap zeros c.test_permuted-reply.ensures.kept;
    }
