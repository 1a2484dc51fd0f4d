-- `round_sides::test_answer` meets its contract. Assumes nothing.
use mathlib.Core.Path.{ap, ◌∙◌}
use native.Mathlib.Omega.{arith}
use Rattle.codec.specs.Bytes.{Bytes, part}
use Rattle.codec.specs.Reply.{first}
use Rattle.codec.proofs.Laws.{part_whole}
use Rattle.commitment.specs.Commitment.{keys_of}
use Rattle.commitment.specs.Loaded.{key_bytes}
use Rattle.stern.specs.Shortness.{in_range, answer_tests}
use Rattle.round.specs.Layout.{pairs_of}
use Rattle.round_sides.proofs.test_answer.Goals as goal

pub test_at-requires : goal.test_at-requires
test_at-requires c =
    let a = c.args in
    let p = c.requires in (
      p.0,
      p.1,
      omega (arith, p.2.sized),
      p.3,
      p.4.sized,
      omega arith,
      p.2.pairs,
      ap (λ (s : Bytes). in_range a.k.modulus a.k.ring a.challenge s) (part_whole a.answer.now) ∙ p.4.ranged,
    )

pub returns : goal.returns
returns c =
    let a = c.args in
    let n = a.k.ring in
    let t = c.test_at in
    record {
      replied = t.ensures.replied
          ∙ ap (λ (s : Bytes). first (answer_tests a.k.modulus n (keys_of n (key_bytes a.k a.public.now)) (pairs_of n a.head.now) (part a.head.now a.digests 96) a.place a.challenge s)) (part_whole a.answer.now);
      cleared = t.ensures.cleared;
    }
