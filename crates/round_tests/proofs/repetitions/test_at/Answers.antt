-- `repetitions::test_at` meets its contract. Assumes nothing.
use mathlib.Core.Path.{◌≡◌, ap, ◌∙◌}
use Prim.Native.Nat.{ℕ, ◌+◌, ◌-◌, ◌*◌}
use native.Mathlib.Omega.{arith}
use lib.ListN.{take, drop}
use Rattle.stern.specs.Shortness.{in_range}
use Rattle.stern.proofs.Answered.{lent_range, lent_length}
use Rattle.round.proofs.Cut.{keys_lent}
use Rattle.round_tests.proofs.RepetitionLoop.{at_lent}
use Rattle.round_tests.proofs.repetitions.test_at.Goals as goal

pub test_answer-requires : goal.test_answer-requires
test_answer-requires c =
    let a = c.args in
    let p = c.requires in
    let n = a.k.ring in
    let e : a.at + a.size - a.at ≡ a.size = omega arith in (
      keys_lent a.k a.public.now p.0,
      p.1,
      lent_length a.head.now a.digests (a.digests + 96 - a.digests) 96 (omega arith) p.3,
      lent_length a.head.now (16 * n) (80 * n - 16 * n) (64 * n) (omega arith) (omega (arith, p.2)),
      lent_range a.k.modulus a.head.now (16 * n) (80 * n - 16 * n) (64 * n) (omega arith) p.6,
      lent_length a.answers.now a.at (a.at + a.size - a.at) a.size e p.5 ∙ p.4,
      ap (λ (k : ℕ). in_range a.k.modulus n a.challenge (take k (drop a.at a.answers.now))) e ∙ p.7,
    )

pub returns : goal.returns
returns c = let a = c.args in record { replied = at_lent a.k a.public.now a.head.now a.digests a.answers.now a.at a.size a.place a.challenge c.test_answer.ensures.replied; cleared = c.test_answer.ensures.cleared }
