-- The invariants of `test_repetitions`. Assumes nothing.
use Rattle.commitment.specs.Commitment.{keys_of}
use Rattle.commitment.specs.Loaded.{key_bytes}
use Rattle.round_tests.proofs.RepetitionLoop.{Came}
use Rattle.round_tests.proofs.repetitions.test_repetitions.Given as goal

abbrev pub invariant-loop-i : goal.invariant-loop-i
invariant-loop-i l = Came l.k.modulus l.k.ring (keys_of l.k.ring (key_bytes l.k l.public)) l.head l.challenges l.answers l.i l.at l.work
