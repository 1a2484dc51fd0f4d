-- `testing::test_digests` meets its contract. Assumes nothing.
use mathlib.Core.Path.{refl, sym, ◌∙◌}
use Rattle.codec.specs.Reply.{first}
use Rattle.stern_answers.proofs.testing.test_digests.Goals as goal

pub returns-then-both_equal : goal.returns-then-both_equal
unfolding first
returns-then-both_equal c = rw (sym c.both_equal.ensures ∙ c.if-both_equal.true) refl

pub returns-else-both_equal : goal.returns-else-both_equal
unfolding first
returns-else-both_equal c = rw (sym c.both_equal.ensures ∙ c.if-both_equal.false) refl
