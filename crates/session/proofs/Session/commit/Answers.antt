-- `Session::commit` meets its contract. Assumes nothing.
use mathlib.Core.Path.{refl, sym, ◌∙◌}
use native.Mathlib.Omega.{arith}
use Rattle.codec.proofs.Laws.{both}
use Rattle.session_progress.proofs.Limits.{within_due, round_known, bounds}
use Rattle.session.specs.Steps.{committed_by}
use Rattle.session.proofs.Stepping.{stays, moves}
use Rattle.session.proofs.CountingTests.{commit_undue, commit_length, commit_taken}
use Rattle.session.proofs.Session.commit.Goals as goal

pub returns-then-not-may_commit : goal.returns-then-not-may_commit
returns-then-not-may_commit c = λ register. stays _ _ (commit_undue _ _ _ _ _ (sym c.may_commit.ensures ∙ c.if-not-may_commit.true)) refl c.refused.ensures

pub message_sized-requires : goal.message_sized-requires
message_sized-requires c = (both _ _ (sym c.may_commit.ensures ∙ c.if-not-may_commit.false)).0

pub returns-then-not-message_sized : goal.returns-then-not-message_sized
returns-then-not-message_sized c = λ register. stays _ _ (commit_length _ _ _ _ _ (sym c.may_commit.ensures ∙ c.if-not-may_commit.false) c.message_sized.ensures c.if-not-message_sized.true) refl c.refused-then-not-message_sized.ensures

pub overflow_cast-round : goal.overflow_cast-round
overflow_cast-round c = let d = sym c.may_commit.ensures ∙ c.if-not-may_commit.false in omega (arith, (round_known c.args.self.numbers c.args.self.progress 2 c.args.self.progress.committed c.args.round d).1.1, (bounds (within_due _ _ _ d)).rounds_high)

pub write-requires : goal.write-requires
write-requires c = let d = sym c.may_commit.ensures ∙ c.if-not-may_commit.false in omega (arith, (round_known c.args.self.numbers c.args.self.progress 2 c.args.self.progress.committed c.args.round d).1.1, (bounds (within_due _ _ _ d)).rounds_high)

pub with_message-requires : goal.with_message-requires
with_message-requires c = let w = within_due _ _ _ (sym c.may_commit.ensures ∙ c.if-not-may_commit.false) in omega (arith, w.committed, (bounds w).rounds_high)

pub returns : goal.returns
unfolding committed_by
returns c = λ register. moves _ _ (commit_taken _ _ _ _ _ (sym c.may_commit.ensures ∙ c.if-not-may_commit.false) c.message_sized.ensures c.if-not-message_sized.false) refl (rw (c.with_message.ensures, c.write.ensures, c.round_digest-digest.ensures)) refl
