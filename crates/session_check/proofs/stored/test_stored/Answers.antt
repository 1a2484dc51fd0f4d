-- `test_stored` meets its contract. Assumes nothing.
use native.Mathlib.Omega.{arith}
use Rattle.session_check.specs.Stored.{stored_tests}
use Rattle.session_check.proofs.Order.{refused_by_lem, passed_by, none_left, told, numbers_told}
use Rattle.session_check.proofs.stored.test_stored.Goals as goal

pub returns-then-not-equal : goal.returns-then-not-equal
unfolding stored_tests
returns-then-not-equal c = refused_by_lem 16 0 _ _ (told _ c.equal.ensures c.hash-sheet_again.ensures) c.if-not-equal.true

pub returns-then-not-same_numbers : goal.returns-then-not-same_numbers
unfolding stored_tests
returns-then-not-same_numbers c = passed_by 16 0 _ _ (told _ c.equal.ensures c.hash-sheet_again.ensures) c.if-not-equal.false (refused_by_lem 16 0 _ _ (numbers_told _ c.same_numbers.ensures c.requires.1) c.if-not-same_numbers.true)

pub returns-then-not-equal-2 : goal.returns-then-not-equal-2
unfolding stored_tests
returns-then-not-equal-2 c = passed_by 16 0 _ _ (told _ c.equal.ensures c.hash-sheet_again.ensures) c.if-not-equal.false (passed_by 16 0 _ _ (numbers_told _ c.same_numbers.ensures c.requires.1) c.if-not-same_numbers.false (refused_by_lem 16 0 _ _ (told _ c.equal-2.ensures c.closing_of_ballots-closing_again.ensures) c.if-not-equal-2.true))

pub returns-then-not-equal-3 : goal.returns-then-not-equal-3
unfolding stored_tests
returns-then-not-equal-3 c = passed_by 16 0 _ _ (told _ c.equal.ensures c.hash-sheet_again.ensures) c.if-not-equal.false (passed_by 16 0 _ _ (numbers_told _ c.same_numbers.ensures c.requires.1) c.if-not-same_numbers.false (passed_by 16 0 _ _ (told _ c.equal-2.ensures c.closing_of_ballots-closing_again.ensures) c.if-not-equal-2.false (refused_by_lem 16 0 _ _ (told _ c.equal-3.ensures c.claim_digest-claim_again.ensures) c.if-not-equal-3.true)))

pub returns-then-not-equal-4 : goal.returns-then-not-equal-4
unfolding stored_tests
returns-then-not-equal-4 c = passed_by 16 0 _ _ (told _ c.equal.ensures c.hash-sheet_again.ensures) c.if-not-equal.false (passed_by 16 0 _ _ (numbers_told _ c.same_numbers.ensures c.requires.1) c.if-not-same_numbers.false (passed_by 16 0 _ _ (told _ c.equal-2.ensures c.closing_of_ballots-closing_again.ensures) c.if-not-equal-2.false (passed_by 16 0 _ _ (told _ c.equal-3.ensures c.claim_digest-claim_again.ensures) c.if-not-equal-3.false (refused_by_lem 16 0 _ _ (told _ c.equal-4.ensures c.round_digest-message_again.ensures) c.if-not-equal-4.true))))

pub returns : goal.returns
unfolding stored_tests
returns c = passed_by 16 0 _ _ (told _ c.equal.ensures c.hash-sheet_again.ensures) c.if-not-equal.false (passed_by 16 0 _ _ (numbers_told _ c.same_numbers.ensures c.requires.1) c.if-not-same_numbers.false (passed_by 16 0 _ _ (told _ c.equal-2.ensures c.closing_of_ballots-closing_again.ensures) c.if-not-equal-2.false (passed_by 16 0 _ _ (told _ c.equal-3.ensures c.claim_digest-claim_again.ensures) c.if-not-equal-3.false (passed_by 16 0 _ _ (told _ c.equal-4.ensures c.round_digest-message_again.ensures) c.if-not-equal-4.false (none_left)))))

pub overflow_mul-size : goal.overflow_mul-size
overflow_mul-size c = let r = c.requires.0.0.ring_high in omega (arith, r)

pub overflow_add-size : goal.overflow_add-size
overflow_add-size c = let r = c.requires.0.0.ring_high in omega (arith, r)

pub closing_of_ballots-closing_again-requires : goal.closing_of_ballots-closing_again-requires
closing_of_ballots-closing_again-requires c = let p = c.requires in let r = p.0.0.ring_high in (omega (arith, p.2), omega (arith, r), omega (arith, p.0.1))
