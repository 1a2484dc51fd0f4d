-- `ballots::test_at` meets its contract. Assumes nothing.
use mathlib.Core.Path.{sym, subst, ◌∙◌}
use Prim.Native.Nat.{◌+◌, ◌-◌, ◌*◌}
use native.Mathlib.Omega.{arith}
use Rattle.stern.proofs.Answered.{lent_length}
use Rattle.sheet_numbers.specs.Plain.{plain, mask_bound_of}
use Rattle.scratch.specs.Internal.{Polynomial}
use Rattle.round.specs.Round.{of_side}
use Rattle.round.proofs.Compared.{lent_public, first_below, second_below}
use Rattle.round_tests.proofs.BallotLoop.{lent_tests_lem}
use Rattle.round_tests.proofs.ballots.test_at.Goals as goal

pub test_ballot-requires : goal.test_ballot-requires
test_ballot-requires c =
    let a = c.args in
    let p = c.requires in
    let b = p.3 in
    let s = p.0 in
    let n = a.k.ring in
    let x = a.at in
    let i = a.share in
    let o = c.opened_share-opened in (
      p.1,
      s,
      lent_public n a.k.modulus a.ballots.now (x + 4) (x + 4 + 8 * n - (x + 4)) (omega arith) (omega (arith, b.ballot_ends)) s.ring_low s.ring_high s.modulus_low s.modulus_high (first_below n a.k.modulus _ b.below),
      lent_public n a.k.modulus a.ballots.now (x + 4 + 8 * n) (x + 4 + 16 * n - (x + 4 + 8 * n)) (omega arith) (omega (arith, b.ballot_ends)) s.ring_low s.ring_high s.modulus_low s.modulus_high (second_below n a.k.modulus a.ballots.now (x + 4) b.below),
      lent_public n a.k.modulus a.shares0.now i (i + 8 * n - i) (omega arith) b.ends0 s.ring_low s.ring_high s.modulus_low s.modulus_high b.below0,
      lent_public n a.k.modulus a.shares1.now i (i + 8 * n - i) (omega arith) b.ends1 s.ring_low s.ring_high s.modulus_low s.modulus_high b.below1,
      subst (Polynomial n a.k.modulus) (sym (o.ensures ∙ b.opened)) (lent_public n a.k.modulus (of_side a.side a.shares0.now a.shares1.now) i (8 * n) (omega arith) b.ends s.ring_low s.ring_high s.modulus_low s.modulus_high b.below_opened),
      p.2,
      lent_length a.claims.now a.claim (a.claim + n - a.claim) n (omega arith) b.claim_ends,
    )

pub returns : goal.returns
returns c =
    let a = c.args in
    let b = c.requires.3 in
    let t = c.test_ballot.ensures in
    record { replied = lent_tests_lem a.k.modulus a.k.ring (plain a.k) (mask_bound_of a.k) a.s.now a.ballots.now a.claims.now a.side a.shares0.now a.shares1.now a.at a.claim a.share a.place b.ballot_ends b.ends0 b.ends1 b.ends (c.opened_share-opened.ensures ∙ b.opened) t.replied; kept = t.kept }

pub slice_bounds-test_ballot-end-2 : goal.slice_bounds-test_ballot-end-2
slice_bounds-test_ballot-end-2 c = c.requires.3.ballot_ends

pub slice_bounds-test_ballot-end-3 : goal.slice_bounds-test_ballot-end-3
slice_bounds-test_ballot-end-3 c = c.requires.3.claim_ends

pub slice_bounds-test_ballot-end-4 : goal.slice_bounds-test_ballot-end-4
slice_bounds-test_ballot-end-4 c = c.requires.3.ends0

pub slice_bounds-test_ballot-end-5 : goal.slice_bounds-test_ballot-end-5
slice_bounds-test_ballot-end-5 c = c.requires.3.ends1
