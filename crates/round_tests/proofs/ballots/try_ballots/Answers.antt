-- `ballots::try_ballots` meets its contract. Assumes nothing.
use mathlib.Core.Path.{sym, ◌∙◌}
use native.Mathlib.Omega.{arith}
use Rattle.codec.proofs.Refusals.{handed_on}
use Rattle.sheet_numbers.specs.Plain.{plain, mask_bound_of}
use Rattle.round_tests.proofs.BallotLoop.{reached_first, reached_more, reached_refused, reached_all, ballot_stands}
use Rattle.round_tests.proofs.ballots.try_ballots.Goals as goal

pub loop-j-init : goal.loop-j-init
loop-j-init c =
    let a = c.args in
    reached_first a.k.modulus a.k.ring (plain a.k) (mask_bound_of a.k) a.s.now a.ballots.now a.claims.now a.side a.shares0.now a.shares1.now a.work.now c.requires.2

pub test_at-requires : goal.test_at-requires
test_at-requires c =
    let a = c.args in
    let p = c.requires in
    let l = c.loop-j in
    (p.0, p.1, l.invariant.long, ballot_stands a.k.modulus a.k.ring (plain a.k) (mask_bound_of a.k) a.s.now a.ballots.now a.claims.now a.side a.shares0.now a.shares1.now a.count l.j (omega arith) p.4 p.1.in_range.ring_low p.1.in_range.ring_high p.1.ring_found p.5 p.6 p.7)

pub returns-in_err-test_at : goal.returns-in_err-test_at
returns-in_err-test_at c =
    let a = c.args in
    let l = c.loop-j in
    let t = c.in_err-test_at.ensures in
    rw (handed_on c.from_residual.result c.from_residual.ensures.1)
    (record {
      replied = reached_refused a.k.modulus a.k.ring (plain a.k) (mask_bound_of a.k) a.s.now a.ballots.now a.claims.now a.side a.shares0.now a.shares1.now a.count l.j (omega arith) l.invariant _ _ t.replied;
      kept = t.kept ∙ l.invariant.long ∙ sym c.requires.2;
    })

pub loop-j-preserved : goal.loop-j-preserved
loop-j-preserved c =
    let a = c.args in
    let l = c.loop-j in
    let t = c.in_ok-test_at.ensures in
    reached_more a.k.modulus a.k.ring (plain a.k) (mask_bound_of a.k) a.s.now a.ballots.now a.claims.now a.side a.shares0.now a.shares1.now a.count l.j (omega arith) l.invariant t.kept t.replied

pub returns : goal.returns
returns c =
    let a = c.args in
    let l = c.loop-j in
    record {
      replied = reached_all a.k.modulus a.k.ring (plain a.k) (mask_bound_of a.k) a.s.now a.ballots.now a.claims.now a.side a.shares0.now a.shares1.now l.invariant (omega arith);
      kept = l.invariant.long ∙ sym c.requires.2;
    }
