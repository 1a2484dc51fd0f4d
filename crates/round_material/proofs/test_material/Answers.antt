-- `test_material` meets its contract. Assumes nothing.
use mathlib.Core.Path.{ap, ◌∙◌}
use Rattle.codec.specs.Refusal.{as_reply}
use Rattle.codec.proofs.Refusals.{handed_on}
use Rattle.scratch.proofs.Zeroizing.{length_zeros}
use Rattle.round.specs.Producer.{Material}
use Rattle.round.specs.Internal.{material_lent}
use Rattle.commitment.specs.Parameters.{Parameters, parameters}
use Rattle.round_material.proofs.Sequence.{stopped, ended, ballots_passed}
use Rattle.round_material.proofs.test_material.Goals.{Start}
use Rattle.round_material.proofs.test_material.Goals as goal

abbrev x : Start → Material
x s = material_lent s.args.lent

abbrev P : Start → Parameters
P s = parameters s.args.k s.args.public.now

pub returns-in_err-secret : goal.returns-in_err-secret
returns-in_err-secret c =
    let s = (goal.at.returns-in_err-secret c).Start in
    rw (handed_on c.from_residual.result c.from_residual.ensures.1)
    (stopped (P s) c.args.count (x s) c.args.asked c.test_secret-secret.ensures c.wipe.ensures _ _ (ap as_reply c.in_err-secret.was))

pub test_each-requires : goal.test_each-requires
test_each-requires c =
    let z = c.requires.3 in
    let t = c.test_secret-secret.ensures in (
      c.requires.0.numbers,
      length_zeros c.wipe.ensures ∙ t.1 ∙ c.requires.1,
      c.requires.2,
      record {
        secrets = z.secrets;
        masks0 = z.masks0;
        masks1 = z.masks1;
        permutations = z.permutations;
        ballots = z.ballots;
        below = ballots_passed (P (goal.at.test_each-requires c).Start) c.args.count (x (goal.at.test_each-requires c).Start) c.args.asked t.0 (ap as_reply c.in_ok-secret.was);
      },
    )

pub returns : goal.returns
returns c = ended (P (goal.at.returns c).Start) c.args.count (x (goal.at.returns c).Start) c.args.asked c.test_secret-secret.ensures c.wipe.ensures (ap as_reply c.in_ok-secret.was) c.test_each.ensures
