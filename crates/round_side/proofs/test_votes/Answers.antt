-- `round_side::test_votes` meets its contract. Assumes nothing.
use mathlib.Core.Path.{ap, ◌∙◌}
use Prim.Native.Nat.{◌-◌, ◌*◌}
use native.Mathlib.Omega.{arith}
use Rattle.codec.specs.Reply.{first}
use Rattle.sheet_numbers.specs.Plain.{plain, mask_bound_of}
use Rattle.round.specs.Round.{of_side}
use Rattle.round_side.proofs.Parts.{lent_on, alike_s, votes_alike}
use Rattle.round_side.proofs.test_votes.Goals as goal

pub test_ballots-requires : goal.test_ballots-requires
test_ballots-requires c =
    let a = c.args in
    let p = c.requires in
    (lent_on a.opening.now 0 (8 * a.k.ring - 0) (omega arith) p.1.s, p.0, p.2, p.3, p.4, p.5, p.6, p.7)

pub returns : goal.returns
returns c =
    let a = c.args in
    let n = a.k.ring in
    let q = a.k.modulus in
    let t = c.test_ballots.ensures in
    record {
      replied = t.replied ∙ ap first (votes_alike q n (plain a.k) (mask_bound_of a.k) a.count a.ballots.now a.claims.now a.shares0.now a.shares1.now (of_side a.side a.shares0.now a.shares1.now) (alike_s n q a.opening.now c.requires.1 (8 * n - 0) (omega arith)));
      cleared = t.cleared;
    }
