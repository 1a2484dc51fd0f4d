-- `round_head::pair_difference` meets its contract. Assumes nothing.
use mathlib.Core.Path.{◌∙◌}
use native.Mathlib.Omega.{arith}
use Rattle.commitment.specs.Commitment.{keys_of}
use Rattle.round_head.proofs.CommittedPairs.{subtract_asks, commit_asks, other_committed}
use Rattle.round_head.proofs.pair_difference.Goals as goal

pub subtract-requires : goal.subtract-requires
subtract-requires c =
    let a = c.args in
    let p = c.requires in
    let l = c.load_three in
    let t = c.load_ternary in
    let h = subtract_asks a.q a.n a.work.now l.new.work t.new.work a.x.now a.x0.now a.r.now p.1 p.4 (l.auto.work ∙ p.4) p.2 l.ensures t.ensures in
    (p.1.modulus_high, h.0, omega (arith, p.1.sized), h.1, p.1.below)

pub commit-requires : goal.commit-requires
commit-requires c =
    let a = c.args in
    let p = c.requires in
    let l = c.load_three in
    let t = c.load_ternary in
    let s = c.subtract in
    let h = commit_asks a.q a.n a.work.now l.new.work t.new.work a.x.now a.x0.now a.r.now p.1 p.4 (l.auto.work ∙ p.4) p.2 l.ensures t.ensures s.new.work s.ensures in
    record { public_keys = (p.0, h.0); below = h.1 }

pub returns : goal.returns
returns c =
    let a = c.args in
    let p = c.requires in
    let l = c.load_three in
    let t = c.load_ternary in
    let s = c.subtract in
    other_committed a.q a.n a.work.now l.new.work t.new.work a.x.now a.x0.now a.r.now p.1 p.4 (l.auto.work ∙ p.4) p.2 l.ensures t.ensures s.new.work s.ensures (keys_of a.n a.k.now) c.commit.new.work c.commit.ensures
