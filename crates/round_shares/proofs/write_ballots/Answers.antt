-- `round_shares::write_ballots` meets its contract. Assumes nothing.
use mathlib.Core.Path.{sym, ap, ◌∙◌}
use native.Mathlib.Omega.{arith}
use Rattle.codec.specs.Bytes.{zeros}
use Rattle.sheet_numbers.specs.Plain.{plain}
use Rattle.round_shares.proofs.BallotWriting.{sent_first, ballot_stands, room_fits, sent_more, sent_all}
use Rattle.round_shares.proofs.write_ballots.Goals as goal

pub loop-j-init : goal.loop-j-init
loop-j-init c =
    let a = c.args in
    sent_first a.k.modulus a.k.ring (plain a.k) a.count a.lent.secrets.now a.lent.s0.now a.lent.masks0.now a.lent.masks1.now a.lent.ballots.now a.shares0.now a.shares1.now a.claims.now a.work.now c.requires.8

pub ballot_at-requires : goal.ballot_at-requires
ballot_at-requires c =
    let a = c.args in
    let p = c.requires in
    let l = c.loop-j in
    let x = ballot_stands a.k.modulus a.k.ring (plain a.k) a.count a.lent.secrets.now a.lent.s0.now a.lent.masks0.now a.lent.masks1.now a.lent.ballots.now a.shares0.now a.shares1.now a.claims.now p.4 p.5 p.6 p.7 l.j l.shares0 l.shares1 l.claims l.work l.invariant (omega arith) in
    let y = room_fits a.k.modulus a.k.ring (plain a.k) a.count a.lent.secrets.now a.lent.s0.now a.lent.masks0.now a.lent.masks1.now a.lent.ballots.now a.shares0.now a.shares1.now a.claims.now p.4 p.5 p.6 p.7 l.j l.shares0 l.shares1 l.claims l.work l.invariant (omega arith) in
    (p.0, p.1, p.2, x, y)

pub loop-j-preserved : goal.loop-j-preserved
loop-j-preserved c =
    let a = c.args in
    let p = c.requires in
    let l = c.loop-j in
    let b = c.ballot_at in
    sent_more a.k.modulus a.k.ring (plain a.k) a.count a.lent.secrets.now a.lent.s0.now a.lent.masks0.now a.lent.masks1.now a.lent.ballots.now a.shares0.now a.shares1.now a.claims.now p.4 p.5 p.6 p.7 l.j l.shares0 l.shares1 l.claims l.work l.invariant (omega arith)
    b.new.shares0 b.new.shares1 b.new.claims b.new.work b.auto.shares0 b.auto.shares1 b.auto.claims b.ensures.kept b.ensures.shares0 b.ensures.shares1 b.ensures.claims

pub shape_of-shares0 : goal.shape_of-shares0
shape_of-shares0 c = c.loop-j.invariant.lent.long

pub shape_of-shares1 : goal.shape_of-shares1
shape_of-shares1 c = c.loop-j.invariant.others.long

pub shape_of-claims : goal.shape_of-claims
shape_of-claims c = c.loop-j.invariant.votes.long

pub shape_of-work : goal.shape_of-work
shape_of-work c = omega (arith, c.loop-j.invariant.long, c.requires.8)

pub returns : goal.returns
returns c =
    let a = c.args in
    let p = c.requires in
    let l = c.loop-j in
    let e = sent_all a.k.modulus a.k.ring (plain a.k) a.count a.lent.secrets.now a.lent.s0.now a.lent.masks0.now a.lent.masks1.now a.lent.ballots.now a.shares0.now a.shares1.now a.claims.now p.5 p.6 p.7 l.j l.shares0 l.shares1 l.claims l.work l.invariant (omega arith) in
    record { shares0 = e.0; shares1 = e.1; claims = e.2; cleared = c.wipe.ensures ∙ ap zeros (l.invariant.long ∙ sym p.8) }
