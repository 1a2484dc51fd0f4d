-- `write_first` meets its contract. Assumes nothing.
use Rattle.round.specs.Producer.{Material}
use Rattle.round.specs.Internal.{material_lent}
use Rattle.round.specs.Writes.{FirstRoom, first_room}
use Rattle.round_write.proofs.Produced.{first_produced, ballots_asked}
use Rattle.round_write.proofs.write_first.Goals.{Start}
use Rattle.round_write.proofs.write_first.Goals as goal

abbrev x : Start → Material
x s = material_lent s.args.lent

abbrev room : Start → FirstRoom
room s = let a = s.args in first_room a.head.now a.shares0.now a.shares1.now a.claims.now a.scratch.now

pub write_head-requires : goal.write_head-requires
write_head-requires c = let p = c.requires.0 in let r = c.requires.1 in (p, r.s0, r.e0, r.scratch, r.head, r.drawings)

pub count_of-count-requires : goal.count_of-count-requires
count_of-count-requires c = c.requires.0.numbers.in_range.ring_high

pub write_ballots-requires : goal.write_ballots-requires
write_ballots-requires c =
    ballots_asked c.args.k (x (goal.at.write_ballots-requires c).Start) (room (goal.at.write_ballots-requires c).Start) c.requires.0.numbers c.requires.1 c.count_of-count.ensures _ c.write_head.ensures.1

pub returns : goal.returns
returns c =
    let b = c.write_ballots in
    first_produced c.args.k c.args.public.now (x (goal.at.returns c).Start) c.count_of-count.ensures (room (goal.at.returns c).Start)
    (first_room c.write_head.new.head b.new.shares0 b.new.shares1 b.new.claims b.new.work) c.write_head.new.work
    c.write_head.ensures b.ensures
