-- `rounds::jdn_produce_second` meets its contract. Assumes nothing.
use mathlib.Core.Path.{refl, sym}
use Rattle.scratch.proofs.Lent.{lent}
use Rattle.commitment.proofs.Sheets.{sheet_loaded}
use Rattle.round.specs.Producer.{Material, material_of}
use Rattle.round.specs.Writes.{SecondRoom, second_room}
use Rattle.round_produce.proofs.Promises.{second_over, second_unread, second_packed}
use Rattle.jackdawnail.proofs.Answers.{unread}
use Rattle.jackdawnail.proofs.rounds.jdn_produce_second.Goals.{Start}
use Rattle.jackdawnail.proofs.rounds.jdn_produce_second.Goals as goal

abbrev x : Start → Material
x s = let a = s.args in material_of a.secrets.now a.s0.now a.e0.now a.masks0.now a.masks1.now a.vectors.now a.permutations.now a.salts.now a.ballots.now

abbrev room : Start → SecondRoom
room s = let a = s.args in second_room a.opening.now a.answers.now a.scratch.now

pub returns-in-Err : goal.returns-in-Err
returns-in-Err c = second_packed c.pack-in-Err.ensures (second_unread c.args.sheet.now c.in-Err.ensures.0.0 refl (x (goal.at.returns-in-Err c).Start) c.args.side c.args.challenges.now (room (goal.at.returns-in-Err c).Start) (unread c.args.sheet.now c.in-Err.why _ c.in-Err.ensures.0 c.finish.ensures))

pub slice_bounds-produce_second-end : goal.slice_bounds-produce_second-end
slice_bounds-produce_second-end c = sym (lent c.args.sheet.now (c.in-Ok.ensures.0.0, c.in-Ok.ensures.1) refl).sized

pub produce_second-requires : goal.produce_second-requires
produce_second-requires c = sheet_loaded (lent c.args.sheet.now (c.in-Ok.ensures.0.0, c.in-Ok.ensures.1) refl)

pub returns-in-Ok : goal.returns-in-Ok
returns-in-Ok c = second_packed c.pack.ensures (second_over c.args.sheet.now (c.in-Ok.ensures.0.0, c.in-Ok.ensures.1) refl (x (goal.at.returns-in-Ok c).Start) c.args.side c.args.challenges.now (room (goal.at.returns-in-Ok c).Start) c.produce_second.ensures)
