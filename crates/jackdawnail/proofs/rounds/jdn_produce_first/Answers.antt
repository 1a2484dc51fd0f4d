-- `rounds::jdn_produce_first` meets its contract. Assumes nothing.
use mathlib.Core.Path.{refl, sym}
use Rattle.scratch.proofs.Lent.{lent}
use Rattle.commitment.proofs.Sheets.{sheet_loaded}
use Rattle.round.specs.Producer.{Material, material_of}
use Rattle.round.specs.Writes.{FirstRoom, first_room}
use Rattle.round_produce.proofs.Promises.{first_over, first_unread, first_packed}
use Rattle.jackdawnail.proofs.Answers.{unread}
use Rattle.jackdawnail.proofs.rounds.jdn_produce_first.Goals.{Start}
use Rattle.jackdawnail.proofs.rounds.jdn_produce_first.Goals as goal

abbrev x : Start → Material
x s = let a = s.args in material_of a.secrets.now a.s0.now a.e0.now a.masks0.now a.masks1.now a.vectors.now a.permutations.now a.salts.now a.ballots.now

abbrev room : Start → FirstRoom
room s = let a = s.args in first_room a.head.now a.shares0.now a.shares1.now a.claims.now a.scratch.now

pub returns-in-Err : goal.returns-in-Err
returns-in-Err c = first_packed c.pack-in-Err.ensures (first_unread c.args.sheet.now c.in-Err.ensures.0.0 refl (x (goal.at.returns-in-Err c).Start) (room (goal.at.returns-in-Err c).Start) (unread c.args.sheet.now c.in-Err.why _ c.in-Err.ensures.0 c.finish.ensures))

pub slice_bounds-produce_first-end : goal.slice_bounds-produce_first-end
slice_bounds-produce_first-end c = sym (lent c.args.sheet.now (c.in-Ok.ensures.0.0, c.in-Ok.ensures.1) refl).sized

pub produce_first-requires : goal.produce_first-requires
produce_first-requires c = sheet_loaded (lent c.args.sheet.now (c.in-Ok.ensures.0.0, c.in-Ok.ensures.1) refl)

pub returns-in-Ok : goal.returns-in-Ok
returns-in-Ok c = first_packed c.pack.ensures (first_over c.args.sheet.now (c.in-Ok.ensures.0.0, c.in-Ok.ensures.1) refl (x (goal.at.returns-in-Ok c).Start) (room (goal.at.returns-in-Ok c).Start) c.produce_first.ensures)
