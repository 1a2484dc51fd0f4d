-- `rounds::jdn_extract` meets its contract. Assumes nothing.
use mathlib.Core.Path.{refl, sym}
use Rattle.scratch.proofs.Lent.{lent}
use Rattle.commitment.proofs.Sheets.{sheet_loaded}
use Rattle.round.specs.Extractor.{Openings, openings_of, ExtractRoom, extract_room}
use Rattle.round_extract.proofs.Given.{extract_over, extract_unread, extract_packed}
use Rattle.jackdawnail.proofs.Answers.{unread}
use Rattle.jackdawnail.proofs.rounds.jdn_extract.Goals.{Start}
use Rattle.jackdawnail.proofs.rounds.jdn_extract.Goals as goal

abbrev x : Start → Openings
x s = let a = s.args in openings_of a.head.now a.shares0.now a.shares1.now a.ballots.now a.claims.now a.opening0.now a.opening1.now a.repetition a.answer1.now a.answer2.now a.answer3.now

abbrev room : Start → ExtractRoom
room s = extract_room s.args.out.now s.args.scratch.now

pub returns-in-Err : goal.returns-in-Err
returns-in-Err c = extract_unread c.args.sheet.now c.in-Err.ensures.0.0 refl (x (goal.at.returns-in-Err c).Start) (room (goal.at.returns-in-Err c).Start) (unread c.args.sheet.now c.in-Err.why _ c.in-Err.ensures.0 c.finish.ensures) c.pack.ensures

pub slice_bounds-extract-end : goal.slice_bounds-extract-end
slice_bounds-extract-end c = sym (lent c.args.sheet.now (c.in-Ok.ensures.0.0, c.in-Ok.ensures.1) refl).sized

pub extract-requires : goal.extract-requires
extract-requires c = sheet_loaded (lent c.args.sheet.now (c.in-Ok.ensures.0.0, c.in-Ok.ensures.1) refl)

pub returns-in-Ok : goal.returns-in-Ok
returns-in-Ok c = extract_packed c.pack_extraction.ensures (extract_over c.args.sheet.now (c.in-Ok.ensures.0.0, c.in-Ok.ensures.1) refl (x (goal.at.returns-in-Ok c).Start) (room (goal.at.returns-in-Ok c).Start) c.extract.ensures)
