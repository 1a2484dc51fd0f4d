-- `extract` meets its contract. Assumes nothing.
use mathlib.Core.Path.{refl, sym, ◌∙◌}
use native.Mathlib.Omega.{arith}
use Rattle.codec.specs.Bytes.{Octets}
use Rattle.codec.proofs.Refusals.{handed_on}
use Rattle.scratch.proofs.Zeroizing.{zeroized_taken}
use Rattle.commitment.specs.Parameters.{Parameters, parameters}
use Rattle.round.specs.Extractor.{Openings, openings_of, ExtractRoom, extract_room}
use Rattle.round.proofs.Wiped.{still}
use Rattle.round_lengths.specs.Calls.{count_of}
use Rattle.round_extract.proofs.Ready.{search_ready}
use Rattle.round_extract.proofs.Extracted.{extract_taken, extract_refused}
use Rattle.round_extract.proofs.extract.Goals.{Start}
use Rattle.round_extract.proofs.extract.Goals as goal

abbrev P : Start → Parameters
P s = parameters s.args.k s.args.public.now

abbrev x : Start → Openings
x s = let a = s.args in openings_of a.head.now a.shares0.now a.shares1.now a.ballots.now a.claims.now a.opening0.now a.opening1.now a.repetition a.answer1.now a.answer2.now a.answer3.now

abbrev room : Start → ExtractRoom
room s = extract_room s.args.out.now s.args.scratch.now

pub find-requires : goal.find-requires
find-requires c =
    let a = c.args in
    let p = c.requires in
    let o : Octets a.head.now = λ i l. omega (arith, c.shared_slice_known-2-1.given i) in
    let e = c.in_ok-openings_tests.ensures in
    let r = search_ready (P (goal.at.find-requires c).Start) (x (goal.at.find-requires c).Start) (room (goal.at.find-requires c).Start) p.a o (sym e.0) in
    (p, still (e.1 ∙ zeroized_taken _ a.scratch.now refl) ∙ r.0.0, r.0.1, r.0.2, r.0.3, r.0.4, r.1.0, r.1.1)

pub returns : goal.returns
returns c =
    let a = c.args in
    let e = c.in_ok-openings_tests.ensures in
    let f = c.find.ensures in
    let m = count_of a.k.ring a.ballots.now in
    extract_taken (P (goal.at.returns c).Start) (x (goal.at.returns c).Start) (room (goal.at.returns c).Start) e.0 e.1 refl (f.0.kind_is m a.shares0.now a.shares1.now a.ballots.now a.claims.now a.repetition) (f.0.out_is m a.shares0.now a.shares1.now a.ballots.now a.claims.now a.repetition) f.1

pub returns-in_err-openings_tests : goal.returns-in_err-openings_tests
returns-in_err-openings_tests c =
    let e = c.in_err-openings_tests.ensures in
    rw (handed_on c.from_residual.result c.from_residual.ensures.1)
    (extract_refused (P (goal.at.returns-in_err-openings_tests c).Start) (x (goal.at.returns-in_err-openings_tests c).Start) (room (goal.at.returns-in_err-openings_tests c).Start) e.0 e.1 refl)
