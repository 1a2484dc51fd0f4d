-- `round_extract::openings_tests` meets its contract. Assumes nothing.
use mathlib.Core.Path.{refl, sym, ◌∙◌}
use native.Mathlib.Omega.{arith}
use Rattle.codec.specs.Bytes.{Octets}
use Rattle.commitment.specs.Parameters.{Parameters, parameters}
use Rattle.round.specs.Extractor.{Openings, openings_of, ExtractRoom, extract_room}
use Rattle.round_lengths.proofs.Zeroized.{later_openings, zeroized_later, unzeroized}
use Rattle.round_extract.proofs.Tested.{extract_many, extract_message, extract_openings, extract_rest, extract_lengths}
use Rattle.round_extract.proofs.openings_tests.Goals.{Start}
use Rattle.round_extract.proofs.openings_tests.Goals as goal

abbrev P : Start → Parameters
P s = parameters s.args.k s.args.public.now

abbrev x : Start → Openings
x s = let a = s.args in openings_of a.head.now a.shares0.now a.shares1.now a.ballots.now a.claims.now a.opening0.now a.opening1.now a.repetition a.answer1.now a.answer2.now a.answer3.now

abbrev room : Start → ExtractRoom
room s = extract_room s.args.out.now s.args.scratch.now

pub returns-then-count-gt-MOST_BALLOTS : goal.returns-then-count-gt-MOST_BALLOTS
returns-then-count-gt-MOST_BALLOTS c =
    (extract_many (P (goal.at.returns-then-count-gt-MOST_BALLOTS c).Start) (x (goal.at.returns-then-count-gt-MOST_BALLOTS c).Start) (room (goal.at.returns-then-count-gt-MOST_BALLOTS c).Start) c.count_of-count.ensures refl (omega (arith, c.if-count-gt-MOST_BALLOTS.true)), unzeroized refl)

pub returns-then-not-message_sized : goal.returns-then-not-message_sized
returns-then-not-message_sized c =
    let z = c.message_sized in
    (extract_message (P (goal.at.returns-then-not-message_sized c).Start) (x (goal.at.returns-then-not-message_sized c).Start) (room (goal.at.returns-then-not-message_sized c).Start) c.count_of-count.ensures refl (omega (arith, c.if-count-gt-MOST_BALLOTS.false)) z.ensures c.if-not-message_sized.true, unzeroized refl)

pub returns-then-not-openings_sized : goal.returns-then-not-openings_sized
returns-then-not-openings_sized c =
    let z = c.message_sized in
    let t = c.openings_sized in
    (extract_openings (P (goal.at.returns-then-not-openings_sized c).Start) (x (goal.at.returns-then-not-openings_sized c).Start) (room (goal.at.returns-then-not-openings_sized c).Start) c.count_of-count.ensures refl (omega (arith, c.if-count-gt-MOST_BALLOTS.false)) z.ensures c.if-not-message_sized.false t.ensures c.if-not-openings_sized.true, unzeroized refl)

pub check_openings-requires : goal.check_openings-requires
check_openings-requires c =
    let z = c.message_sized in
    let t = c.openings_sized in
    let o : Octets c.args.head.now = λ i l. omega (arith, c.shared_slice_known-2-1.given i) in
    let l = extract_lengths (P (goal.at.check_openings-requires c).Start) (x (goal.at.check_openings-requires c).Start) (room (goal.at.check_openings-requires c).Start) c.count_of-count.result o (sym z.ensures ∙ c.if-not-message_sized.false) (sym t.ensures ∙ c.if-not-openings_sized.false) in
    (c.requires, l.2, omega (arith, c.if-count-gt-MOST_BALLOTS.false), l.0)

pub returns : goal.returns
returns c =
    let z = c.message_sized in
    let t = c.openings_sized in
    let e = c.check_openings.ensures in (
      extract_rest (P (goal.at.returns c).Start) (x (goal.at.returns c).Start) (room (goal.at.returns c).Start) c.count_of-count.ensures (omega (arith, c.if-count-gt-MOST_BALLOTS.false)) z.ensures c.if-not-message_sized.false t.ensures c.if-not-openings_sized.false e.replied,
      e.cleared ∙ sym (zeroized_later _ (later_openings _ _ _) _ e.replied _),
    )
