-- `test_check::check` meets its contract. Assumes nothing.
use mathlib.Core.Path.{refl, sym, ◌∙◌}
use native.Mathlib.Omega.{arith}
use Rattle.round.specs.Round.{Round}
use Rattle.round.specs.Internal.{round_of}
use Rattle.commitment.specs.Parameters.{Parameters, parameters}
use Rattle.round_lengths.proofs.Zeroized.{later_round, zeroized_later, unzeroized}
use Rattle.round_lengths.proofs.Sizes.{check_lengths}
use Rattle.test_check.proofs.Tested.{check_many, check_message, check_second, check_rest}
use Rattle.test_check.proofs.check.Goals.{Start}
use Rattle.test_check.proofs.check.Goals as goal

abbrev P : Start → Parameters
P s = parameters s.args.k s.args.public.now

abbrev x : Start → Round
x s = let a = s.args in round_of a.side a.challenges.now a.ballots.now a.claims.now a.head.now a.shares0.now a.shares1.now a.opening.now a.answers.now

pub returns-then-count-gt4096 : goal.returns-then-count-gt4096
returns-then-count-gt4096 c =
    (check_many (P (goal.at.returns-then-count-gt4096 c).Start) (x (goal.at.returns-then-count-gt4096 c).Start) c.args.scratch.now c.count_of-count.ensures refl (omega (arith, c.if-count-gt4096.true)), unzeroized refl)

pub returns-then-not-message_sized : goal.returns-then-not-message_sized
returns-then-not-message_sized c =
    let z = c.message_sized in
    (check_message (P (goal.at.returns-then-not-message_sized c).Start) (x (goal.at.returns-then-not-message_sized c).Start) c.args.scratch.now c.count_of-count.ensures refl (omega (arith, c.if-count-gt4096.false)) z.ensures c.if-not-message_sized.true, unzeroized refl)

pub returns-then-not-second_sized : goal.returns-then-not-second_sized
returns-then-not-second_sized c =
    let z = c.message_sized in
    let t = c.second_sized in
    (check_second (P (goal.at.returns-then-not-second_sized c).Start) (x (goal.at.returns-then-not-second_sized c).Start) c.args.scratch.now c.count_of-count.ensures refl (omega (arith, c.if-count-gt4096.false)) z.ensures c.if-not-message_sized.false t.ensures c.if-not-second_sized.true, unzeroized refl)

pub check_round-requires : goal.check_round-requires
check_round-requires c =
    let z = c.message_sized in
    let t = c.second_sized in
    let l = check_lengths (P (goal.at.check_round-requires c).Start) (x (goal.at.check_round-requires c).Start) c.args.scratch.now c.count_of-count.result (sym z.ensures ∙ c.if-not-message_sized.false) (sym t.ensures ∙ c.if-not-second_sized.false) in
    (c.requires, l.1, omega (arith, c.if-count-gt4096.false), l.0)

pub returns : goal.returns
returns c =
    let z = c.message_sized in
    let t = c.second_sized in
    let e = c.check_round.ensures in (
      check_rest (P (goal.at.returns c).Start) (x (goal.at.returns c).Start) c.args.scratch.now c.count_of-count.ensures (omega (arith, c.if-count-gt4096.false)) z.ensures c.if-not-message_sized.false t.ensures c.if-not-second_sized.false e.replied,
      e.cleared ∙ sym (zeroized_later _ (later_round _ _ _) _ e.replied _),
    )
