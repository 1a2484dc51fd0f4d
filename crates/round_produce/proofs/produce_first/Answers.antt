-- `round_produce::produce_first` meets its contract. Assumes nothing.
use mathlib.Core.Path.{refl, sym, ◌∙◌}
use mathlib.Core.Bool.{true}
use native.Mathlib.Omega.{arith}
use Rattle.codec.proofs.Refusals.{handed_on}
use Rattle.commitment.specs.Parameters.{Parameters, parameters}
use Rattle.round.specs.Producer.{Material}
use Rattle.round.specs.Internal.{material_lent}
use Rattle.round.specs.Writes.{FirstRoom, first_room}
use Rattle.round_lengths.specs.Calls.{first_sized}
use Rattle.round_lengths.proofs.Sizes.{first_sizes}
use Rattle.round_produce.proofs.Testing.{many, first_tested}
use Rattle.round_produce.proofs.Passing.{first_ready}
use Rattle.round_produce.proofs.Written.{first_taken, first_refused}
use Rattle.round_produce.proofs.produce_first.Goals.{Start}
use Rattle.round_produce.proofs.produce_first.Goals as goal

abbrev P : Start → Parameters
P s = parameters s.args.k s.args.public.now

abbrev x : Start → Material
x s = material_lent s.args.lent

abbrev room : Start → FirstRoom
room s = let a = s.args in first_room a.head.now a.shares0.now a.shares1.now a.claims.now a.scratch.now

pub returns-then-count-gt4096 : goal.returns-then-count-gt4096
returns-then-count-gt4096 c =
    let s = (goal.at.returns-then-count-gt4096 c).Start in
    let t = many (P s) (x s) true (first_sized c.args.k.ring c.args.k.repeats c.count_of-count.result (room s)) c.args.scratch.now c.count_of-count.ensures refl (omega arith) in
    first_refused (P s) (x s) (room s) (first_tested (P s) (x s) (room s) c.count_of-count.ensures refl t) refl

pub test_call-requires : goal.test_call-requires
test_call-requires c =
    let s = (goal.at.test_call-requires c).Start in
    let a = c.args in
    (c.requires, c.count_of-count.ensures, omega (arith, c.if-count-gt4096.false), record { sized = λ e. (first_sizes a.k.ring a.k.repeats c.count_of-count.result (room s) (sym c.first_sized-fits.ensures ∙ e)).4 })

pub write_first-requires : goal.write_first-requires
write_first-requires c =
    let s = (goal.at.write_first-requires c).Start in
    let t = first_tested (P s) (x s) (room s) c.count_of-count.ensures c.first_sized-fits.ensures c.in_ok-test_call.ensures in
    (c.requires, first_ready c.args.k c.args.public.now (x s) c.requires (room s) t refl)

pub returns : goal.returns
returns c =
    let s = (goal.at.returns c).Start in
    first_taken (P s) (x s) (room s) (first_tested (P s) (x s) (room s) c.count_of-count.ensures c.first_sized-fits.ensures c.in_ok-test_call.ensures) refl c.write_first.ensures

pub returns-in_err-test_call : goal.returns-in_err-test_call
returns-in_err-test_call c =
    let s = (goal.at.returns-in_err-test_call c).Start in
    rw (handed_on c.from_residual.result c.from_residual.ensures.1)
    (first_refused (P s) (x s) (room s) (first_tested (P s) (x s) (room s) c.count_of-count.ensures c.first_sized-fits.ensures c.in_err-test_call.ensures) refl)
