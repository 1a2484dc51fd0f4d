-- `round_produce::produce_second` meets its contract. Assumes nothing.
use mathlib.Core.Path.{◌≡◌, refl, sym, ap, ◌∙◌}
use mathlib.Core.Bool.{Bool, true, ◌&&◌}
use Prim.Native.Nat.{ℕ}
use native.Mathlib.Omega.{arith}
use lib.Dec.{ltb}
use lib.ListN.{length, get_or}
use Rattle.codec.specs.Lists.{all}
use Rattle.codec.proofs.Refusals.{handed_on}
use Rattle.commitment.specs.Parameters.{Parameters, parameters}
use Rattle.round.specs.Round.{is_challenge}
use Rattle.round.specs.Producer.{Material, asked_ranged}
use Rattle.round.specs.Internal.{material_lent}
use Rattle.round.specs.Writes.{SecondRoom, second_room}
use Rattle.round_lengths.specs.Calls.{count_of, second_sized}
use Rattle.round_lengths.proofs.Sizes.{second_sizes}
use Rattle.round_produce.proofs.Testing.{many, second_tested}
use Rattle.round_produce.proofs.Passing.{second_ready}
use Rattle.round_produce.proofs.Written.{second_taken, second_refused}
use Rattle.round_produce.proofs.produce_second.Goals.{Start}
use Rattle.round_produce.proofs.produce_second.Goals as goal

abbrev P : Start → Parameters
P s = parameters s.args.k s.args.public.now

abbrev x : Start → Material
x s = material_lent s.args.lent

abbrev room : Start → SecondRoom
room s = let a = s.args in second_room a.opening.now a.answers.now a.scratch.now

abbrev fit : Start → Bool
fit s = let a = s.args in second_sized a.k.ring a.k.repeats a.challenges.now a.opening.now a.answers.now a.scratch.now

-- there are as many challenges as repetitions where the lengths are right
asks : (s : Start) {fits asked : Bool} → fits ≡ fit s → asked ≡ (ltb s.args.side 2 && all (length s.args.challenges.now) (λ i. is_challenge (get_or s.args.challenges.now i 0)))
    → fits ≡ true → asked ≡ asked_ranged (P s) (count_of s.args.k.ring s.args.lent.ballots.now) (x s) s.args.side s.args.challenges.now
unfolding asked_ranged
asks s e h t =
    let a = s.args in
    let f = second_sizes a.k.ring a.k.repeats a.challenges.now a.opening.now a.answers.now a.scratch.now (sym e ∙ t) in
    h ∙ ap (λ (n : ℕ). ltb a.side 2 && all n (λ i. is_challenge (get_or a.challenges.now i 0))) f.0

pub returns-then-count-gt4096 : goal.returns-then-count-gt4096
returns-then-count-gt4096 c =
    let s = (goal.at.returns-then-count-gt4096 c).Start in
    let m = count_of c.args.k.ring c.args.lent.ballots.now in
    let t = many (P s) (x s) (asked_ranged (P s) m (x s) c.args.side c.args.challenges.now) (fit s) c.args.scratch.now c.count_of-count.ensures refl (omega arith) in
    second_refused c.args.k c.args.public.now (x s) c.args.side c.args.challenges.now (room s) (second_tested (P s) (x s) c.args.side c.args.challenges.now (room s) refl (λ e. refl) t) refl

pub test_call-requires : goal.test_call-requires
test_call-requires c =
    let a = c.args in
    (c.requires, c.count_of-count.ensures, omega (arith, c.if-count-gt4096.false), record { sized = λ e. (second_sizes a.k.ring a.k.repeats a.challenges.now a.opening.now a.answers.now a.scratch.now (sym c.second_sized-fits.ensures ∙ e)).3 })

pub write_second-requires : goal.write_second-requires
write_second-requires c =
    let s = (goal.at.write_second-requires c).Start in
    let t = second_tested (P s) (x s) c.args.side c.args.challenges.now (room s) c.second_sized-fits.ensures (asks s c.second_sized-fits.ensures c.asked_ranged-asked.ensures) c.in_ok-test_call.ensures in
    second_ready c.args.k c.args.public.now (x s) c.requires c.args.side c.args.challenges.now (room s) t refl

pub returns : goal.returns
returns c =
    let s = (goal.at.returns c).Start in
    let t = second_tested (P s) (x s) c.args.side c.args.challenges.now (room s) c.second_sized-fits.ensures (asks s c.second_sized-fits.ensures c.asked_ranged-asked.ensures) c.in_ok-test_call.ensures in
    second_taken c.args.k c.args.public.now (x s) c.args.side c.args.challenges.now (room s) t refl c.write_second.ensures

pub returns-in_err-test_call : goal.returns-in_err-test_call
returns-in_err-test_call c =
    let s = (goal.at.returns-in_err-test_call c).Start in
    let t = second_tested (P s) (x s) c.args.side c.args.challenges.now (room s) c.second_sized-fits.ensures (asks s c.second_sized-fits.ensures c.asked_ranged-asked.ensures) c.in_err-test_call.ensures in
    rw (handed_on c.from_residual.result c.from_residual.ensures.1)
    (second_refused c.args.k c.args.public.now (x s) c.args.side c.args.challenges.now (room s) t refl)
