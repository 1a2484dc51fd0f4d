-- `inputs_sized` meets its contract. Assumes nothing.
use mathlib.Core.Path.{ap, ◌∙◌}
use Rattle.codec.specs.Bytes.{Bytes}
use Rattle.scratch.proofs.Order.{fails, goes_on}
use Rattle.round_lengths.specs.Calls.{second_sized}
use Rattle.session_check.specs.Stored.{inputs_sized}
use Rattle.session_check.proofs.stored.inputs_sized.Goals as goal

pub message_sized-requires : goal.message_sized-requires
message_sized-requires c = let w = c.requires.0 in let r = w.0 in (r.ring_high, w.1, r.repeats_high)

pub returns-then-not-message_sized : goal.returns-then-not-message_sized
unfolding inputs_sized
returns-then-not-message_sized c = fails _ _ c.message_sized.ensures c.if-not-message_sized.true

pub second_sized-requires : goal.second_sized-requires
second_sized-requires c = let r = c.requires.0.0 in (r.ring_high, r.repeats_high)

pub returns : goal.returns
unfolding inputs_sized
returns c =
    let a = c.args in
    let drawn = c.requires.1 in
    let sized = c.second_sized.ensures ∙ ap (λ (d : Bytes). second_sized a.held.numbers.ring a.held.numbers.repeats d a.lent.opening.now a.lent.answers.now a.scratch.now) drawn in
    goes_on _ _ c.message_sized.ensures c.if-not-message_sized.false sized
