-- `answers_length` meets its contract. Assumes nothing.
use mathlib.Core.Path.{refl, sym, ap, ap₂, ◌∙◌}
use Prim.Native.Nat.{ℕ, ◌+◌}
use native.Mathlib.Numerals.{add-one}
use native.Mathlib.Omega.{arith}
use lib.ListN.{take, get_or}
use Rattle.round.specs.Layout.{answers_length}
use Rattle.round.proofs.Answers.{answers_length_more, one_le}
use Rattle.round_lengths.proofs.answers_length.Goals as goal

pub loop-challenge-init : goal.loop-challenge-init
unfolding answers_length
loop-challenge-init c = (refl, omega arith)

pub loop-challenge-preserved : goal.loop-challenge-preserved
loop-challenge-preserved c =
    let l = c.loop-challenge in
    let a = c.args in
    let i = l.challenge-index in
    let e = c.answer_length-sum.ensures in (
      ap₂ ◌+◌ l.invariant.0 e ∙ sym (answers_length_more a.n a.challenges.now i (omega arith)) ∙ ap (λ (j : ℕ). answers_length a.n (take j a.challenges.now)) (sym (add-one i)),
      omega (arith, l.invariant.1, e, one_le a.n (get_or a.challenges.now i 0), c.requires.0),
    )
