-- `halves::opens_pairs` meets its contract. Assumes nothing.
use mathlib.Core.Path.{sym, ap, ◌∙◌}
use mathlib.Core.Bool.{Bool, ◌&&◌}
use Rattle.codec.specs.Bytes.{zeros}
use Rattle.ring.specs.Slots.{poly}
use Rattle.commitment.specs.Commitment.{keys_of, three_of, opens}
use Rattle.round_tests.proofs.halves.opens_pairs.Goals as goal

pub returns-then-opens : goal.returns-then-opens
returns-then-opens c =
    let a = c.args in (
      c.opens-both.ensures.0
          ∙ ap (λ (x : Bool). x && opens a.q a.n (keys_of a.n a.k.now) a.second.now (three_of a.q a.n a.re.now) (poly a.e.now)) (sym (sym c.opens.ensures.0 ∙ c.if-opens.true)),
      c.wipe.ensures ∙ ap zeros (c.opens-both.ensures.1 ∙ c.opens.ensures.1),
    )

pub returns : goal.returns
returns c =
    let a = c.args in (
      ap (λ (x : Bool). x && opens a.q a.n (keys_of a.n a.k.now) a.second.now (three_of a.q a.n a.re.now) (poly a.e.now)) (sym (sym c.opens.ensures.0 ∙ c.if-opens.false)),
      c.wipe-2.ensures ∙ ap zeros c.opens.ensures.1,
    )
