-- `load` meets its contract. Assumes nothing.
use mathlib.Core.Path.{refl, sym, ap, ◌∙◌}
use native.Mathlib.Omega.{arith}
use Rattle.codec.proofs.Refusals.{handed_on}
use Rattle.sheet.specs.Internal.{loaded}
use Rattle.sheet.specs.Sheet.{as_reading}
use Rattle.sheet_numbers.specs.declared.Numbers.{Numbers}
use Rattle.sheet.proofs.Taken.{taken}
use Rattle.sheet.proofs.load.Goals as goal

pub write_lists-requires : goal.write_lists-requires
write_lists-requires c =
    let t = taken c.args.text.now (sym c.read.ensures.0 ∙ ap as_reading c.in_ok-k.was) in
    record { form = t.form; ring = ap (λ (k : Numbers). k.ring) t.numbers; fit = t.fit; space = omega (arith, t.ranged.ring_high) }

pub returns : goal.returns
unfolding loaded
returns c =
    let r = c.in_ok-k.ensures in
    (r, rw (← r.0) c.write_lists.ensures)

pub returns-in_err-k : goal.returns-in_err-k
unfolding loaded
returns-in_err-k c =
    let r = c.in_err-k.ensures in
    rw (handed_on c.from_residual.result c.from_residual.ensures.1) (r, rw (← r.0) refl)
