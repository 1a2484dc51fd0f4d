-- `sheet_lines::scan_lines` meets its contract. Assumes nothing.
use mathlib.Core.Path.{refl, sym, ap, ◌∙◌}
use native.Mathlib.Omega.{arith}
use borrow.Author.Rules.{rules}
use lib.ListN.{length-set}
use Rattle.sheet_lines.specs.Internal.{scanned}
use Rattle.sheet_lines.proofs.Blocks.{starts, stops, goes_on, all, five_keys, key_at_lem}
use Rattle.sheet_lines.proofs.scan_lines.Goals as goal

pub loop-i-init : goal.loop-i-init
loop-i-init c = (refl, refl, starts refl refl)

pub returns-in_default : goal.returns-in_default
returns-in_default c =
    let a = c.args in
    let n = five_keys a.from c.requires in
    stops c.loop-i.invariant.2 (omega arith)
    (rw (key_at_lem a.from c.requires c.loop-i.i c.loop-i-test.true) (sym (ap (scanned a.text.now) c.in_default.is) ∙ search rules))

pub loop-i-preserved : goal.loop-i-preserved
loop-i-preserved c =
    let a = c.args in
    let n = five_keys a.from c.requires in (
      simp length-set c.loop-i.invariant.0,
      simp length-set c.loop-i.invariant.1,
      goes_on c.loop-i.invariant.2 (omega arith) c.loop-i-test.true
          (rw (key_at_lem a.from c.requires c.loop-i.i c.loop-i-test.true) (sym (ap (scanned a.text.now) c.in-Some.is) ∙ search rules)),
    )

pub returns : goal.returns
returns c =
    let n = five_keys c.args.from c.requires in
    all c.loop-i.invariant.2 (omega arith) (omega arith)
