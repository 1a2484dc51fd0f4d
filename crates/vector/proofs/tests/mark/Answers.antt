-- `tests::mark` meets its contract. Assumes nothing.
use mathlib.Core.Path.{sym, ◌∙◌}
use native.Mathlib.Omega.{arith}
use Rattle.vector.specs.Permutation.{entries}
use Rattle.vector.proofs.Vectors.{length_entries}
use Rattle.vector.proofs.Marks.{marked_first, marked_more, marked_all, out_of_range, met_before}
use Rattle.vector.proofs.tests.mark.Goals as goal
use Rattle.vector.proofs.tests.mark.Goals.{then-n-x-via-then-n-x, then-n-x-via-else-n-x+then-work-at-ne0}

pub loop-i-init : goal.loop-i-init
loop-i-init c =
    let a = c.args in
    marked_first (entries a.p.now) a.n a.work.now a.at (length_entries a.p.now ∙ omega arith) (omega arith) c.requires.2

pub returns-then-n-x : goal.returns-then-n-x
returns-then-n-x c =
    let a = c.args in
    let l = c.loop-i in
    let size = length_entries a.p.now in
    elim c.then-n-x.branch [
      | then-n-x-via-then-n-x w ↦ (
        sym (out_of_range (entries a.p.now) a.n a.work.now a.at (omega arith) (omega arith) l.work l.i c.entry-x.result l.invariant (omega arith) c.entry-x.ensures w.if-n-x.true),
        l.invariant.beside,
      )
      | then-n-x-via-else-n-x+then-work-at-ne0 w ↦ (
        sym (met_before (entries a.p.now) a.n a.work.now a.at (omega arith) (omega arith) l.work l.i c.entry-x.result l.invariant (omega arith) c.entry-x.ensures (omega arith) w.if-work-at-ne0.true),
        l.invariant.beside,
      )
    ]

pub loop-i-preserved : goal.loop-i-preserved
loop-i-preserved c =
    let a = c.args in
    let l = c.loop-i in
    marked_more (entries a.p.now) a.n a.work.now a.at (length_entries a.p.now ∙ omega arith) (omega arith) l.work l.i c.entry-x.result l.invariant (omega arith) c.entry-x.ensures (omega arith) (omega arith)

pub returns : goal.returns
returns c =
    let a = c.args in
    let l = c.loop-i in
    (sym (marked_all (entries a.p.now) a.n a.work.now a.at (length_entries a.p.now ∙ omega arith) (omega arith) l.work l.i 0 l.invariant (omega arith)), l.invariant.beside)
