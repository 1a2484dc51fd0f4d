-- `vector::gather_extended` meets its contract. Assumes nothing.
use mathlib.Core.Path.{◌≡◌, ap, ◌∙◌}
use Prim.Native.Nat.{◌<◌}
use native.Mathlib.Omega.{arith}
use borrow.Author.Rules.{rules}
use lib.ListN.{length}
use lib.Seq.{paste}
use Rattle.codec.proofs.Laws.{paste_all}
use Rattle.vector.specs.Permutation.{entries, apply, extend}
use Rattle.vector.proofs.Vectors.{length_entries, length_apply}
use Rattle.vector.proofs.Gathers.{paste_more, entry_lt, gathered}
use Rattle.vector.proofs.gather_extended.Goals as goal

pub extended-b-requires : goal.extended-b-requires
extended-b-requires c =
    let a = c.args in
    let h : c.entry.result < a.n = rw c.entry.ensures (entry_lt a.p.now a.n c.loop-i.i c.requires.p_len.2 (omega arith)) in
    search rules

pub loop-i-preserved : goal.loop-i-preserved
loop-i-preserved c =
    let a = c.args in
    let l = c.loop-i in
    let y = extend (length a.x.now) a.x.now in
    let k = length_apply (entries a.p.now) y ∙ length_entries a.p.now in
    paste_more a.out.now l.out a.at (apply (entries a.p.now) y) l.i _ l.invariant (omega arith) (omega arith) (gathered (entries a.p.now) y l.i _ _ (omega (arith, length_entries a.p.now)) c.entry.ensures c.extended-b.ensures)

pub returns : goal.returns
returns c =
    let a = c.args in
    let l = c.loop-i in
    let y = apply (entries a.p.now) (extend (length a.x.now) a.x.now) in
    let k = length_apply (entries a.p.now) (extend (length a.x.now) a.x.now) ∙ length_entries a.p.now in
    let e : l.i ≡ length y = omega arith in
    l.invariant ∙ ap (paste a.out.now a.at y) e ∙ paste_all a.out.now a.at y
