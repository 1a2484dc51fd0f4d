-- `drawing::challenges` meets its contract. Assumes nothing.
use mathlib.Core.Path.{◌≡◌, refl, sym, ap, ◌∙◌}
use Prim.Native.Nat.{ℕ, ◌+◌, ◌*◌, ◌/◌, ◌%◌}
use native.Mathlib.Omega.{arith}
use lib.ListN.{length, set, length-set}
use Rattle.codec.specs.Bytes.{Bytes, number, part}
use Rattle.session_digests.specs.Draw as def
use Rattle.session_digests.proofs.Range.{length_block}
use Rattle.session_digests.proofs.Drawn.{drawn, drawn_first, drawn_more, drawn_all}
use Rattle.session_digests.proofs.drawing.challenges.Goals.{Joined-i-eq0, then-i-eq0, else-i-eq0}
use Rattle.session_digests.proofs.drawing.challenges.Goals as goal

-- the digest that holds number i + 1
renewed : (c : Joined-i-eq0)
    → c.if-i-eq0.digest ≡ def.block c.args.seed.now c.args.round ((c.loop-i.i + 1) / 4)
renewed c =
    let a = c.args in
    let i = c.loop-i.i in
    elim c.if-i-eq0.branch [
      | then-i-eq0 w ↦ w.digest-is ∙ w.block-next.ensures
      | else-i-eq0 w ↦ (let e : i / 4 ≡ (i + 1) / 4 = omega arith in w.digest-is ∙ c.loop-i.invariant.2 ∙ ap (def.block a.seed.now a.round) e)
    ]

renewed-length : (c : Joined-i-eq0) → length c.if-i-eq0.digest ≡ 32
renewed-length c = ap length (renewed c) ∙ length_block c.args.seed.now c.args.round ((c.loop-i.i + 1) / 4)

pub loop-i-init : goal.loop-i-init
loop-i-init c =
    let a = c.args in
    let e = c.block-digest.ensures in
    (drawn_first a.seed.now a.round a.out.now, refl, e, ap length e ∙ length_block a.seed.now a.round 0)

pub slice_bounds-read64-end : goal.slice_bounds-read64-end
slice_bounds-read64-end c = sym (renewed-length (goal.at.slice_bounds-read64-end c).Joined-i-eq0)

pub read64-requires : goal.read64-requires
read64-requires c = omega (arith, renewed-length (goal.at.read64-requires c).Joined-i-eq0)

pub loop-i-preserved : goal.loop-i-preserved
unfolding def.stream
loop-i-preserved c =
    let a = c.args in
    let l = c.loop-i in
    let i = l.i in
    let v = c.read64.ensures ∙ ap (λ (s : Bytes). number (part s (8 * ((i + 1) % 4)) 8)) (renewed (goal.at.loop-i-preserved c).Joined-i-eq0) in (
      ap (λ (s : Bytes). set s i (c.read64.result % 3 + 1)) l.invariant.0
          ∙ drawn_more a.seed.now a.round a.out.now i (c.read64.result % 3 + 1) (omega arith) (ap (λ (n : ℕ). n % 3 + 1) v),
      simp length-set (omega arith),
      renewed (goal.at.loop-i-preserved c).Joined-i-eq0,
      renewed-length (goal.at.loop-i-preserved c).Joined-i-eq0,
    )

pub returns : goal.returns
returns c =
    let a = c.args in
    let l = c.loop-i in
    l.invariant.0 ∙ ap (drawn a.seed.now a.round a.out.now) (omega arith) ∙ drawn_all a.seed.now a.round a.out.now
