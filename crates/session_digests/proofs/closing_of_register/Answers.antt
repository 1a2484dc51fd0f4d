-- `closing_of_register` meets its contract. The loop's invariant: the sheet's digest and the digests of the standing entries passed are taken in. Assumes nothing.
use mathlib.Core.Path.{◌≡◌, sym, ap, ◌∙◌}
use mathlib.Core.Bool.{true, false}
use mathlib.Core.List.{append-nil}
use Prim.Native.Nat.{ℕ, ◌+◌, ◌*◌, ◌-◌}
use native.Mathlib.Omega.{arith}
use Rattle.codec.specs.Bytes.{part}
use Rattle.hasher.specs.Internal.{updated}
use Rattle.register.specs.Register.{standing, standing_digests, digest_at}
use Rattle.session_digests.specs.Digests.{closing_digest}
use Rattle.session_digests.proofs.Parts.{none, next, closing_done, standing_more}
use Rattle.session_digests.proofs.closing_of_register.Goals.{then-stands, else-stands}
use Rattle.session_digests.proofs.closing_of_register.Goals as goal

pub loop-i-init : goal.loop-i-init
unfolding standing_digests standing
loop-i-init c = none c.args.sheet.now c.new.ensures c.absorbed-h.ensures

pub loop-i-preserved : goal.loop-i-preserved
unfolding digest_at
loop-i-preserved c =
    let a = c.args in
    let h = c.loop-i.h in
    let i = c.loop-i.i in
    let reg = a.reg.now in
    let ds = standing_digests reg i in
    let p : 40 * i + 40 - (40 * i + 8) ≡ 32 = omega arith in
    elim c.if-stands.branch [
      | then-stands w ↦
          (let e = sym c.is_standing-stands.ensures ∙ w.if-stands.true in
          let f = w.absorbed-h-then-stands.ensures ∙ ap (λ (k : ℕ). updated h (part reg (40 * i + 8) k)) p in
          rw (w.h-is, standing_more reg i true e) (next a.sheet.now ds (digest_at reg i) c.loop-i.invariant f))
      | else-stands w ↦
          (let e = sym c.is_standing-stands.ensures ∙ w.if-stands.false in
          rw (w.h-is, standing_more reg i false e, append-nil ds) c.loop-i.invariant)
    ]

pub returns : goal.returns
returns c =
    let a = c.args in
    let e : c.loop-i.i ≡ a.n = omega arith in
    c.finish.ensures ∙ closing_done a.sheet.now (standing_digests a.reg.now c.loop-i.i) c.loop-i.invariant
    ∙ ap (λ (n : ℕ). closing_digest a.sheet.now (standing_digests a.reg.now n)) e
