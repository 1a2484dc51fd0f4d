-- `digests::absorb_pair` meets its contract. Assumes nothing.
use mathlib.Core.Path.{◌≡◌, ap, ap₂, ◌∙◌}
use Prim.Native.Nat.{ℕ, ◌+◌, ◌-◌, ◌*◌}
use native.Mathlib.Omega.{arith}
use Rattle.codec.specs.Bytes.{part}
use Rattle.hasher.specs.declared.Hasher.{Hasher}
use Rattle.hasher.specs.Internal.{updated}
use Rattle.hasher.proofs.Laws.{updated_append}
use Rattle.stern.proofs.digests.absorb_pair.Goals as goal

pub returns : goal.returns
returns c =
    let a = c.args in
    let w = a.work.now in
    let n = a.n in
    let x : 8 * n - 0 ≡ 8 * n = omega arith in
    let y : 49152 + 8 * n - 49152 ≡ 8 * n = omega arith in
    c.absorbed.ensures
    ∙ ap₂ (λ (h : Hasher) (k : ℕ). updated h (part w 49152 k)) (c.absorbed-one.ensures ∙ ap (λ (k : ℕ). updated a.h (part w 0 k)) x) y
    ∙ updated_append a.h (part w 0 (8 * n)) (part w 49152 (8 * n))
