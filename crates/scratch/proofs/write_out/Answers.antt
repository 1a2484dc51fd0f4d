-- `scratch::write_out` meets its contract. Assumes nothing.
use mathlib.Core.Path.{◌≡◌, ap, ◌∙◌}
use native.Mathlib.Omega.{arith}
use Prim.Native.Nat.{ℕ, ◌+◌, ◌-◌, ◌*◌}
use Rattle.codec.specs.Bytes.{put, part}
use Rattle.codec.proofs.Laws.{length_part}
use Rattle.scratch.proofs.write_out.Goals as goal

pub copy-requires : goal.copy-requires
copy-requires c =
    let a = c.args in
    let p = c.requires in
    let l = length_part a.scratch.now a.from (a.from + 8 * a.n - a.from) (omega arith) in
    omega arith

pub returns : goal.returns
returns c =
    let a = c.args in
    let e : a.from + 8 * a.n - a.from ≡ 8 * a.n = omega arith in
    c.copy.ensures ∙ ap (λ (k : ℕ). put a.out.now a.at (part a.scratch.now a.from k)) e
