-- `codec::array` meets its contract. Assumes nothing.
use mathlib.Core.Path.{◌≡◌, sym, ap, ◌∙◌}
use Prim.Native.Nat.{ℕ, ◌+◌, ◌-◌}
use native.Mathlib.Omega.{arith}
use lib.ListN.{length-replicate}
use Rattle.codec.specs.Bytes.{part, put, zeros}
use Rattle.codec.proofs.Laws.{length_part, put_whole}
use Rattle.codec.proofs.array.Goals as goal

pub returns : goal.returns
returns g c =
    let a = c.args in
    let n = g.row.N in
    let e : a.at + n - a.at ≡ n = omega arith in
    c.copy.ensures ∙ ap (λ (m : ℕ). put (zeros n) 0 (part a.s.now a.at m)) e
    ∙ put_whole (zeros n) (part a.s.now a.at n) (length_part a.s.now a.at n c.requires ∙ sym (length-replicate {A = ℕ} n 0))
