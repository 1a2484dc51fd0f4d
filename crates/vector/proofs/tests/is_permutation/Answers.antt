-- `tests::is_permutation` meets its contract. Assumes nothing.
use mathlib.Core.Path.{◌≡◌, sym, ap₂, ◌∙◌}
use Prim.Native.Nat.{ℕ}
use native.Mathlib.Omega.{arith}
use lib.ListN.{length, length-replicate}
use Rattle.codec.specs.Bytes.{Bytes, part, zeros}
use Rattle.codec.proofs.Laws.{part_put}
use Rattle.vector.proofs.tests.is_permutation.Goals as goal

pub mark-answer-requires : goal.mark-answer-requires
mark-answer-requires c =
    let a = c.args in
    let w = a.work.now in
    let l : length (zeros a.n) ≡ a.n = length-replicate a.n 0 in (
      omega arith,
      omega arith,
      ap₂ (λ (d : Bytes) (k : ℕ). part d a.at k) c.clear.ensures (sym l) ∙ part_put w a.at (zeros a.n) (omega arith),
    )
