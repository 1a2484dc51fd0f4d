-- `keep_pair` meets its contract. Assumes nothing.
use mathlib.Core.Path.{◌≡◌, ap₂, ◌∙◌}
use mathlib.Core.List.{◌++◌}
use Prim.Native.Nat.{ℕ, ◌+◌, ◌-◌, ◌*◌}
use native.Mathlib.Omega.{arith}
use lib.ListN.{take, drop}
use Rattle.codec.specs.Bytes.{put}
use Rattle.codec.proofs.Laws.{written_behind}
use Rattle.stern.proofs.Answered.{lent_length}
use Rattle.round_collision.proofs.keep_pair.Goals as goal

pub returns : goal.returns
returns c =
    let a = c.args in
    let p = c.requires in
    let w = a.work.now in
    let n = a.n in
    let x : 8 * n - 0 ≡ 8 * n = omega arith in
    let y : 49152 + 8 * n - 49152 ≡ 8 * n = omega arith in
    let lx = lent_length w 0 (8 * n - 0) (8 * n) x (omega (arith, p.1)) in
    let ly = lent_length w 49152 (49152 + 8 * n - 49152) (8 * n) y p.1 in
    written_behind a.room.now c.copy.new.d _ (take (8 * n - 0) w) (take (49152 + 8 * n - 49152) (drop 49152 w)) 0 (8 * n) (omega arith) (omega (arith, p.0)) c.copy.ensures c.copy-2.ensures
    ∙ ap₂ (λ (i j : ℕ). put a.room.now 0 (take i w ++ take j (drop 49152 w))) x y
