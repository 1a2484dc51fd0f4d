-- `vector::clear` meets its contract. Assumes nothing.
use mathlib.Core.Path.{◌≡◌, ap, ◌∙◌}
use Prim.Native.Nat.{◌+◌, ◌-◌}
use native.Mathlib.Omega.{arith}
use lib.ListN.{length, length-replicate}
use Rattle.codec.proofs.Laws.{length_part, put_between}
use Rattle.codec.specs.Bytes.{zeros, put, part}
use Rattle.vector.proofs.clear.Goals as goal

pub returns : goal.returns
returns c =
    let a = c.args in
    let w = a.work.now in
    let t = c.wipe.new.d in
    let l : length (part w a.at (a.at + a.n - a.at)) ≡ a.n = length_part w a.at (a.at + a.n - a.at) (omega arith) ∙ omega arith in
    let e : t ≡ zeros a.n = c.wipe.ensures ∙ ap zeros l in
    put_between w t a.at (a.at + a.n) (omega arith) (ap length e ∙ length-replicate a.n 0 ∙ omega arith) ∙ ap (put w a.at) e
