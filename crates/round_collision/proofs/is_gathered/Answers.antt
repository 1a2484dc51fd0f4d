-- `is_gathered` meets its contract. Assumes nothing.
use mathlib.Core.Path.{ap, ◌∙◌}
use Prim.Native.Nat.{◌*◌}
use native.Mathlib.Omega.{arith}
use Rattle.codec.specs.Bytes.{same}
use Rattle.stern.proofs.Gathered.{head_lent, head_length_lem, permuted_length}
use Rattle.round_collision.proofs.is_gathered.Goals as goal

pub returns : goal.returns
returns c =
    let a = c.args in
    let p = c.requires in
    let h = p.0 in
    let l = permuted_length a.n a.p.now _ p.2 in
    record {
      told = c.equal.ensures ∙ ap (same a.t.now) (head_lent a.work.now _ _ (336 * a.n) l (omega (arith, p.1)) c.gather.ensures);
      kept_work = head_length_lem a.work.now _ _ (336 * a.n) l (omega (arith, p.1)) c.gather.ensures;
    }
