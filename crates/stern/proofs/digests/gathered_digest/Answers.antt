-- `digests::gathered_digest` meets its contract. Assumes nothing.
use mathlib.Core.Path.{ap, ◌∙◌}
use mathlib.Core.List.{◌∷◌, ◌++◌}
use Prim.Native.Nat.{◌*◌}
use native.Mathlib.Omega.{arith}
use Rattle.codec.specs.Bytes.{Bytes}
use Rattle.sha3.specs.Sponge.{sha3}
use Rattle.stern.proofs.Gathered.{head_lent, head_length_lem, permuted_length}
use Rattle.stern.proofs.digests.gathered_digest.Goals as goal

pub returns : goal.returns
returns c =
    let a = c.args in
    let p = c.requires in
    let h = p.0 in
    let l = permuted_length a.n a.p.now _ p.2 in (
      c.tagged.ensures ∙ ap (λ (s : Bytes). sha3 (a.lead ∷ (a.salt.now ++ s))) (head_lent a.work.now _ _ (336 * a.n) l (omega (arith, p.1)) c.gather.ensures),
      head_length_lem a.work.now _ _ (336 * a.n) l (omega (arith, p.1)) c.gather.ensures,
    )
