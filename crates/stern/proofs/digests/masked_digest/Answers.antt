-- `digests::masked_digest` meets its contract. Assumes nothing.
use mathlib.Core.Path.{ap, ◌∙◌}
use mathlib.Core.List.{◌∷◌, ◌++◌}
use Prim.Native.Nat.{ℕ, ◌*◌}
use native.Mathlib.Omega.{arith}
use Rattle.codec.specs.Bytes.{Bytes, words}
use Rattle.sha3.specs.Sponge.{sha3}
use Rattle.vector.specs.Vector.{vector, ternaries, add}
use Rattle.vector.specs.Permutation.{entries, apply, extend}
use Rattle.stern.proofs.Gathered.{head_lent, head_length_lem, permuted_length}
use Rattle.stern.proofs.digests.masked_digest.Goals as goal

pub returns : goal.returns
returns c =
    let a = c.args in
    let p = c.requires.n_bound in
    let h = p.0 in
    let l = permuted_length a.n a.p.now _ p.4 in (
      c.tagged.ensures ∙ ap (λ (s : Bytes). sha3 (3 ∷ (a.salt.now ++ s))) (head_lent a.work.now _ _ (336 * a.n) l (omega (arith, p.3)) c.gather_masked.ensures)
          ∙ ap (λ (k : ℕ). sha3 (3 ∷ (a.salt.now ++ words (apply (entries a.p.now) (add a.q (ternaries a.q (extend k a.x.now)) (vector a.r.now)))))) p.5,
      head_length_lem a.work.now _ _ (336 * a.n) l (omega (arith, p.3)) c.gather_masked.ensures,
    )
