-- `round_head::digests_at` meets its contract. Assumes nothing.
use mathlib.Core.Path.{ap, ◌∙◌}
use Prim.Native.Nat.{◌+◌, ◌-◌, ◌*◌}
use native.Mathlib.Omega.{arith}
use Rattle.codec.specs.Bytes.{put}
use Rattle.scratch.proofs.Zeroizing.{length_zeros}
use Rattle.commitment.specs.Commitment.{keys_of}
use Rattle.stern.specs.Argument.{Drawn}
use Rattle.stern.specs.Shortness.{honest_digests}
use Rattle.round_head.proofs.Drawing.{repetition_lent, drawn_lent}
use Rattle.round_head.proofs.digests_at.Goals as goal

pub write_digests-requires : goal.write_digests-requires
write_digests-requires c =
    let a = c.args in
    let p = c.requires in
    let r = a.vector in
    let s = a.salt in
    let t = a.permutation in
    (p.0, p.1, p.2, repetition_lent a.q a.n a.lent.secrets.now a.lent.vectors.now a.lent.permutations.now a.lent.salts.now r t s (r + 336 * a.n - r) (t + 168 * a.n - t) (s + 96 - s) (omega arith) (omega arith) (omega arith) p.6)

pub returns : goal.returns
returns c =
    let a = c.args in
    let w = c.write_digests in
    let r = a.vector in
    let s = a.salt in
    let t = a.permutation in (
      w.ensures.0
          ∙ ap (λ (x : Drawn). put a.out.now a.at (honest_digests a.q a.n (keys_of a.n a.k.now) a.lent.secrets.now x))
          (drawn_lent a.q a.n a.lent.secrets.now a.lent.vectors.now a.lent.permutations.now a.lent.salts.now r t s (r + 336 * a.n - r) (t + 168 * a.n - t) (s + 96 - s) (omega arith) (omega arith) (omega arith)),
      length_zeros w.ensures.1,
    )
