-- `digests::equations_digest` meets its contract. Assumes nothing.
use mathlib.Core.Path.{ap, ◌∙◌}
use Prim.Native.Nat.{◌*◌, ◌<◌}
use native.Mathlib.Omega.{arith}
use Rattle.hasher.specs.Internal.{updated}
use Rattle.commitment.specs.Commitment.{keys_of, pair_bytes}
use Rattle.stern.specs.Internal.{equation_pair}
use Rattle.stern.proofs.Strings.{stands_bytes, covered, equations_taken}
use Rattle.stern.proofs.digests.equations_digest.Goals as goal

pub returns : goal.returns
returns c =
    let a = c.args in
    let p = c.requires in
    let t = p.public_keys.0.one.modulus_low in
    let z : 0 < a.q = omega arith in
    let k = keys_of a.n a.k.now in
    let u = equation_pair a.q a.n k a.c.now a.less a.x.now (2 * a.n) 0 0 in
    let v = equation_pair a.q a.n k a.c.now a.less a.x.now (8 * a.n) a.n (4 * a.n) in
    let e = c.absorb_pair-b.ensures ∙ ap (updated c.absorbed-a.result) (stands_bytes a.q a.n u _ _ c.equation_pair.ensures) in
    let f = c.absorb_pair.ensures ∙ ap (updated c.absorb_pair-b.result) (stands_bytes a.q a.n v _ _ c.equation_pair-2.ensures) in (
      c.finish.ensures
          ∙ equations_taken a.salt.now a.p.now (pair_bytes a.q a.n u) (pair_bytes a.q a.n v) _ c.begin.ensures c.absorbed-a.ensures e f (covered a.q a.n z k a.c.now a.x.now p.public_keys.2 a.less),
      c.equation_pair-2.ensures.sized ∙ c.equation_pair.ensures.sized,
    )
