-- `equations_agree` meets its contract. Assumes nothing.
use mathlib.Core.Path.{sym, ap₂, ◌∙◌}
use mathlib.Core.Bool.{true, false}
use Prim.Native.Nat.{◌*◌, ◌<◌}
use native.Mathlib.Omega.{arith}
use Rattle.codec.specs.Bytes.{same}
use Rattle.commitment.specs.Commitment.{keys_of, pair_bytes}
use Rattle.stern.specs.Internal.{equation_pair}
use Rattle.stern.proofs.Honest.{length_pair_bytes}
use Rattle.stern.proofs.Strings.{covered}
use Rattle.round_collision.proofs.Agreement.{by_parts, still_ground}
use Rattle.round_collision.proofs.equations_agree.Goals as goal

pub pairs_agree-of_s-requires : goal.pairs_agree-of_s-requires
pairs_agree-of_s-requires c =
    let p = c.requires in
    (p.0, p.1, omega arith, omega arith, omega arith)

pub pairs_agree-of_e-requires : goal.pairs_agree-of_e-requires
pairs_agree-of_e-requires c =
    let p = c.requires in
    let e = c.pairs_agree-of_s.ensures in
    (still_ground p.0 e.kept_work e.kept_room, p.1, omega arith, omega arith, omega arith)

pub returns : goal.returns
returns c =
    let a = c.args in
    let p = c.requires in
    let some = p.0.keys.one.modulus_low in
    let z : 0 < a.q = omega arith in
    let k = keys_of a.n a.k.now in
    let s = pair_bytes a.q a.n (equation_pair a.q a.n k a.c.now true a.u.now (2 * a.n) 0 0) in
    let t = pair_bytes a.q a.n (equation_pair a.q a.n k a.c.now false a.r.now (2 * a.n) 0 0) in
    let s' = pair_bytes a.q a.n (equation_pair a.q a.n k a.c.now true a.u.now (8 * a.n) a.n (4 * a.n)) in
    let t' = pair_bytes a.q a.n (equation_pair a.q a.n k a.c.now false a.r.now (8 * a.n) a.n (4 * a.n)) in
    let e = c.pairs_agree-of_s in
    let f = c.pairs_agree-of_e in
    record {
      told =
          by_parts s t s' t' e.result f.result e.ensures.told f.ensures.told (length_pair_bytes a.q a.n _ ∙ sym (length_pair_bytes a.q a.n _))
          ∙ ap₂ same (sym (covered a.q a.n z k a.c.now a.u.now p.1.sized_u true)) (sym (covered a.q a.n z k a.c.now a.r.now p.1.sized_r false));
      kept_work = f.ensures.kept_work ∙ e.ensures.kept_work;
      kept_room = f.ensures.kept_room ∙ e.ensures.kept_room;
    }
