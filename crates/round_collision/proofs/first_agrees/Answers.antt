-- `first_agrees` meets its contract. Assumes nothing.
use mathlib.Core.Path.{◌≡◌, sym, ◌∙◌}
use mathlib.Core.List.{◌++◌}
use Prim.Native.Nat.{◌-◌, ◌*◌}
use native.Mathlib.Omega.{arith}
use lib.ListN.{take}
use Rattle.codec.specs.Bytes.{words}
use Rattle.commitment.specs.Commitment.{keys_of}
use Rattle.vector.specs.Vector.{vector, subtract}
use Rattle.stern.specs.Shortness.{equations, right_hand_sides, answer2_of, answer3_of}
use Rattle.stern.proofs.Answered.{lent_range, lent_length}
use Rattle.round_collision.proofs.Agreement.{by_parts, string1_parts, start_length, lent_equations}
use Rattle.round_collision.proofs.first_agrees.Goals as goal

pub equations_agree-rest-requires : goal.equations_agree-rest-requires
equations_agree-rest-requires c =
    let a = c.args in
    let p = c.requires in
    let n = a.n in
    let e : 504 * n - 168 * n ≡ 336 * n = omega arith in (
      p.0,
      record {
        sized_u = lent_length a.answer2.now (168 * n) (504 * n - 168 * n) (336 * n) e (omega (arith, p.1));
        sized_r = lent_length a.answer3.now (168 * n) (504 * n - 168 * n) (336 * n) e (omega (arith, p.2));
        below_u = lent_range a.q a.answer2.now (168 * n) (504 * n - 168 * n) (336 * n) e p.3;
        below_r = lent_range a.q a.answer3.now (168 * n) (504 * n - 168 * n) (336 * n) e p.4;
      },
    )

pub returns : goal.returns
returns c =
    let a = c.args in
    let p = c.requires in
    let n = a.n in
    let k = keys_of n a.k.now in
    let s = answer2_of n a.answer2.now in
    let t = answer3_of n a.answer3.now in
    let v = words (subtract a.q (equations a.q n k (take (14 * n) (vector s.u))) (right_hand_sides a.q n a.c.now)) in
    let w = words (equations a.q n k (take (14 * n) (vector t.r))) in
    let e = c.equations_agree-rest in
    record {
      told =
          by_parts (s.salt1 ++ s.p) (t.salt1 ++ t.p) v w c.starts_agree-starts.result e.result c.starts_agree-starts.ensures
          (e.ensures.told ∙ lent_equations a.q n k a.c.now a.answer2.now a.answer3.now (504 * n - 168 * n) (504 * n - 168 * n) (omega arith) (omega arith))
          (start_length n a.answer2.now p.1 ∙ sym (start_length n a.answer3.now p.2))
          ∙ string1_parts s.salt1 s.p v t.salt1 t.p w;
      kept_work = e.ensures.kept_work;
      kept_room = e.ensures.kept_room;
    }
