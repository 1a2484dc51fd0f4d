-- `second_agrees` meets its contract. Assumes nothing.
use mathlib.Core.Path.{sym, ◌∙◌}
use mathlib.Core.List.{[], ◌∷◌, ◌++◌}
use Prim.Native.Nat.{◌+◌, ◌-◌, ◌*◌}
use native.Mathlib.Omega.{arith}
use Rattle.codec.specs.Bytes.{words}
use Rattle.codec.proofs.Laws.{length_part}
use Rattle.vector.specs.Vector.{vector}
use Rattle.vector.specs.Permutation.{entries, apply}
use Rattle.stern.specs.Shortness.{answer1_of, answer3_of}
use Rattle.stern.proofs.Answered.{lent_length}
use Rattle.round_collision.proofs.Agreement.{same_behind, by_parts, lent_same, lent_entries, lent_gathered}
use Rattle.round_collision.proofs.second_agrees.Goals as goal

pub is_gathered-vectors-requires : goal.is_gathered-vectors-requires
is_gathered-vectors-requires c =
    let a = c.args in
    let p = c.requires in
    let n = a.n in
    let y = a.answer3.now in
    (p.0, p.1, lent_length y 0 (168 * n - 0) (168 * n) (omega arith) (omega (arith, p.3)), lent_length y (168 * n) (504 * n - 168 * n) (336 * n) (omega arith) (omega (arith, p.3)), lent_entries (42 * n) y (168 * n - 0) (168 * n) (omega arith) p.4)

pub returns : goal.returns
returns c =
    let a = c.args in
    let p = c.requires in
    let n = a.n in
    let x = a.answer1.now in
    let y = a.answer3.now in
    let s = answer1_of n x in
    let t = answer3_of n y in
    let v = words (apply (entries t.p) (vector t.r)) in
    let e = c.is_gathered-vectors in
    record {
      told =
          by_parts s.salt2 t.salt2 s.t v c.equal-salts.result e.result
          (c.equal-salts.ensures ∙ lent_same x y (378 * n) (504 * n + 32) (378 * n + 32 - 378 * n) (504 * n + 32 + 32 - (504 * n + 32)) 32 (omega arith) (omega arith))
          (e.ensures.told ∙ lent_gathered n x y (378 * n - 42 * n) (168 * n - 0) (504 * n - 168 * n) (omega arith) (omega arith) (omega arith))
          (length_part x (378 * n) 32 (omega (arith, p.2)) ∙ sym (length_part y (504 * n + 32) 32 (omega (arith, p.3))))
          ∙ sym (same_behind (2 ∷ []) (s.salt2 ++ s.t) (t.salt2 ++ v));
      kept_work = e.ensures.kept_work;
    }
