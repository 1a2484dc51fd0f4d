-- `third_agrees` meets its contract. Assumes nothing.
use mathlib.Core.Path.{sym, ◌∙◌}
use mathlib.Core.List.{[], ◌∷◌, ◌++◌}
use Prim.Native.Nat.{◌+◌, ◌-◌, ◌*◌}
use native.Mathlib.Omega.{arith}
use Rattle.codec.specs.Bytes.{words}
use Rattle.codec.proofs.Laws.{length_part}
use Rattle.vector.specs.Vector.{vector, ternaries, add}
use Rattle.vector.specs.Permutation.{entries, apply}
use Rattle.stern.specs.Shortness.{answer1_of, answer2_of}
use Rattle.stern.proofs.Answered.{lent_range, lent_length}
use Rattle.round_collision.proofs.Agreement.{same_behind, by_parts, lent_same, lent_entries, lent_sums}
use Rattle.round_collision.proofs.third_agrees.Goals as goal

pub sums_agree-sums-requires : goal.sums_agree-sums-requires
sums_agree-sums-requires c =
    let a = c.args in
    let p = c.requires.n_bound in
    let r = c.requires.answer1_value in
    let n = a.n in
    let x = a.answer1.now in
    let y = a.answer2.now in
    let lw = lent_length x 0 (42 * n - 0) (42 * n) (omega arith) (omega (arith, p.3)) in
    let lt = lent_length x (42 * n) (378 * n - 42 * n) (336 * n) (omega arith) (omega (arith, p.3)) in
    let lp = lent_length y 0 (168 * n - 0) (168 * n) (omega arith) (omega (arith, p.4)) in
    let lu = lent_length y (168 * n) (504 * n - 168 * n) (336 * n) (omega arith) (omega (arith, p.4)) in record { lt_q = (p.1, p.2, lw, omega arith, omega arith, omega arith); t_value = (lent_range a.q x (42 * n) (378 * n - 42 * n) (336 * n) (omega arith) r.0, lent_range a.q y (168 * n) (504 * n - 168 * n) (336 * n) (omega arith) r.1, lent_entries (42 * n) y (168 * n - 0) (168 * n) (omega arith) r.2) }

pub returns : goal.returns
returns c =
    let a = c.args in
    let p = c.requires.n_bound in
    let n = a.n in
    let x = a.answer1.now in
    let y = a.answer2.now in
    let s = answer1_of n x in
    let t = answer2_of n y in
    let v = words (add a.q (ternaries a.q s.w) (vector s.t)) in
    let w = words (apply (entries t.p) (vector t.u)) in
    by_parts s.salt3 t.salt3 v w c.equal-salts.result c.sums_agree-sums.result
    (c.equal-salts.ensures ∙ lent_same x y (378 * n + 32) (504 * n + 32) (378 * n + 32 + 32 - (378 * n + 32)) (504 * n + 32 + 32 - (504 * n + 32)) 32 (omega arith) (omega arith))
    (c.sums_agree-sums.ensures ∙ lent_sums a.q n x y (42 * n - 0) (378 * n - 42 * n) (168 * n - 0) (504 * n - 168 * n) (omega arith) (omega arith) (omega arith) (omega arith))
    (length_part x (378 * n + 32) 32 (omega (arith, p.3)) ∙ sym (length_part y (504 * n + 32) 32 (omega (arith, p.4))))
    ∙ sym (same_behind (3 ∷ []) (s.salt3 ++ v) (t.salt3 ++ w))
