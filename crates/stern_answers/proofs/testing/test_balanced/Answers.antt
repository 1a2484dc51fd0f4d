-- `testing::test_balanced` meets its contract. Assumes nothing.
use mathlib.Core.Path.{◌≡◌, refl, sym, ap, ◌∙◌}
use mathlib.Core.Bool.{not}
use mathlib.Core.List.{◌∷◌, ◌++◌}
use Prim.Native.Nat.{ℕ, ◌*◌}
use native.Mathlib.Omega.{arith}
use lib.ListN.{length}
use Rattle.codec.specs.Bytes.{Bytes, words}
use Rattle.codec.proofs.Numbers.{length_words}
use Rattle.sha3.specs.Sponge.{sha3}
use Rattle.vector.specs.Vector.{vector, ternaries, add}
use Rattle.vector.proofs.Vectors.{length_add, length_vector, length_ternaries}
use Rattle.stern.proofs.Answered.{first_fails}
use Rattle.stern_answers.proofs.LentParts.{digests_decide}
use Rattle.stern.proofs.Gathered.{head_lent, head_length_lem}
use Rattle.stern_answers.proofs.testing.test_balanced.Goals as goal

-- P(extended) + P(R), 336n bytes
sum-length : (q n : ℕ) (w t : Bytes) → length w ≡ 42 * n → length t ≡ 336 * n → length (words (add q (ternaries q w) (vector t))) ≡ 336 * n
sum-length q n w t lw lt =
    length_words (add q (ternaries q w) (vector t))
    ∙ omega (arith, length_add q (ternaries q w) (vector t) (omega (arith, length_vector t, length_ternaries q w)), length_vector t)

pub returns-then-not-is_balanced : goal.returns-then-not-is_balanced
returns-then-not-is_balanced c = record { replied = first_fails 10 11 c.args.place _ _ (ap not (sym c.is_balanced.ensures ∙ c.if-not-is_balanced.true)); kept = refl }

pub sum-requires : goal.sum-requires
sum-requires c =
    let p = c.requires in
    let h = p.0 in
    let s = p.1 in
    record { w_len = (p.4, omega (arith, p.5), omega (arith, p.3)); lt_q = (omega arith, p.2, p.8) }

pub returns : goal.returns
returns c =
    let a = c.args in
    let p = c.requires in
    let h = p.0 in
    let b = c.is_balanced in
    let s = c.sum.ensures in
    let l = sum-length a.q a.n a.w.now a.t.now p.4 p.5 in
    record {
      replied = digests_decide 10 a.place _ a.two.now a.three.now _ _ _ _ (ap not (sym b.ensures ∙ c.if-not-is_balanced.false)) c.test_digests.ensures c.tagged-second.ensures
          (c.tagged-third.ensures ∙ ap (λ (s : Bytes). sha3 (3 ∷ (a.salt3.now ++ s))) (head_lent a.work.now _ _ (336 * a.n) l (omega (arith, p.3)) s));
      kept = head_length_lem a.work.now _ _ (336 * a.n) l (omega (arith, p.3)) s;
    }
