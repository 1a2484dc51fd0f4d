-- `testing::test_permuted` meets its contract. Assumes nothing.
use mathlib.Core.Path.{◌≡◌, sym, ap, ◌∙◌}
use mathlib.Core.Bool.{true, not}
use Prim.Native.Nat.{ℕ, ◌*◌}
use native.Mathlib.Omega.{arith}
use lib.ListN.{length-replicate}
use Rattle.codec.specs.Bytes.{zeros}
use Rattle.codec.proofs.Laws.{written_length}
use Rattle.vector.specs.Permutation.{entries, permutes}
use Rattle.vector.proofs.Counts.{permutes_below}
use Rattle.stern.proofs.Answered.{first_fails}
use Rattle.stern_answers.proofs.LentParts.{digests_decide}
use Rattle.stern.proofs.Written.{vector_below}
use Rattle.stern_answers.proofs.testing.test_permuted.Goals as goal

pub returns-then-not-is_permutation : goal.returns-then-not-is_permutation
returns-then-not-is_permutation c =
    let a = c.args in
    let p = c.requires in
    let h = p.0.one.ring_high in
    record {
      replied = first_fails 9 11 a.place _ _ (ap not (sym c.is_permutation.ensures.0 ∙ c.if-not-is_permutation.true));
      kept = written_length a.work.now _ (zeros (42 * a.n)) 0 (omega (arith, p.1, length-replicate {A = ℕ} (42 * a.n) 0)) c.is_permutation.ensures.1;
    }

pub equations_digest-first-requires : goal.equations_digest-first-requires
equations_digest-first-requires c =
    let a = c.args in
    let p = c.requires in
    let h = p.0.one.ring_high in
    let l = written_length a.work.now _ (zeros (42 * a.n)) 0 (omega (arith, p.1, length-replicate {A = ℕ} (42 * a.n) 0)) c.is_permutation.ensures.1 in
    record {
      public_keys = (p.0, l ∙ p.1, p.3, vector_below a.q a.x.now p.6);
      c_len = (λ t. (p.7, vector_below a.q a.c.now p.8), p.4);
    }

pub gathered_digest-second-requires : goal.gathered_digest-second-requires
gathered_digest-second-requires c =
    let a = c.args in
    let p = c.requires in
    let h = p.0.one.ring_high in
    let l = written_length a.work.now _ (zeros (42 * a.n)) 0 (omega (arith, p.1, length-replicate {A = ℕ} (42 * a.n) 0)) c.is_permutation.ensures.1 in
    let yes : permutes (42 * a.n) (entries a.p.now) ≡ true = sym c.is_permutation.ensures.0 ∙ c.if-not-is_permutation.false in
    (h, c.equations_digest-first.ensures.1 ∙ l ∙ p.1, p.2, p.3, p.5, permutes_below (42 * a.n) (entries a.p.now) yes)

pub returns : goal.returns
returns c =
    let a = c.args in
    let p = c.requires in
    let h = p.0.one.ring_high in
    let b = c.is_permutation in
    let e = c.equations_digest-first.ensures in
    let g = c.gathered_digest-second.ensures in
    let l = written_length a.work.now _ (zeros (42 * a.n)) 0 (omega (arith, p.1, length-replicate {A = ℕ} (42 * a.n) 0)) b.ensures.1 in
    record {
      replied = digests_decide 9 a.place _ a.one.now a.other.now _ _ _ _ (ap not (sym b.ensures.0 ∙ c.if-not-is_permutation.false)) c.test_digests.ensures e.0 g.0;
      kept = g.1 ∙ e.1 ∙ l;
    }
