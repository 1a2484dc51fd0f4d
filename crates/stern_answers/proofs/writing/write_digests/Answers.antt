-- `write_digests` meets its contract. Assumes nothing.
use mathlib.Core.Path.{◌≡◌, ap, ◌∙◌}
use Prim.Native.Nat.{ℕ, ◌+◌, ◌*◌}
use native.Mathlib.Omega.{arith}
use Rattle.codec.specs.Bytes.{put, zeros}
use Rattle.codec.proofs.Laws.{length_part}
use Rattle.sha3.proofs.Squeezing.{length_sha3}
use Rattle.vector.specs.Permutation.{entries}
use Rattle.vector.proofs.Counts.{permutes_below}
use Rattle.stern.proofs.Written.{vector_below}
use Rattle.stern_answers.proofs.WrittenParts.{three_at_lem}
use Rattle.stern_answers.proofs.writing.write_digests.Goals as goal

pub equations_digest-one-requires : goal.equations_digest-one-requires
equations_digest-one-requires c =
    let a = c.args in
    let p = c.requires in
    let m = p.3 in
    record {
      public_keys = (p.0, p.1, m.size_r, vector_below a.q a.r.now m.below);
      c_len = (λ t. let z : ◌≡◌ {A = ℕ} 0 1 = cc in absurd (omega arith), length_part a.salts.now 0 32 (omega (arith, m.size_salts)));
    }

pub gathered_digest-two-requires : goal.gathered_digest-two-requires
gathered_digest-two-requires c =
    let a = c.args in
    let p = c.requires in
    let m = p.3 in
    (p.0.one.ring_high, c.equations_digest-one.ensures.1 ∙ p.1, m.size_p, m.size_r, length_part a.salts.now 32 32 (omega (arith, m.size_salts)), permutes_below (42 * a.n) (entries a.p.now) m.permutes)

pub masked_digest-three-requires : goal.masked_digest-three-requires
masked_digest-three-requires c =
    let a = c.args in
    let p = c.requires in
    let m = p.3 in record {
      n_bound = (p.0.one.ring_high, p.0.one.modulus_low, p.0.one.modulus_high, c.gathered_digest-two.ensures.1 ∙ c.equations_digest-one.ensures.1 ∙ p.1, m.size_p, m.size_x, m.size_r, length_part a.salts.now 64 32 (omega (arith, m.size_salts)));
      p_value = (permutes_below (42 * a.n) (entries a.p.now) m.permutes, m.below);
    }

pub returns : goal.returns
returns c =
    let a = c.args in
    let p = c.requires in (
      three_at_lem a.out.now c.copy.new.d c.copy-2.new.d _ _ _ _ a.at p.2 (length_sha3 _) (length_sha3 _) (length_sha3 _)
          (c.copy.ensures ∙ ap (put a.out.now a.at) c.equations_digest-one.ensures.0) (c.copy-2.ensures ∙ ap (put c.copy.new.d (a.at + 32)) c.gathered_digest-two.ensures.0) (c.copy-3.ensures ∙ ap (put c.copy-2.new.d (a.at + 64)) c.masked_digest-three.ensures.0),
      c.wipe.ensures ∙ ap zeros (c.masked_digest-three.ensures.1 ∙ c.gathered_digest-two.ensures.1 ∙ c.equations_digest-one.ensures.1),
    )
