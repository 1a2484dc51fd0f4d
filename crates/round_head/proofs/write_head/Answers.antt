-- `round_head::write_head` meets its contract. Assumes nothing.
use mathlib.Core.Path.{ap, ◌∙◌}
use native.Mathlib.Omega.{arith}
use Rattle.codec.specs.Bytes.{zeros}
use Rattle.commitment.specs.Parameters.{parameters}
use Rattle.round_head.proofs.HeadParts.{head_whole}
use Rattle.round_head.proofs.write_head.Goals as goal

pub write_keys-requires : goal.write_keys-requires
write_keys-requires c = let p = c.requires in (p.0, p.1, p.2, p.5.secrets_sized, p.3, omega (arith, p.4))

pub write_pairs-requires : goal.write_pairs-requires
write_pairs-requires c =
    let p = c.requires in
    let w = c.write_keys in
    (p.0, p.1, p.2, p.5.secrets_sized, w.ensures.1 ∙ p.3, omega (arith, p.4, w.auto.head))

pub write_digests-requires : goal.write_digests-requires
write_digests-requires c =
    let p = c.requires in
    let w = c.write_keys in
    let t = c.write_pairs in
    (p.0, t.ensures.1 ∙ w.ensures.1 ∙ p.3, t.auto.head ∙ w.auto.head ∙ p.4, p.5)

pub returns : goal.returns
returns c =
    let a = c.args in
    let w = c.write_keys in
    let t = c.write_pairs in
    let d = c.write_digests in (
      head_whole (parameters a.k a.public.now) a.lent.secrets.now a.lent.s0.now a.lent.e0.now a.lent.vectors.now a.lent.permutations.now a.lent.salts.now a.head.now w.new.head t.new.head d.new.head c.requires.4
          w.ensures.0 t.ensures.0 d.ensures.0,
      c.wipe.ensures ∙ ap zeros (d.ensures.1 ∙ t.ensures.1 ∙ w.ensures.1),
    )
