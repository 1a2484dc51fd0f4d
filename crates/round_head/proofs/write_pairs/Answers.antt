-- `round_head::write_pairs` meets its contract. Assumes nothing.
use mathlib.Core.Path.{sym, subst, ◌∙◌}
use Prim.Native.Nat.{◌-◌, ◌*◌}
use native.Mathlib.Omega.{arith}
use lib.ListN.{take, drop}
use Rattle.commitment.specs.Commitment.{keys_of}
use Rattle.commitment.specs.Internal.{PublicKeys}
use Rattle.stern.proofs.Answered.{lent_length}
use Rattle.commitment.proofs.Cut.{keys_cut}
use Rattle.round_head.proofs.CommittedPairs.{both_lent, four_pairs, pairs_loaded}
use Rattle.round_head.proofs.write_pairs.Goals as goal

pub both_pairs-requires : goal.both_pairs-requires
both_pairs-requires c =
    let a = c.args in
    let p = c.requires in
    let n = a.k.ring in
    let s = a.secrets.now in (
      subst (PublicKeys n a.k.modulus) (sym (keys_cut a.k a.public.now)) p.0.keys,
      p.1,
      lent_length s 0 (n - 0) n (omega arith) (omega (arith, p.3)),
      lent_length s _ _ (6 * n) (omega arith) (omega (arith, p.3)),
      p.4,
      omega (arith, p.5),
    )

pub both_pairs-requires-2 : goal.both_pairs-requires-2
both_pairs-requires-2 c =
    let a = c.args in
    let p = c.requires in
    let n = a.k.ring in
    let s = a.secrets.now in
    let b = c.both_pairs in (
      subst (PublicKeys n a.k.modulus) (sym (keys_cut a.k a.public.now)) p.0.keys,
      p.2,
      lent_length s _ _ n (omega arith) (omega (arith, p.3)),
      lent_length s _ _ (6 * n) (omega arith) (omega (arith, p.3)),
      b.ensures.1 ∙ p.4,
      omega (arith, p.5, b.auto.out),
    )

pub returns : goal.returns
returns c =
    let a = c.args in
    let n = a.k.ring in
    let q = a.k.modulus in
    let s = a.secrets.now in
    let k = keys_of n (take (40 * n - 16 * n) (drop (16 * n) a.public.now)) in
    let b = c.both_pairs in
    let t = c.both_pairs-2 in (
      pairs_loaded a.k a.public.now s a.s0.now a.e0.now a.head.now t.new.out
          (four_pairs q n k s a.s0.now a.e0.now a.head.now b.new.out t.new.out _ _ c.requires.5 b.ensures.0 t.ensures.0
          (both_lent q n k s a.s0.now 0 (n - 0) (2 * n) (8 * n - 2 * n) (omega arith) (omega arith)) (both_lent q n k s a.e0.now n (2 * n - n) (8 * n) (14 * n - 8 * n) (omega arith) (omega arith))),
      t.ensures.1 ∙ b.ensures.1,
    )
