-- `round_head::write_digests` meets its contract. Assumes nothing.
use mathlib.Core.Path.{◌≡◌, sym, ap₂, subst, ◌∙◌}
use Prim.Native.Nat.{ℕ, ◌-◌, ◌*◌}
use native.Mathlib.Omega.{arith}
use lib.ListN.{take, drop}
use Rattle.codec.specs.Bytes.{Bytes, put}
use Rattle.sheet_numbers.specs.declared.Numbers.{Numbers}
use Rattle.commitment.specs.Commitment.{Keys, keys_of}
use Rattle.commitment.specs.Internal.{PublicKeys}
use Rattle.round.specs.Layout.{joined}
use Rattle.commitment.proofs.Cut.{keys_cut}
use Rattle.round_head.proofs.Drawing.{drawn_ends, material, digests_of, digested_first, digested_more, digests_end}
use Rattle.round_head.proofs.write_digests.Goals as goal

-- the sheet's keys as they are lent
abbrev lent : Numbers → Bytes → Keys
lent k s = keys_of k.ring (take (40 * k.ring - 16 * k.ring) (drop (16 * k.ring) s))

pub loop-i-init : goal.loop-i-init
loop-i-init c =
    let a = c.args in
    digested_first a.k.modulus a.k.ring a.k.repeats (lent a.k a.public.now) a.lent.secrets.now a.lent.vectors.now a.lent.permutations.now a.lent.salts.now a.head.now a.work.now c.requires.1

pub digests_at-requires : goal.digests_at-requires
digests_at-requires c =
    let a = c.args in
    let p = c.requires in
    let l = c.loop-i in
    let n = a.k.ring in
    let q = a.k.modulus in
    let e = drawn_ends n a.k.repeats l.i (omega arith) q a.lent.secrets.now a.lent.vectors.now a.lent.permutations.now a.lent.salts.now p.3 in (
      subst (PublicKeys n q) (sym (keys_cut a.k a.public.now)) p.0.keys,
      l.invariant.long,
      digests_end q n a.k.repeats (lent a.k a.public.now) a.lent.secrets.now a.lent.vectors.now a.lent.permutations.now a.lent.salts.now a.head.now p.2 l.i l.head l.work l.invariant (omega arith),
      e.0,
      e.1,
      e.2,
      material n a.k.repeats l.i (omega arith) q a.lent.secrets.now a.lent.vectors.now a.lent.permutations.now a.lent.salts.now p.3,
    )

pub loop-i-preserved : goal.loop-i-preserved
loop-i-preserved c =
    let a = c.args in
    let p = c.requires in
    let l = c.loop-i in
    let d = c.digests_at in
    digested_more a.k.modulus a.k.ring a.k.repeats (lent a.k a.public.now) a.lent.secrets.now a.lent.vectors.now a.lent.permutations.now a.lent.salts.now a.head.now p.2 l.i l.head l.work l.invariant (omega arith) d.new.out d.new.work d.auto.out d.ensures.1 d.ensures.0

pub shape_of-head : goal.shape_of-head
shape_of-head c = c.loop-i.invariant.written.long

pub shape_of-work : goal.shape_of-work
shape_of-work c = c.loop-i.invariant.long ∙ sym c.requires.1

pub returns : goal.returns
returns c =
    let a = c.args in
    let k = a.k in
    let l = c.loop-i in
    let e : l.i ≡ k.repeats = omega arith in (
      l.invariant.written.is
          ∙ ap₂ (λ (i : ℕ) (b : Bytes). put a.head.now (80 * k.ring) (joined i (digests_of k.modulus k.ring k.repeats (keys_of k.ring b) a.lent.secrets.now a.lent.vectors.now a.lent.permutations.now a.lent.salts.now))) e
          (keys_cut k a.public.now),
      l.invariant.long ∙ sym c.requires.1,
    )
