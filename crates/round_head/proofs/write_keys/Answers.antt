-- `round_head::write_keys` meets its contract. Assumes nothing.
use mathlib.Core.Path.{sym, subst, ◌∙◌}
use Prim.Native.Nat.{◌-◌, ◌*◌}
use native.Mathlib.Omega.{arith}
use borrow.Author.Rules.{rules}
use Rattle.scratch.specs.Internal.{Polynomial}
use Rattle.scratch.proofs.Zeroizing.{length_zeros}
use Rattle.stern.proofs.Answered.{lent_length}
use Rattle.commitment.proofs.Cut.{a_cut}
use Rattle.scheme.proofs.Places.{handed}
use Rattle.round_head.proofs.HeadParts.{keys_written}
use Rattle.round_head.proofs.write_keys.Goals as goal

pub noisy_lent-requires : goal.noisy_lent-requires
noisy_lent-requires c =
    let a = c.args in
    let p = c.requires in
    (subst (Polynomial a.k.ring a.k.modulus) (sym (a_cut a.k a.public.now)) p.0.a, p.1, p.2, p.4, omega (arith, c.plain-p.ensures, p.0.numbers.plain_below))

pub hand_out-requires : goal.hand_out-requires
hand_out-requires c =
    let p = c.requires in
    (omega (arith, p.5), omega (arith, p.4, p.1.ring_high, c.noisy_lent.auto.work))

pub noisy_difference-requires : goal.noisy_difference-requires
noisy_difference-requires c =
    let a = c.args in
    let p = c.requires in
    let n = a.k.ring in
    let s = a.secrets.now in (
      subst (Polynomial n a.k.modulus) (sym (a_cut a.k a.public.now)) p.0.a,
      p.1,
      p.2,
      omega (arith, p.4, c.noisy_lent.auto.work, c.hand_out.auto.scratch),
      lent_length s 0 (n - 0) n (omega arith) (omega (arith, p.3)),
      lent_length s n (2 * n - n) n (omega arith) (omega (arith, p.3)),
      omega (arith, c.plain-p.ensures, p.0.numbers.plain_below),
    )

pub overflow_mul-n-4 : goal.overflow_mul-n-4
overflow_mul-n-4 c = let h = c.requires.1.ring_high in search rules

pub hand_out-requires-2 : goal.hand_out-requires-2
hand_out-requires-2 c =
    let p = c.requires in
    (omega (arith, p.5, c.hand_out.auto.out), omega (arith, p.4, p.1.ring_high, c.noisy_lent.auto.work, c.hand_out.auto.scratch, c.noisy_difference.auto.work))

pub returns : goal.returns
returns c =
    let a = c.args in
    let l = handed c.noisy_lent.ensures c.hand_out.ensures in
    let o = handed c.noisy_difference.ensures c.hand_out-2.ensures in
    let m = c.plain-p in
    (keys_written a.k a.public.now a.secrets.now a.s0.now a.e0.now m.result a.head.now _ _ m.ensures c.requires.5 l.written o.written, length_zeros o.cleared ∙ length_zeros l.cleared)
