-- `halves::is_key` meets its contract. Assumes nothing.
use mathlib.Core.Path.{◌≡◌, ap, ◌∙◌}
use Prim.Native.Nat.{ℕ, ◌-◌, ◌*◌}
use native.Mathlib.Omega.{arith}
use lib.ListN.{take}
use Rattle.codec.specs.Bytes.{same, zeros}
use Rattle.ring.specs.Poly.{modulo}
use Rattle.ring.specs.Slots.{poly, encode}
use Rattle.bgv.specs.Scheme.{key}
use Rattle.round_tests.proofs.halves.is_key.Goals as goal

pub noisy_lent-requires : goal.noisy_lent-requires
noisy_lent-requires c = let p = c.requires in (p.1, p.2, p.3, p.4, omega (arith, c.plain.ensures, p.0.plain_below))

pub returns : goal.returns
returns c =
    let a = c.args in
    let n = a.k.ring in
    let q = a.k.modulus in
    let x : 8 * n - 0 ≡ 8 * n = omega arith in (
      c.equal-opened.ensures
          ∙ ap (λ (m : ℕ). same a.half.now (take m c.noisy_lent.new.work)) x
          ∙ ap (same a.half.now) (c.noisy_lent.ensures.bytes ∙ ap (λ (p : ℕ). encode n (modulo q (key q n p (poly a.a.now) (poly a.s.now) (poly a.e.now)))) c.plain.ensures),
      c.wipe.ensures ∙ ap zeros c.noisy_lent.ensures.sized,
    )
