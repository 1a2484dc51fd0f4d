-- `noise::is_quiet_at` meets its contract. Assumes nothing.
use mathlib.Core.Path.{◌≡◌, ap, ◌∙◌}
use Prim.Native.Nat.{ℕ, ◌+◌, ◌-◌, ◌*◌}
use native.Mathlib.Omega.{arith}
use lib.ListN.{take, drop}
use Rattle.ring.specs.Slots.{poly}
use Rattle.ring.specs.Ternary.{ternary}
use Rattle.bgv.specs.Scheme.{centred, noise_in, within}
use Rattle.bgv.proofs.Form.{noise_alike}
use Rattle.stern.proofs.Answered.{lent_length}
use Rattle.round.proofs.Compared.{lent_alike, lent_public, first_below, second_below}
use Rattle.round_material.proofs.Quiet.{within_centred}
use Rattle.round_material.proofs.noise.is_quiet_at.Goals as goal

pub is_quiet-requires : goal.is_quiet-requires
is_quiet-requires c =
    let a = c.args in
    let p = c.requires in
    let n = a.n in
    let x = a.at + 4 in (
      lent_public n a.q a.ballots.now x (x + 8 * n - x) (omega arith) (omega (arith, p.6)) p.0 p.1 p.2 p.3 (first_below n a.q _ p.7),
      lent_public n a.q a.ballots.now (x + 8 * n) (x + 8 * n + 8 * n - (x + 8 * n)) (omega arith) (omega (arith, p.6)) p.0 p.1 p.2 p.3 (second_below n a.q a.ballots.now x p.7),
      p.4,
      lent_length a.secrets.now 0 (n - 0) n (omega arith) (omega (arith, p.5)),
    )

pub returns : goal.returns
returns c =
    let a = c.args in
    let p = c.requires in
    let n = a.n in
    let x = a.at + 4 in
    let u = lent_alike n a.q a.ballots.now x (x + 8 * n - x) (omega arith) (omega (arith, p.6)) in
    let v = lent_alike n a.q a.ballots.now (x + 8 * n) (x + 8 * n + 8 * n - (x + 8 * n)) (omega arith) (omega (arith, p.6)) in
    let e : n - 0 ≡ n = omega arith in (
      c.is_quiet.ensures.0
          ∙ ap (λ (k : ℕ). within a.bound n (centred a.q (noise_in a.q n (ternary a.q (take k a.secrets.now)) (poly (take (x + 8 * n - x) (drop x a.ballots.now))) (poly (take (x + 8 * n + 8 * n - (x + 8 * n)) (drop (x + 8 * n) a.ballots.now)))))) e
          ∙ within_centred a.q n a.bound (noise_alike a.q n _ u v),
      c.is_quiet.ensures.1,
    )
