-- `noise::test_noise` meets its contract. Assumes nothing.
use mathlib.Core.Path.{refl, sym, ap, ◌∙◌}
use Prim.Native.Nat.{ℕ, ◌+◌, ◌*◌, ◌≤◌}
use native.Mathlib.Omega.{arith}
use Rattle.codec.specs.Reply.{first}
use Rattle.codec.specs.Lists.{list, all_below}
use Rattle.codec.proofs.Lists.{all_sound}
use Rattle.ring.proofs.Ranges.{below_sound}
use Rattle.round.specs.Layout.{ballot_length, u_at}
use Rattle.round.specs.Producer.{noise_tests}
use Rattle.round.proofs.Walk.{walked_ends, walked_refused, walked_taken}
use Rattle.round_material.proofs.Walking.{walked_none, walked_next}
use Rattle.round_material.proofs.noise.test_noise.Goals as goal

pub loop-j-init : goal.loop-j-init
loop-j-init c = (refl, walked_none)

pub overflow_mul-at : goal.overflow_mul-at
overflow_mul-at c =
    let n = c.args.k.ring in
    let h : ballot_length n * c.loop-j.j + ballot_length n ≤ ballot_length n * c.args.count = walked_ends c.loop-j.invariant.1 (omega arith) in
    omega (arith, c.requires.4)

pub is_quiet_at-requires : goal.is_quiet_at-requires
is_quiet_at-requires c =
    let a = c.args in
    let n = a.k.ring in
    let q = a.k.modulus in
    let p = c.requires in
    let l = c.loop-j in
    let h : ballot_length n * l.j + ballot_length n ≤ ballot_length n * a.count = walked_ends l.invariant.1 (omega arith) in (
      p.0.in_range.ring_low,
      p.0.in_range.ring_high,
      p.0.in_range.modulus_low,
      p.0.in_range.modulus_high,
      l.invariant.0 ∙ p.2,
      p.3,
      omega (arith, p.4),
      below_sound q (2 * n) (u_at n a.ballots.now l.j) (all_sound a.count (λ i. all_below q (list (2 * n) (u_at n a.ballots.now i))) p.5 l.j (omega arith)),
    )

pub returns-then-not-is_quiet_at : goal.returns-then-not-is_quiet_at
returns-then-not-is_quiet_at c =
    let a = c.args in
    let l = c.loop-j in
    let b = c.is_quiet_at in (
      walked_refused l.invariant.1 15 (omega arith) (sym b.ensures.0 ∙ c.if-not-is_quiet_at.true)
          ∙ ap (λ (D : ℕ). first (noise_tests a.k.modulus a.k.ring D a.count a.secrets.now a.ballots.now)) c.noise_bound-bound.ensures.0,
      b.ensures.1 ∙ l.invariant.0,
    )

pub loop-j-preserved : goal.loop-j-preserved
loop-j-preserved c =
    let l = c.loop-j in
    let b = c.is_quiet_at in
    (b.ensures.1 ∙ l.invariant.0, walked_next l.invariant.1 (omega arith) (sym b.ensures.0 ∙ c.if-not-is_quiet_at.false))

pub returns : goal.returns
returns c =
    let a = c.args in
    (walked_taken c.loop-j.invariant.1 15 (omega arith) ∙ ap (λ (D : ℕ). first (noise_tests a.k.modulus a.k.ring D a.count a.secrets.now a.ballots.now)) c.noise_bound-bound.ensures.0, c.loop-j.invariant.0)
