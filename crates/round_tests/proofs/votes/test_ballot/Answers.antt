-- `votes::test_ballot` meets its contract. Assumes nothing.
use mathlib.Core.Path.{sym, ap, ap₂, ◌∙◌}
use mathlib.Core.Bool.{Bool, not}
use Prim.Native.Nat.{ℕ}
use native.Mathlib.Omega.{arith}
use Rattle.ring.specs.Slots.{poly}
use Rattle.bgv.specs.Scheme.{recovered_mask, within}
use Rattle.stern.proofs.Answered.{first_fails, second_fails, both_hold}
use Rattle.round_tests.proofs.votes.test_ballot.Goals.{Start}
use Rattle.round_tests.proofs.votes.test_ballot.Goals as goal

-- the mask test, for a bound and a plaintext modulus
abbrev masked : Start → ℕ → ℕ → Bool
masked s B p = let a = s.args in within B a.k.ring (recovered_mask a.k.modulus a.k.ring p (poly a.s.now) (poly a.u.now) (poly a.t.now))

pub mask_within-requires : goal.mask_within-requires
mask_within-requires c =
    let p = c.requires in
    let u = p.0 in
    let e = c.plain-p.ensures in
    (p.1, p.2, p.6, p.7, omega (arith, e, u.in_range.plain_low), omega (arith, e, u.in_range.plain_high), rw e u.apart)

pub returns-then-not-mask_within : goal.returns-then-not-mask_within
returns-then-not-mask_within c =
    let m = c.mask_within in
    let e = m.ensures.0 ∙ ap₂ (masked (goal.at.returns-then-not-mask_within c).Start) c.mask_bound-bound.ensures c.plain-p.ensures in
    record { replied = first_fails 12 13 c.args.place _ _ (ap not (sym e ∙ c.if-not-mask_within.true)); kept = m.ensures.1 }

pub is_claim-requires : goal.is_claim-requires
is_claim-requires c = let p = c.requires in (p.0, p.3, p.4, p.5, c.mask_within.ensures.1 ∙ p.7, p.8)

pub returns-then-not-is_claim : goal.returns-then-not-is_claim
returns-then-not-is_claim c =
    let m = c.mask_within in
    let k = c.is_claim in
    let e = m.ensures.0 ∙ ap₂ (masked (goal.at.returns-then-not-is_claim c).Start) c.mask_bound-bound.ensures c.plain-p.ensures in
    record { replied = second_fails 12 13 c.args.place _ _ (ap not (sym e ∙ c.if-not-mask_within.false)) (ap not (sym k.ensures.0 ∙ c.if-not-is_claim.true)); kept = k.ensures.1 ∙ m.ensures.1 }

pub returns : goal.returns
returns c =
    let m = c.mask_within in
    let k = c.is_claim in
    let e = m.ensures.0 ∙ ap₂ (masked (goal.at.returns c).Start) c.mask_bound-bound.ensures c.plain-p.ensures in
    record { replied = both_hold 12 13 c.args.place _ _ (ap not (sym e ∙ c.if-not-mask_within.false)) (ap not (sym k.ensures.0 ∙ c.if-not-is_claim.false)); kept = k.ensures.1 ∙ m.ensures.1 }
