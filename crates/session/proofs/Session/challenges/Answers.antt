-- `Session::challenges` meets its contract. Assumes nothing.
use mathlib.Core.Path.{sym, ap, ap₂, ◌∙◌}
use mathlib.Core.List.{◌∷◌}
use Prim.Native.Nat.{ℕ}
use native.Mathlib.Omega.{arith}
use lib.ListN.{length-set}
use Rattle.codec.specs.Bytes.{Bytes}
use Rattle.session_digests.specs.Draw.{drawn_challenges}
use Rattle.session_progress.proofs.Limits.{within_due, bounds}
use Rattle.session.specs.Steps.{challenges_out}
use Rattle.register.proofs.Orders.{silent, writes}
use Rattle.session.proofs.CheckTests.{challenges_undue, challenges_below, challenges_length, challenges_taken, laid, room}
use Rattle.session.proofs.Session.challenges.Goals as goal

pub returns-then-not-has_challenges : goal.returns-then-not-has_challenges
returns-then-not-has_challenges c = silent _ _ _ (challenges_undue _ _ _ (sym c.has_challenges.ensures ∙ c.if-not-has_challenges.true))

pub overflow_add-self : goal.overflow_add-self
overflow_add-self c = omega (arith, (bounds (within_due _ _ _ (sym c.has_challenges.ensures ∙ c.if-not-has_challenges.false))).repeats_high)

pub returns-then-out-self : goal.returns-then-out-self
returns-then-out-self c = silent _ _ _ (challenges_length _ _ _ (sym c.has_challenges.ensures ∙ c.if-not-has_challenges.false) c.if-out-self.true)

pub overflow_cast-round : goal.overflow_cast-round
overflow_cast-round c = omega (arith, challenges_below c.args.self c.args.round c.args.out.now (sym c.has_challenges.ensures ∙ c.if-not-has_challenges.false), (bounds (within_due _ _ _ (sym c.has_challenges.ensures ∙ c.if-not-has_challenges.false))).rounds_high)

pub overflow_cast-round-2 : goal.overflow_cast-round-2
overflow_cast-round-2 c = omega (arith, challenges_below c.args.self c.args.round c.args.out.now (sym c.has_challenges.ensures ∙ c.if-not-has_challenges.false), (bounds (within_due _ _ _ (sym c.has_challenges.ensures ∙ c.if-not-has_challenges.false))).rounds_high)

pub slice_bounds-challenges-count : goal.slice_bounds-challenges-count
slice_bounds-challenges-count c = simp length-set (omega arith)

pub slice_bounds-challenges-start : goal.slice_bounds-challenges-start
slice_bounds-challenges-start c = simp length-set (omega arith)

pub challenges-requires : goal.challenges-requires
challenges-requires c =
    let a = c.args in
    omega (arith, (bounds (within_due _ _ _ (sym c.has_challenges.ensures ∙ c.if-not-has_challenges.false))).repeats_high, room a.out.now c.side.result a.self.numbers.repeats c.if-out-self.false)

pub shape_of-out : goal.shape_of-out
shape_of-out c = c.out-1.given.1 ∙ simp length-set

pub returns : goal.returns
unfolding challenges_out
returns c =
    let a = c.args in
    let n = a.self.numbers.repeats in
    let side = c.side.result in
    writes _ _ _ (challenges_taken _ _ _ (sym c.has_challenges.ensures ∙ c.if-not-has_challenges.false) c.if-out-self.false)
    (laid a.out.now side n _ c.if-out-self.false
    ∙ ap₂ (λ (x : ℕ) (t : Bytes). x ∷ t) c.side.ensures.0 (c.challenges.ensures ∙ ap (drawn_challenges a.self.seed a.round) (room a.out.now side n c.if-out-self.false)))
