-- `Session::draw` meets its contract. Assumes nothing.
use mathlib.Core.Path.{refl, sym, ◌∙◌}
use native.Mathlib.Omega.{arith}
use lib.Seq.{take_all}
use Rattle.session.specs.Steps.{drawn_by}
use Rattle.session.proofs.Stepping.{stays, moves}
use Rattle.session.proofs.CountingTests.{draw_undue, draw_length, draw_taken}
use Rattle.session.proofs.Session.draw.Goals as goal

pub returns-then-not-may_draw : goal.returns-then-not-may_draw
returns-then-not-may_draw c = λ register. stays _ _ (draw_undue _ _ (sym c.may_draw.ensures ∙ c.if-not-may_draw.true)) refl c.refused.ensures

pub returns-then-seed-ne32 : goal.returns-then-seed-ne32
returns-then-seed-ne32 c = λ register. stays _ _ (draw_length _ _ (sym c.may_draw.ensures ∙ c.if-not-may_draw.false) c.if-seed-ne32.true) refl c.refused-then-seed-ne32.ensures

pub returns : goal.returns
unfolding drawn_by
returns c = λ register. moves _ _ (draw_taken _ _ (sym c.may_draw.ensures ∙ c.if-not-may_draw.false) c.if-seed-ne32.false) refl (rw (c.with_seed.ensures, c.array.ensures ∙ take_all 32 c.args.seed.now (omega arith))) refl
