-- `Session::turnout` meets its contract. Assumes nothing.
use mathlib.Core.Path.{◌≡◌, refl, sym, ◌∙◌}
use mathlib.Core.Bool.{true, false, ◌||◌}
use Prim.Native.Nat.{◌≤◌}
use native.Mathlib.Omega.{arith}
use lib.Dec.{ltb}
use borrow.Author.Rules.{rules}
use Rattle.std.proofs.lemmas.Grind.{common_steps}
use Rattle.std.proofs.lemmas.Bool.Decides.{nat_tests}
use Rattle.session_progress.proofs.Limits.{within}
use Rattle.session.proofs.GatheringTests.{turnout_invalid, turnout_register, turnout_outside, turnout_taken}
use Rattle.session.proofs.Session.turnout.Goals as goal

pub returns-then-not-is_valid : goal.returns-then-not-is_valid
returns-then-not-is_valid c = rw (turnout_invalid c.args.self c.args.reg.now c.args.enrolled (sym c.is_valid.ensures ∙ c.if-not-is_valid.true)) (refl, refl)

pub returns-then-reg-ne-REGISTER : goal.returns-then-reg-ne-REGISTER
returns-then-reg-ne-REGISTER c = rw (turnout_register c.args.self c.args.reg.now c.args.enrolled (sym c.is_valid.ensures ∙ c.if-not-is_valid.false) c.if-reg-ne-REGISTER.true) (refl, refl)

pub returns-then-not-contains : goal.returns-then-not-contains
returns-then-not-contains c =
    let n = c.new.ensures in
    let t = c.contains.ensures.value in
    let out : (ltb c.args.enrolled 1 || ltb 1000000 c.args.enrolled) ≡ true = grind (arith, common_steps, nat_tests, n.start, n.end, n.exhausted) in
    rw (turnout_outside c.args.self c.args.reg.now c.args.enrolled (sym c.is_valid.ensures ∙ c.if-not-is_valid.false) c.if-reg-ne-REGISTER.false out) (refl, refl)

pub turnout-requires : goal.turnout-requires
turnout-requires c =
    let w = within _ _ (sym c.is_valid.ensures ∙ c.if-not-is_valid.false) in
    let n = c.new.ensures in
    let low : 1 ≤ c.args.enrolled = search rules in
    let high : c.args.enrolled ≤ 1000000 = grind (arith, common_steps, nat_tests, n.start, n.end, n.exhausted) in
    (omega (arith, w.used), w.used, low, high)

pub returns : goal.returns
returns c =
    let inside : (ltb c.args.enrolled 1 || ltb 1000000 c.args.enrolled) ≡ false = search rules in
    rw (turnout_taken c.args.self c.args.reg.now c.args.enrolled (sym c.is_valid.ensures ∙ c.if-not-is_valid.false) c.if-reg-ne-REGISTER.false inside, c.turnout.ensures) (refl, refl)
