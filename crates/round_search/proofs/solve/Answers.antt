-- `round_search::solve` meets its contract. Assumes nothing.
use mathlib.Core.Path.{◌∙◌}
use native.Mathlib.Omega.{arith}
use Rattle.round_search.specs.Internal.{unknowns_of}
use Rattle.round_search.proofs.Outcome.{s_nonzero, e_nonzero, both_zero}
use Rattle.round_search.proofs.solve.Goals as goal

pub vanishes-requires-2 : goal.vanishes-requires-2
vanishes-requires-2 c =
    let p = c.requires in
    (p.0, p.1, p.2, omega (arith, p.5), omega (arith, p.6), p.7, omega arith, c.out-1.given ∙ p.4, c.vanishes.ensures.1.1 ∙ p.3, omega arith)

pub write_key-requires : goal.write_key-requires
write_key-requires c =
    let p = c.requires in
    (p.0, p.2, p.7, c.out-2-1.given ∙ c.out-1.given ∙ p.4)

pub returns-then-not-vanishes : goal.returns-then-not-vanishes
returns-then-not-vanishes c =
    let a = c.args in
    let v = c.vanishes in
    let r = s_nonzero a.q a.n a.opening0.now a.opening1.now (unknowns_of a.q a.n a.u.now a.r.now) v.result _ v.ensures.0 v.ensures.1.0 c.if-not-vanishes.true in
    (r.0, (r.1, v.ensures.1.1))

pub returns-then-not-vanishes-2 : goal.returns-then-not-vanishes-2
returns-then-not-vanishes-2 c =
    let a = c.args in
    let v = c.vanishes in
    let w = c.vanishes-2 in
    let r = e_nonzero a.q a.n a.opening0.now a.opening1.now (unknowns_of a.q a.n a.u.now a.r.now) v.result _ v.ensures.0 v.ensures.1.0 c.if-not-vanishes.false w.result _ w.ensures.0 w.ensures.1.0 c.if-not-vanishes-2.true in
    (r.0, (r.1, w.ensures.1.1 ∙ v.ensures.1.1))

pub returns : goal.returns
returns c =
    let a = c.args in
    let v = c.vanishes in
    let w = c.vanishes-2 in
    let r = both_zero a.q a.n a.opening0.now a.opening1.now (unknowns_of a.q a.n a.u.now a.r.now) v.result _ v.ensures.0 v.ensures.1.0 c.if-not-vanishes.false w.result _ w.ensures.0 w.ensures.1.0 c.if-not-vanishes-2.false in
    (r.0, (c.write_key.ensures ∙ r.1, w.ensures.1.1 ∙ v.ensures.1.1))
