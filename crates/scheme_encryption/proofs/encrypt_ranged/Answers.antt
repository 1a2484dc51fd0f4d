-- `encrypt_ranged` meets its contract. Assumes nothing.
use mathlib.Core.Path.{◌≡◌, sym, ◌∙◌}
use mathlib.Core.Bool.{true, false}
use mathlib.Core.List.{[], ◌∷◌}
use Rattle.codec.specs.Lists.{all_below}
use Rattle.scratch.specs.Call.{bytes_below}
use Rattle.scratch.proofs.Order.{last}
use Rattle.scheme_encryption.proofs.encrypt_ranged.Goals as goal

pub returns-then-not-is_ternary : goal.returns-then-not-is_ternary
returns-then-not-is_ternary c =
    let a = c.args in
    let r : all_below 3 a.r.now ≡ false = sym c.is_ternary.ensures ∙ c.if-not-is_ternary.true in
    rw r

pub returns-then-not-both_ternary : goal.returns-then-not-both_ternary
returns-then-not-both_ternary c =
    let a = c.args in
    let e : bytes_below 3 (a.e1.now ∷ a.e2.now ∷ []) ≡ false = sym c.both_ternary.ensures ∙ c.if-not-both_ternary.true in
    let r : all_below 3 a.r.now ≡ true = sym c.is_ternary.ensures ∙ c.if-not-is_ternary.false in
    rw (r, e)

pub returns : goal.returns
returns c =
    let a = c.args in
    let e : bytes_below 3 (a.e1.now ∷ a.e2.now ∷ []) ≡ true = sym c.both_ternary.ensures ∙ c.if-not-both_ternary.false in
    let r : all_below 3 a.r.now ≡ true = sym c.is_ternary.ensures ∙ c.if-not-is_ternary.false in
    rw (r, e) (last (all_below a.p a.m.now) c.is_message.ensures)
