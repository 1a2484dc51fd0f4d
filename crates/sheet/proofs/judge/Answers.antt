-- `judge` meets its contract. Assumes nothing.
use mathlib.Core.Path.{sym, ◌∙◌}
use Rattle.sheet.proofs.Order.{read_as, taken_as}
use Rattle.sheet.proofs.judge.Goals as goal

pub returns-then-outside : goal.returns-then-outside
returns-then-outside c = read_as (rw (← c.outside.ensures, c.if-outside.true))

pub unsound-requires : goal.unsound-requires
unsound-requires c = sym c.outside.ensures ∙ c.if-outside.false

pub returns-then-unsound : goal.returns-then-unsound
returns-then-unsound c = read_as (rw (← c.outside.ensures, c.if-outside.false, ← c.unsound.ensures, c.if-unsound.true))

pub returns-then-not-all_are : goal.returns-then-not-all_are
returns-then-not-all_are c = read_as (rw (← c.outside.ensures, c.if-outside.false, ← c.unsound.ensures, c.if-unsound.false, ← c.all_are.ensures, c.if-not-all_are.true))

pub returns-then-not-all_below : goal.returns-then-not-all_below
returns-then-not-all_below c = read_as (rw (← c.outside.ensures, c.if-outside.false, ← c.unsound.ensures, c.if-unsound.false, ← c.all_are.ensures, c.if-not-all_are.false, ← c.all_below.ensures, c.if-not-all_below.true))

pub returns : goal.returns
returns c = taken_as (rw (← c.outside.ensures, c.if-outside.false, ← c.unsound.ensures, c.if-unsound.false, ← c.all_are.ensures, c.if-not-all_are.false, ← c.all_below.ensures, c.if-not-all_below.false))
