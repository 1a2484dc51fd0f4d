-- `register::admit` meets its contract. Assumes nothing.
use mathlib.Core.Path.{sym, ◌∙◌}
use native.Mathlib.Omega.{arith}
use Rattle.register.specs.Register.{mark_of}
use Rattle.register.proofs.Orders.{is_standing, is_withdrawn, is_full, is_free, silent, writes}
use Rattle.register.proofs.admit.Goals as goal

pub returns-then-is_standing : goal.returns-then-is_standing
unfolding mark_of
returns-then-is_standing c = silent _ _ _ (is_standing _ _ _ c.find-i.ensures.0 c.read32.ensures c.if-i-used.true (sym c.is_standing.ensures ∙ c.if-is_standing.true))

pub returns-then-i-used : goal.returns-then-i-used
unfolding mark_of
returns-then-i-used c = silent _ _ _ (is_withdrawn _ _ _ c.find-i.ensures.0 c.read32.ensures c.if-i-used.true (sym c.is_standing.ensures ∙ c.if-is_standing.false))

pub returns-then-used-eq4096 : goal.returns-then-used-eq4096
unfolding mark_of
returns-then-used-eq4096 c = silent _ _ _ (is_full _ _ _ c.find-i.ensures.0 c.read32.ensures c.if-i-used.false c.if-used-eq4096.true)

pub returns : goal.returns
unfolding mark_of
returns c = writes _ _ _ (is_free _ _ _ c.find-i.ensures.0 c.read32.ensures c.if-i-used.false c.if-used-eq4096.false) c.write_admitted.ensures

pub write_admitted-requires : goal.write_admitted-requires
write_admitted-requires c = (omega arith, c.requires.2)
