-- The invariants of `power_of_two`. Assumes nothing.
use Rattle.std.proofs.Common.{◌≡◌, ◌%◌, ◌^◌, ◌<◌}
use Rattle.montgomery.proofs.power_of_two.Given as goal

abbrev pub invariant-loop : goal.invariant-loop
invariant-loop l = (l.r ≡ 2 ^ l.counter % l.q) × (l.r < l.q)
