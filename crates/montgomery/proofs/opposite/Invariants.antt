-- The invariants of `opposite`: x is -1 / q modulo 2^bit. Assumes nothing.
use Rattle.std.proofs.Common.{◌≡◌, ◌+◌, ◌*◌, ◌%◌, ◌^◌, ◌<◌}
use Rattle.montgomery.proofs.opposite.Given as goal

abbrev pub invariant-loop-bit : goal.invariant-loop-bit
invariant-loop-bit l = (l.x < 2 ^ l.bit) × ((l.q0 * l.x + 1) % 2 ^ l.bit ≡ 0)
