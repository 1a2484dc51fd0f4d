-- The invariants of `absorb_blocks`. Assumes nothing.
use mathlib.Core.Path.{◌≡◌}
use Rattle.std.specs.Slice.Iter.{chunks_exact_rest, chunks_exact_size}
use Rattle.sha3.proofs.Blocks.{Left}
use Rattle.sha3.proofs.sponge.absorb_blocks.Given as goal

abbrev pub invariant-loop-block : goal.invariant-loop-block
invariant-loop-block l = (chunks_exact_size l.block-iterator ≡ 136) × Left l.fn.s l.m l.t (chunks_exact_rest l.block-iterator)
