-- The invariants of `write_secrets`. Assumes nothing.
use mathlib.Core.Path.{◌≡◌}
use Prim.Native.Nat.{◌*◌}
use lib.ListN.{length}
use lib.Seq.{paste}
use Rattle.round.specs.Extractor.{ternary_bytes}
use Rattle.round_search.specs.Internal.{unknowns_of, from}
use Rattle.round_search.proofs.write_secrets.Given as goal

abbrev pub invariant-loop-i : goal.invariant-loop-i
invariant-loop-i l = (length l.out ≡ length l.initial.out) × (l.out ≡ paste l.initial.out 0 (ternary_bytes l.q (2 * l.n) (from (unknowns_of l.q l.n l.u l.r) 0)) l.i)
