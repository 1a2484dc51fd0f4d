-- The invariants of `challenges`. Assumes nothing.
use mathlib.Core.Path.{◌≡◌}
use Prim.Native.Nat.{◌/◌}
use lib.ListN.{length}
use Rattle.session_digests.specs.Draw as def
use Rattle.session_digests.proofs.Drawn.{drawn}
use Rattle.session_digests.proofs.drawing.challenges.Given as goal

abbrev pub invariant-loop-i : goal.invariant-loop-i
invariant-loop-i l =
    (l.out ≡ drawn l.seed l.round l.initial.out l.i) × (length l.out ≡ length l.initial.out) × (l.digest ≡ def.block l.seed l.round (l.i / 4)) × (length l.digest ≡ 32)
