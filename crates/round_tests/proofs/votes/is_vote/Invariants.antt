-- The invariants of `is_vote`. Assumes nothing.
use mathlib.Core.Path.{◌≡◌}
use Prim.Native.Nat.{ℕ, ◌<◌}
use lib.ListN.{get_or}
use Rattle.ring.specs.Slots.{poly}
use Rattle.sheet_numbers.specs.Plain as numbers
use Rattle.bgv.specs.Scheme.{plaintext}
use Rattle.round_tests.proofs.votes.is_vote.Given as goal

abbrev pub invariant-loop-i : goal.invariant-loop-i
invariant-loop-i l = (j : ℕ) → j < l.i → get_or l.claim j 0 ≡ plaintext l.k.modulus (numbers.plain l.k) (poly l.work) j
