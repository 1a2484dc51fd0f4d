-- The invariants of `test_noise`. Assumes nothing.
use mathlib.Core.Path.{◌≡◌}
use mathlib.Core.Bool.{Bool}
use Prim.Native.Nat.{ℕ, ◌+◌, ◌*◌}
use lib.ListN.{length}
use Rattle.codec.specs.Bytes.{Bytes}
use Rattle.ring.specs.Slots.{slot}
use Rattle.ring.specs.Ternary.{ternary}
use Rattle.bgv.specs.Scheme.{centred, noise_in, within}
use Rattle.round.specs.Layout.{ballot_length}
use Rattle.round.specs.Producer.{s_in}
use Rattle.round.proofs.Walk.{Walked}
use Rattle.round_material.proofs.noise.test_noise.Given as goal

-- the noise of the ballot at a place
abbrev pub quiet : (q n bound : ℕ) (secrets ballots : Bytes) (at : ℕ) → Bool
quiet q n bound secrets ballots at = within bound n (centred q (noise_in q n (ternary q (s_in n secrets)) (slot ballots (at + 4)) (slot ballots (at + 4 + 8 * n))))

abbrev pub invariant-loop-j : goal.invariant-loop-j
invariant-loop-j l =
    (length l.work ≡ length l.initial.work)
    × Walked (λ i. quiet l.q l.n l.bound l.secrets l.ballots (ballot_length l.n * i)) (ballot_length l.n) l.count l.j (ballot_length l.n * l.j)
