-- `session_check::challenges_of` meets its contract. Assumes nothing.
use mathlib.Core.Path.{◌≡◌, ap, ◌∙◌}
use mathlib.Core.List.{List}
use Prim.Native.Nat.{ℕ, ◌-◌}
use native.Mathlib.Omega.{arith}
use lib.ListN.{length, take, replicate, length-replicate}
use lib.Seq.{take_at, length-take-le}
use Rattle.session_digests.specs.Draw.{drawn_challenges}
use Rattle.session_digests.proofs.Range.{length_challenges}
use Rattle.session_check.proofs.challenges_of.Goals as goal

pub returns : goal.returns
returns c =
    let a = c.args in
    let z : List ℕ = replicate 256 0 in
    let l : length (take (a.repeats - 0) z) ≡ a.repeats = length-take-le (a.repeats - 0) z (omega (arith, c.requires, length-replicate {A = ℕ} 256 0)) ∙ (omega arith) in
    let e = c.challenges.ensures ∙ ap (λ (n : ℕ). drawn_challenges a.seed.now a.round n) l in
    take_at _ _ a.repeats (ap length e ∙ length_challenges a.seed.now a.round a.repeats) ∙ e
