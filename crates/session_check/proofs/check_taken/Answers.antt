-- `session_check::check_taken` meets its contract. Assumes nothing.
use mathlib.Core.Path.{◌≡◌, sym, ap, ◌∙◌}
use Prim.Native.Nat.{ℕ, ◌-◌, min}
use native.Mathlib.Omega.{arith}
use lib.ListN.{length, take, length-take}
use Rattle.session_digests.proofs.Range.{length_challenges}
use Rattle.session_check.proofs.check_taken.Goals as goal

pub challenges_of-drawn-requires : goal.challenges_of-drawn-requires
challenges_of-drawn-requires c = c.requires.0.0.repeats_high

pub slice_bounds-check_drawn-end : goal.slice_bounds-check_drawn-end
slice_bounds-check_drawn-end c =
    let s = c.args.held in
    let d = c.challenges_of-drawn in
    let n : min s.numbers.repeats (length d.result) ≡ s.numbers.repeats = sym (length-take s.numbers.repeats d.result) ∙ ap length d.ensures ∙ length_challenges _ _ _ in
    omega (arith, n)

pub check_drawn-requires : goal.check_drawn-requires
check_drawn-requires c =
    let s = c.args.held in
    let p = c.requires in
    let m : s.numbers.repeats - 0 ≡ s.numbers.repeats = omega arith in
    let d = c.challenges_of-drawn in
    (p.0, p.1, p.2, c.side-side.ensures.0, ap (λ (i : ℕ). take i d.result) m ∙ d.ensures)

pub returns : goal.returns
returns c = c.check_drawn.ensures
