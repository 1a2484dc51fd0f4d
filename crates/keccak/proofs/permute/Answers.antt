-- `keccak::permute` meets its contract. Assumes nothing.
use mathlib.Core.Path.{◌≡◌, ap, ◌∙◌}
use Prim.Native.Nat.{ℕ, ◌+◌, ◌*◌}
use native.Mathlib.Omega.{arith}
use Rattle.keccak.specs.Keccak.{rounds, keccak}
use Rattle.keccak.specs.Internal.{flipped, six}
use Rattle.keccak.proofs.Flips.{back, four_flipped}
use Rattle.keccak.proofs.Lanes.{Words, rounds_words}
use Rattle.keccak.proofs.Shape.{array_words, keccak_shape}
use Rattle.keccak.proofs.permute.Goals as goal

pub loop-k-init : goal.loop-k-init
unfolding rounds
loop-k-init c = c.complemented-t.ensures

pub loop-k-preserved : goal.loop-k-preserved
loop-k-preserved c =
    let s = c.args.s in
    let l = c.loop-k in
    let n : 4 * l.k + 4 ≡ 4 * (l.k + 1) = omega arith in
    c.four_rounds-u.ensures
    ∙ four_flipped (4 * l.k) s l.t (record { word = λ x y hx hy. array_words s _ c.well_formed.0 x y }) l.invariant
    ∙ ap (λ (i : ℕ). flipped six (rounds i s)) n

pub returns : goal.returns
unfolding keccak
returns c =
    let s = c.args.s in
    let w : Words s = record { word = λ x y hx hy. array_words s _ c.well_formed.0 x y } in
    let l = c.loop-k in
    let n : l.k ≡ 6 = omega arith in
    c.complemented.ensures
    ∙ ap (flipped six) (l.invariant ∙ ap (λ (k : ℕ). flipped six (rounds (4 * k) s)) n)
    ∙ back six (rounds 24 s) (rounds_words 24 s w) (keccak_shape s)
