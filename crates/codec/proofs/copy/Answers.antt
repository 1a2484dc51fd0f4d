-- `codec::copy` meets its contract. Assumes nothing.
use mathlib.Core.Path.{◌≡◌, ap, ◌∙◌}
use mathlib.Core.List.{List}
use Prim.Native.Nat.{ℕ, ◌+◌, ◌<◌}
use native.Mathlib.Numerals.{add-one}
use native.Mathlib.Omega.{arith}
use lib.ListN.{length, get_or, set}
use lib.Seq.{paste, paste-zero, paste-suc}
use Rattle.codec.proofs.Laws.{paste_all}
use Rattle.codec.proofs.copy.Goals as goal

-- a turn's store
step : (d₀ d s : List ℕ) (at i : ℕ) → d ≡ paste d₀ at s i → at + i < length d₀ → i < length s → set d (at + i) (get_or s i 0) ≡ paste d₀ at s (i + 1)
step d₀ d s at i e h k = rw (e, add-one) (paste-suc d₀ at s i 0 h k)

pub loop-i-init : goal.loop-i-init
loop-i-init c = paste-zero c.args.d.now c.args.at c.args.s.now

pub loop-i-preserved : goal.loop-i-preserved
loop-i-preserved c =
    let a = c.args in
    step a.d.now c.loop-i.d a.s.now a.at c.loop-i.i c.loop-i.invariant (omega arith) (omega arith)

pub returns : goal.returns
returns c = let a = c.args in c.loop-i.invariant ∙ ap (paste a.d.now a.at a.s.now) (omega arith) ∙ paste_all a.d.now a.at a.s.now
