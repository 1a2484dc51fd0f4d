-- `ring_product::root::root` meets its contract. Assumes nothing.
use mathlib.Core.Path.{◌≡◌, refl, sym, ◌∙◌}
use mathlib.Core.Bool.{Bool, true, false}
use Prim.Native.Nat.{ℕ}
use native.Mathlib.Omega.{arith}
use Rattle.std.specs.Prelude.{IfSome}
use Rattle.std.specs.Bool.{then_some}
use Rattle.ring_transform.proofs.Roots.{root_sound}
use Rattle.ring_product.proofs.root.root.Goals as goal

-- what holds where a test is passed holds of the value that is then handed out
tested : (P : ℕ → Type 0) (b : Bool) (w : ℕ) → (b ≡ true → P w) → IfSome (then_some b w) P
tested P true w h = h refl
tested P false w h = tt

pub returns : goal.returns
returns c =
    let s = c.pays.ensures c.if-not-pays.false in
    rw c.then_some.ensures (tested _ c.is_root.result c.in_ok-w.w (λ e. record {
      modulus_low = s.0;
      modulus_high = c.requires;
      odd = s.1;
      ring_low = s.2;
      ring_high = s.3;
      ring_power = s.4;
      root = root_sound _ _ _ (omega (arith, s.0)) (sym c.is_root.ensures ∙ e);
    }))
