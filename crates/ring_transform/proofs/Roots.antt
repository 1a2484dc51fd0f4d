-- The test of a root is that of its two conditions. Assumes nothing.
use mathlib.Core.Path.{◌≡◌, sym, ◌∙◌}
use mathlib.Core.Bool.{true}
use Prim.Native.Nat.{ℕ, ◌-◌, ◌%◌, ◌^◌, ◌<◌}
use native.Mathlib.Nat.{mod-eq_of_lt}
use native.Mathlib.Omega.{arith}
use borrow.Author.Tests.{ltb-true, lt-ltb, eqb-true, eq-eqb}
use lib.Dec.{eqb, ltb}
use Rattle.codec.proofs.Laws.{both}
use Rattle.modular.specs.Roots.{Root, is_root}

-- -1 is below q
last : (q : ℕ) → 0 < q → (q - 1) % q ≡ q - 1
last q h = mod-eq_of_lt (omega arith)

pub root_sound : (q N w : ℕ) → 0 < q → is_root q N w ≡ true → Root q N w
unfolding is_root
root_sound q N w h e =
    let t = both (ltb w q) (eqb (w ^ N % q) (q - 1)) e in
    record { below = ltb-true w q t.0; minus_one = record { is = eqb-true (w ^ N % q) (q - 1) t.1 ∙ sym (last q h) } }

pub root_complete : (q N w : ℕ) → 0 < q → Root q N w → is_root q N w ≡ true
unfolding is_root
root_complete q N w h r = rw (lt-ltb w q r.below) (eq-eqb (w ^ N % q) (q - 1) (r.minus_one.is ∙ last q h))
