-- `ring_product::root::raised` meets its contract. Assumes nothing.
use mathlib.Core.Path.{◌≡◌}
use Prim.Native.Nat.{ℕ, ◌*◌, ◌%◌, ◌<◌}
use native.Mathlib.Nat.{mul_assoc, mul_comm, mul_left_comm}
use Rattle.std.proofs.Common.{rules, arith}
use Rattle.modular.specs.Internal.{ScaledProducts}
use Rattle.modular.proofs.Congruence.{same_eq, same_mod, ◌then◌}
use Rattle.montgomery.specs.Internal.{radix_inverse}
use Rattle.ring_product.proofs.root.raised.Goals as goal

-- Montgomery's product gives every product divided by 2^56
divided : {may : ℕ → ℕ → Type 0} {gives : ℕ → ℕ → ℕ → Type 0} (q : ℕ)
    → ((x y : ℕ) → x < q → y < q → may x y) → ((x y z : ℕ) → x < q → y < q → gives x y z → (z ≡ y * radix_inverse q * x % q) × (z < q))
    → ScaledProducts may gives q (radix_inverse q)
divided q t g = record {
  takes = t;
  below = λ x y z h l e. (g x y z h l e).1;
  is = λ x y z h l e. same_eq (g x y z h l e).0 then same_mod then same_eq (simp (mul_assoc, mul_comm, mul_left_comm));
}

pub power_by-requires : goal.power_by-requires
power_by-requires c = (c.args.q, radix_inverse c.args.q, omega arith, omega arith, divided c.args.q (λ x y h l. search rules) (λ x y z h l e. search rules))

pub returns : goal.returns
returns c = (c.power_by.ensures c.args.q (radix_inverse c.args.q) (omega arith) (omega arith) (divided c.args.q (λ x y h l. search rules) (λ x y z h l e. search rules))).0
