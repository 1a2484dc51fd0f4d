-- The sheet's polynomials, lent with a length that is a difference of places. Assumes nothing.
use mathlib.Core.Path.{◌≡◌, ap, ap₂}
use Prim.Native.Nat.{ℕ, ◌-◌, ◌*◌}
use native.Mathlib.Omega.{arith}
use lib.ListN.{take, drop}
use Rattle.codec.specs.Bytes.{Bytes}
use Rattle.sheet_numbers.specs.Plain.{plain}
use Rattle.sheet_numbers.specs.declared.Numbers.{Numbers}
use Rattle.commitment.specs.Loaded.{a_of, b_of, key_bytes}

module _ (k : Numbers) (s : Bytes) where
  abbrev n : ℕ
  n = k.ring

  one : 8 * n - 0 ≡ 8 * n
  one = omega arith

  two : 16 * n - 8 * n ≡ 8 * n
  two = omega arith

  three : 40 * n - 16 * n ≡ 24 * n
  three = omega arith

  pub a_cut : take (8 * n - 0) (drop 0 s) ≡ a_of k s
  a_cut = ap (λ (i : ℕ). take i (drop 0 s)) one

  pub b_cut : take (16 * n - 8 * n) (drop (8 * n) s) ≡ b_of k s
  b_cut = ap (λ (i : ℕ). take i (drop (8 * n) s)) two

  pub keys_cut : take (40 * n - 16 * n) (drop (16 * n) s) ≡ key_bytes k s
  keys_cut = ap (λ (i : ℕ). take i (drop (16 * n) s)) three

  -- what is made of p and a, or of p and b, where p is what code works out
  pub with_a : {A : Type 0} (f : ℕ → Bytes → A) {p : ℕ} → p ≡ plain k → f p (take (8 * n - 0) (drop 0 s)) ≡ f (plain k) (a_of k s)
  with_a f e = ap₂ f e a_cut

  pub with_b : {A : Type 0} (f : ℕ → Bytes → A) {p : ℕ} → p ≡ plain k → f p (take (16 * n - 8 * n) (drop (8 * n) s)) ≡ f (plain k) (b_of k s)
  with_b f e = ap₂ f e b_cut
