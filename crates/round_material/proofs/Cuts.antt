-- The tests over the sheet's polynomials and the secrets, lent with lengths that are differences of places. Assumes nothing.
use mathlib.Core.Path.{◌≡◌, ap₂, ◌∙◌}
use mathlib.Core.Bool.{Bool}
use Prim.Native.Nat.{ℕ, ◌-◌, ◌*◌}
use native.Mathlib.Omega.{arith}
use lib.ListN.{take, drop}
use Rattle.codec.specs.Bytes.{Bytes, same}
use Rattle.ring.specs.Slots.{coefficient_bytes, poly}
use Rattle.ring.specs.Ternary.{ternary}
use Rattle.sheet_numbers.specs.Plain.{plain}
use Rattle.sheet_numbers.specs.declared.Numbers.{Numbers}
use Rattle.bgv.specs.Scheme.{key}
use Rattle.commitment.specs.Loaded.{a_of, b_of}
use Rattle.round.specs.Producer.{key_matches}
use Rattle.commitment.specs.Parameters.{parameters}
use Rattle.commitment.proofs.Cut.{a_cut, b_cut}

module _ (k : Numbers) (s secrets : Bytes) where
  abbrev n : ℕ
  n = k.ring

  abbrev q : ℕ
  q = k.modulus

  abbrev matched : (a b : Bytes) (i j : ℕ) → Bool
  matched a b i j =
      same (coefficient_bytes q n (key q n (plain k) (poly a) (ternary q (take i (drop 0 secrets))) (ternary q (take j (drop n secrets))))) (coefficient_bytes q n (poly b))

  one : n - 0 ≡ n
  one = omega arith

  two : 2 * n - n ≡ n
  two = omega arith

  pub key_cut : {r : Bool} → r ≡ matched (take (8 * n - 0) (drop 0 s)) (take (16 * n - 8 * n) (drop (8 * n) s)) (n - 0) (2 * n - n) → r ≡ key_matches (parameters k s) secrets
  key_cut e = e ∙ ap₂ (λ (a b : Bytes). matched a b (n - 0) (2 * n - n)) (a_cut k s) (b_cut k s) ∙ ap₂ (matched (a_of k s) (b_of k s)) one two
