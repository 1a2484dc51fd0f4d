-- What a sheet's numbers must be (document 01, "Ring and scheme", "Sheet" and the refusals 3 and 4) in plain propositions: no test stands in them. Assumes nothing.
use Rattle.std.specs.Prelude.{◌≡◌, ℕ, ◌+◌, ◌*◌, ◌-◌, ◌/◌, ◌%◌, ◌^◌, ◌≤◌, ◌<◌}
use Rattle.sheet_numbers.specs.Plain.{plain, noise_bound_of}
use Rattle.sheet_numbers.specs.declared.Numbers.{Numbers}

-- 3: each number is in its range
pub record NumbersInRange (k : Numbers) : Type 0 where
  pub ring_low : 4 ≤ k.ring
  pub ring_high : k.ring ≤ 2048
  pub ring_power : (j : ℕ) × (k.ring ≡ 2 ^ j)
  pub modulus_low : 3 ≤ k.modulus
  pub modulus_high : k.modulus < 2 ^ 56
  pub plain_low : 2 ≤ plain k
  pub plain_high : plain k ≤ 251
  pub drown_high : k.drown ≤ 40
  pub rounds_low : 1 ≤ k.rounds
  pub rounds_high : k.rounds ≤ 128
  -- at least the largest m with 3^m ≤ 2^(rounds + m)
  pub repeats_low : (m : ℕ) → 3 ^ m ≤ 2 ^ (k.rounds + m) → m ≤ k.repeats
  pub repeats_high : k.repeats ≤ 256

-- 4: 2N divides q - 1, and (1 + 2^d) D is below (q - 1)/2
pub record NumbersSound (k : Numbers) : Type 0 where
  pub divided : (k.modulus - 1) % (2 * k.ring) ≡ 0
  pub noise_fits : (1 + 2 ^ k.drown) * noise_bound_of k < (k.modulus - 1) / 2
